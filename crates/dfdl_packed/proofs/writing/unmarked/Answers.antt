use Rattle.std.proofs.Common.{◌≡◌, ℕ, ◌-◌, ◌≤◌, List, [], ◌++◌, take, drop, replicate, refl, ap, sym, ◌∙◌, zero-add, arith}
use Rattle.std.proofs.lemmas.List.{append-nil}
use Rattle.dfdl_packed.specs.Digits.{padded_digits}
use Rattle.dfdl_packed.proofs.FillLemmas.{length-padded_digits, filled_behind}
use Rattle.dfdl_packed.proofs.WritingLemmas.{ibm_refused, ibm_accepted}
use Rattle.dfdl_packed.proofs.writing.unmarked.Goals as goal

pub returns-then-len-count-clause-nibbles : goal.returns-then-len-count-clause-nibbles
returns-then-len-count-clause-nibbles c =
    ibm_refused c.args.count c.args.size c.len-len.result [] c.requires c.len-len.ensures.digits (omega arith) (omega arith)

pub returns-clause-nibbles : goal.returns-clause-nibbles
returns-clause-nibbles c =
    let n : ℕ = c.args.size in
    let len : ℕ = c.len-len.result in
    let count : ℕ = c.args.count in
    let places = c.places_of-nibbles.result in
    let enough : len ≤ count = omega arith in
    let back : count - (count - len) ≡ len = omega arith in
    let digits : List ℕ = padded_digits len n in
    let filled : c.fill.new.places ≡ take (count - len) places ++ (digits ++ drop count places) = rw back at c.fill.ensures.filled in
    let written : take count c.fill.new.places ≡ replicate (count - len) 15 ++ digits =
    ap (take count) filled
    ∙ filled_behind places digits (count - len) count (omega (arith, c.places_of-nibbles.ensures.long)) (length-padded_digits len n ∙ sym back) (omega arith)
    ∙ ap (λ (xs : List ℕ). xs ++ digits) (c.places_of-nibbles.ensures.alike (count - len) (omega arith)) in
    ibm_accepted count n len [] c.requires c.len-len.ensures.digits (omega arith)
    ∙ rw (zero-add, append-nil, written) refl
