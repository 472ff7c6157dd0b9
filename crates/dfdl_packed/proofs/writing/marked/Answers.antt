use Rattle.std.proofs.Common.{◌≡◌, ℕ, ◌+◌, ◌-◌, ◌<◌, ◌≤◌, List, [], ◌∷◌, ◌++◌, length, take, drop, set, replicate, length-set, refl, ap, sym, ◌∙◌, arith}
use Rattle.std.proofs.lemmas.List.{take_more_set}
use Rattle.dfdl_packed.specs.Digits.{padded_digits}
use Rattle.dfdl_packed.proofs.FillLemmas.{length-padded_digits, filled_behind, set_low}
use Rattle.dfdl_packed.proofs.WritingLemmas.{ibm_refused, ibm_accepted}
use Rattle.dfdl_packed.proofs.writing.marked.Goals as goal

pub returns-then-len-count-clause-nibbles : goal.returns-then-len-count-clause-nibbles
returns-then-len-count-clause-nibbles c =
    ibm_refused c.args.count c.args.size c.len-len.result (13 ∷ []) c.requires c.len-len.ensures.digits (omega arith) (omega arith)

pub returns-clause-nibbles : goal.returns-clause-nibbles
returns-clause-nibbles c =
    let n : ℕ = c.args.size in
    let len : ℕ = c.len-len.result in
    let count : ℕ = c.args.count in
    let begin : ℕ = count - len in
    let front : ℕ = count - (1 + len) in
    let all = c.places_of-nibbles.result in
    let places : List ℕ = set all (begin - 1) 13 in
    let enough : len + 1 ≤ count = omega arith in
    let back : count - (count - len) ≡ len = omega arith in
    let mark : begin - 1 ≡ front = omega arith in
    let next : begin ≡ front + 1 = omega arith in
    let long : length places ≡ 39 = omega (arith, length-set all (begin - 1) 13, c.places_of-nibbles.ensures.long) in
    let digits : List ℕ = padded_digits len n in
    let filled : c.fill.new.places ≡ take begin places ++ (digits ++ drop count places) = rw back at c.fill.ensures.filled in
    let marked : take begin places ≡ replicate front 15 ++ 13 ∷ [] =
    ap (λ (k : ℕ). take k places) next
    ∙ ap (λ (k : ℕ). take (front + 1) (set all k 13)) mark
    ∙ take_more_set all front 13 (omega (arith, c.places_of-nibbles.ensures.long))
    ∙ ap (λ (xs : List ℕ). xs ++ 13 ∷ []) (c.places_of-nibbles.ensures.alike front (omega arith)) in
    let written : take count c.fill.new.places ≡ replicate front 15 ++ 13 ∷ [] ++ digits =
    ap (take count) filled
    ∙ filled_behind places digits begin count (omega arith) (length-padded_digits len n ∙ sym back) (omega arith)
    ∙ ap (λ (xs : List ℕ). xs ++ digits) marked in
    ibm_accepted count n len (13 ∷ []) c.requires c.len-len.ensures.digits (omega arith)
    ∙ rw written refl

pub returns-clause-fit : goal.returns-clause-fit
returns-clause-fit c = λ k.
    let inside : c.args.count - c.len-len.result - 1 < length c.places_of-nibbles.result = omega (arith, c.places_of-nibbles.ensures.long) in
    c.fill.ensures.low k (set_low c.places_of-nibbles.result (c.args.count - c.len-len.result - 1) 13 k inside (omega arith) (c.places_of-nibbles.ensures.low k))
