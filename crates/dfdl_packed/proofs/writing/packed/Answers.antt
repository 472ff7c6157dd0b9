use Rattle.std.proofs.Common.{◌≡◌, ℕ, ◌+◌, ◌-◌, ◌^◌, ◌<◌, List, [], ◌∷◌, ◌++◌, length, take, drop, set, get_or, nat_lt, true, unsigned_abs, length-set, get_or-set_same, refl, ap, sym, ◌∙◌, arith}
use Rattle.dfdl_forms.specs.Types.{form_of}
use Rattle.dfdl_packed.specs.Digits.{padded_digits}
use Rattle.dfdl_packed.specs.Packed.{code_in}
use Rattle.dfdl_packed.proofs.FillLemmas.{length-padded_digits, filled_front_more, set_low}
use Rattle.dfdl_packed.proofs.writing.packed.Goals as goal

pub returns-clause-nibbles : goal.returns-clause-nibbles
returns-clause-nibbles c = λ z negative size.
    let count : ℕ = c.args.form.now.nibbles in
    let len : ℕ = count - 1 in
    let places : List ℕ = set c.places_of-nibbles.result len c.code.result in
    let all : len + 1 ≡ count = omega (arith, c.requires.form.some) in
    let none : len - 0 ≡ len = omega arith in
    let inside : len < length c.places_of-nibbles.result = omega (arith, c.requires.form.short, c.places_of-nibbles.ensures.long) in
    let within : len < length places = omega (arith, length-set c.places_of-nibbles.result len c.code.result) in
    let room : nat_lt (unsigned_abs z) (10 ^ len) ≡ true = rw (← size, ← none) (sym c.fill.ensures.all ∙ c.if-not-fill.false) in
    let code : c.code.result ≡ code_in (form_of c.args.form.now.kind) c.args.form.now.codes z = c.code.ensures.code z negative (c.is_zero.ensures ∙ rw size refl) in
    let digits : List ℕ = padded_digits len (unsigned_abs z) in
    let filled : c.fill.new.places ≡ digits ++ drop len places = rw (none, size) at c.fill.ensures.filled in
    let front : take (len + 1) (take 0 places ++ (digits ++ drop len places)) ≡ digits ++ get_or places len 0 ∷ [] =
    filled_front_more places digits len (length-padded_digits len (unsigned_abs z)) within in
    let written : take count c.fill.new.places ≡ digits ++ c.code.result ∷ [] =
    ap (take count) filled ∙ (rw (all, get_or-set_same c.places_of-nibbles.result len c.code.result 0 inside) at front) in
    rw (room, written, code) refl

pub returns-clause-fit : goal.returns-clause-fit
returns-clause-fit c = λ k.
    let inside : c.args.form.now.nibbles - 1 < length c.places_of-nibbles.result = omega (arith, c.requires.form.short, c.requires.form.some, c.places_of-nibbles.ensures.long) in
    c.fill.ensures.low k (set_low c.places_of-nibbles.result (c.args.form.now.nibbles - 1) c.code.result k inside c.code.ensures.low (c.places_of-nibbles.ensures.low k))
