-- A number without its trailing zeros, divided by a power of ten.
use Rattle.std.proofs.Common.{◌≡◌, ◌≢◌, ℕ, ◌+◌, ◌-◌, ◌*◌, ◌%◌, ◌^◌, ◌<◌, ◌≤◌, Bool, Option, Some, None, inl, inr, refl, ap, sym, ◌∙◌, zero-add, mul-one, mul_assoc, arith}
use Rattle.std.proofs.lemmas.Bool.{cases_lt}
use Rattle.std.proofs.lemmas.Nat.{pow-add}
use Rattle.dfdl_decimal.specs.Decimal.{shortest_from, with_sign}
use Rattle.dfdl_forms.specs.declared.simple.Form.{Form}
use Rattle.dfdl_decimal.proofs.FixedLemmas.{shortest_from-shift}
use Rattle.dfdl_value.proofs.NumberLemmas.{number_reading-same}
use Rattle.dfdl_value.specs.Numbers.{number_reading}
use Rattle.dfdl_value.specs.ReadValues.{Reading}
use Rattle.dfdl_packed.specs.declared.size.Size.{Size}
use Rattle.dfdl_packed.specs.Sizes.{IsHeld, Shows}

-- more zeros than the point: they are divided off
zeros_divided : (m z point : ℕ) → point ≤ z → m * 10 ^ z ≡ m * 10 ^ (z - point) * 10 ^ point
zeros_divided m z point enough =
    let cut : z ≡ z - point + point = omega arith in
    ap (λ (e : ℕ). m * 10 ^ e) cut ∙ ap (λ (p : ℕ). m * p) (pow-add 10 (z - point) point) ∙ sym (mul_assoc m (10 ^ (z - point)) (10 ^ point))

-- zeros behind the point are cut off, and those in front of it stay
same_number : (negative : Bool) (m z point : ℕ)
    → shortest_from point (with_sign negative (m * 10 ^ z)) ≡ shortest_from (point - z) (with_sign negative (m * 10 ^ (z - point)))
same_number negative m z point = elim (cases_lt z point) [
  | inl few ↦
      let cut : point ≡ point - z + z = omega arith in
      let none : z - point ≡ 0 = omega arith in
      ap (λ (s : ℕ). shortest_from s (with_sign negative (m * 10 ^ z))) cut
      ∙ shortest_from-shift z (point - z) negative m
      ∙ ap (λ (x : ℕ). shortest_from (point - z) (with_sign negative x)) (sym (ap (λ (k : ℕ). m * 10 ^ k) none ∙ mul-one m))
  | inr enough ↦
      let none : 0 ≡ point - z = omega arith in
      let x : ℕ = m * 10 ^ (z - point) in
      ap (λ (n : ℕ). shortest_from point (with_sign negative n)) (zeros_divided m z point enough)
      ∙ ap (λ (s : ℕ). shortest_from s (with_sign negative (x * 10 ^ point))) (sym (zero-add point))
      ∙ shortest_from-shift point 0 negative x
      ∙ ap (λ (s : ℕ). shortest_from s (with_sign negative x)) none
]

-- what is said of the number with its zeros in front of the point is said of the whole
pub reading_is : (form : Form) (negative : Bool) (n : ℕ) (size : Size) (point : ℕ) (held : Option ℕ) (scale : ℕ) (got : Reading)
    → Shows size n → ((m : ℕ) → IsHeld size.mantissa m → IsHeld held (m * 10 ^ (size.zeros - point))) → scale ≡ point - size.zeros
    → ((v : ℕ) → held ≡ Some v → got ≡ number_reading form (record { mantissa = with_sign negative v; scale = scale }))
    → (held ≡ None → (v : ℕ) → 2 ^ 128 ≤ v → (0 < scale → v % 10 ≢ 0)
    → got ≡ number_reading form (record { mantissa = with_sign negative v; scale = scale }))
    → got ≡ number_reading form (record { mantissa = with_sign negative n; scale = point })
reading_is form negative n size point held scale got shows kept behind at_some at_none =
    by held refl (kept shows.0 shows.3) ∙ sym (number_reading-same form _ _ same)
  where
    x : ℕ
    x = shows.0 * 10 ^ (size.zeros - point)

    same : shortest_from point (with_sign negative n) ≡ shortest_from scale (with_sign negative x)
    same =
        ap (λ (k : ℕ). shortest_from point (with_sign negative k)) shows.1
        ∙ same_number negative shows.0 size.zeros point
        ∙ ap (λ (s : ℕ). shortest_from s (with_sign negative x)) (sym behind)

    odd : 2 ^ 128 ≤ x → 0 < scale → x % 10 ≢ 0
    odd large some even =
        let none : size.zeros - point ≡ 0 = omega (arith, behind) in
        let plain : x ≡ shows.0 = ap (λ (k : ℕ). shows.0 * 10 ^ k) none ∙ mul-one shows.0 in
        let zero : shows.0 ≡ 0 = shows.2 (ap (λ (k : ℕ). k % 10) (sym plain) ∙ even) in
        omega (arith, plain)

    by : (o : Option ℕ) → held ≡ o → IsHeld o x → got ≡ number_reading form (record { mantissa = with_sign negative x; scale = scale })
    by None is large = at_none is x large (odd large)
    by (Some v) is e = at_some v is ∙ ap (λ (k : ℕ). number_reading form (record { mantissa = with_sign negative k; scale = scale })) e
