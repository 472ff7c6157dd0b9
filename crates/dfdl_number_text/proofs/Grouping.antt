-- Where a group of digits ends, counted from the last digit.
use Rattle.std.proofs.Common.{◌≡◌, ◌≢◌, ℕ, suc, ◌+◌, ◌*◌, ◌%◌, ◌==◌, ◌&&◌, ◌<◌, Bool, true, false, not, nat_lt, if◌then◌else◌, inl, inr, refl, ap, sym, ◌∙◌, add-one, arith}
use Rattle.std.proofs.lemmas.Bool.{cases_eq, cases_lt, and_parts, eqb-true, eq-eqb, ne_eqb, lt-ltb, le-ltb}
use Rattle.std.proofs.lemmas.Nat.{mod-mul-add}
use Rattle.std.proofs.Math.Nat.{mod-eq_of_lt, suc-mod}
use Rattle.dfdl_number_text.specs.Written.{IsInGroup}

no_right : (a : Bool) → (a && false) ≡ false
no_right true = refl
no_right false = refl

mod_self : (size : ℕ) → 0 < size → size % size ≡ 0
mod_self size some =
    let once : size ≡ 1 * size + 0 = omega arith in
    ap (λ (n : ℕ). n % size) once ∙ mod-mul-add 1 size 0 some

full_rest : (size behind count : ℕ) → 0 < size → IsInGroup size behind count → count ≡ size → behind % size ≡ 0
full_rest size behind count some is full = is.same some ∙ ap (λ (n : ℕ). n % size) full ∙ mod_self size some

part_rest : (size behind count : ℕ) → 0 < size → IsInGroup size behind count → count ≢ size → behind % size ≡ count
part_rest size behind count some is other =
    let within = is.within some in
    is.same some ∙ mod-eq_of_lt (omega (arith, within, other))

ends_grouped : (size behind count : ℕ) → 0 < size → 0 < count → IsInGroup size behind count → (count == size) ≡ (behind % size == 0)
ends_grouped size behind count some digits is = elim (cases_eq count size) [
  | inl full ↦ eq-eqb count size full ∙ sym (eq-eqb (behind % size) 0 (full_rest size behind count some is full))
  | inr part ↦ ne_eqb count size part ∙ sym (ne_eqb (behind % size) 0 (λ none. omega (arith, none, part_rest size behind count some is part, digits)))
]

pub ends_is : (size behind count : ℕ) → IsInGroup size behind count
    → (not (count == 0) && (count == size)) ≡ (not (size == 0) && (nat_lt 0 behind && (behind % size == 0)))
ends_is size behind count is = elim (cases_eq size 0) [
  | inl none ↦ elim (cases_eq count 0) [
    | inl empty ↦ rw (eq-eqb size 0 none, eq-eqb count 0 empty) refl
    | inr some ↦ rw (eq-eqb size 0 none, ne_eqb count size (λ same. some (same ∙ none))) (no_right (not (count == 0)))
  ]
  | inr grouped ↦ elim (cases_lt 0 behind) [
    | inl digits ↦
        let some = is.some digits in
        rw (ne_eqb size 0 grouped, lt-ltb 0 behind digits, ne_eqb count 0 (λ none. omega (arith, none, some)))
        (ends_grouped size behind count (omega (arith, grouped)) some is)
    | inr nothing ↦
        let few = is.few in
        rw (ne_eqb size 0 grouped, le-ltb 0 behind nothing, eq-eqb count 0 (omega (arith, few, nothing))) refl
  ]
]

more_same : (size behind count : ℕ) → 0 < size → behind % size ≡ count % size → (behind + 1) % size ≡ (count + 1) % size
more_same size behind count some same =
    rw (add-one, add-one) (suc-mod behind size ∙ ap (λ (n : ℕ). suc n % size) same ∙ sym (suc-mod count size))

not_full : (size count : ℕ) → 0 < size → false ≡ (not (count == 0) && (count == size)) → count ≢ size
not_full size count some told full =
    let test : (not (count == 0) && (count == size)) ≡ true = rw (ne_eqb count 0 (λ none. omega (arith, none, full, some)), eq-eqb count size full) refl in
    let never : false ≡ true = told ∙ test in
    absurd cc

pub next_in_group : (size behind count : ℕ) (ends : Bool) → IsInGroup size behind count → ends ≡ (not (count == 0) && (count == size))
    → IsInGroup size (behind + 1) (if ends then 1 else count + 1)
next_in_group size behind count true is told =
    let parts = and_parts (not (count == 0)) (count == size) (sym told) in
    let full : count ≡ size = eqb-true count size parts.1 in
    record {
      few = omega arith;
      some = λ _. omega arith;
      within = λ some. omega (arith, some);
      same = λ some. more_same size behind 0 some (full_rest size behind count some is full ∙ sym (mod-eq_of_lt some));
    }
next_in_group size behind count false is told =
    let few = is.few in
    record {
      few = omega (arith, few);
      some = λ _. omega arith;
      within = λ some. let within = is.within some in let part = not_full size count some told in omega (arith, within, part);
      same = λ some. more_same size behind count some (is.same some);
    }
