-- Lemmas on the value that carries a number.
use Rattle.std.proofs.Common.{◌≡◌, ◌≢◌, ℕ, zero, suc, ◌%◌, ◌^◌, ◌<◌, ◌≤◌, Bool, true, false, ◌&&◌, nat_lt, if◌then◌else◌, refl, sym, ap, ◌∙◌, arith, ℤ, pos, negsuc, unsigned_abs, Some, None, option_map}
use Rattle.std.proofs.lemmas.Bool.{le-ltb, eq-eqb, ne_eqb}
use Rattle.std.proofs.lemmas.Bool.Decides.{nat_tests}
use Rattle.dfdl_decimal.specs.Decimal.{DecimalNumber, shortest_from, is_small, fixed_of, with_sign}
use Rattle.dfdl_decimal.proofs.FixedLemmas.{unsigned_abs-with_sign, shortest_from-fixed}
use Rattle.dfdl_value.specs.declared.value.Value.TheVariants.{Dec}
use Rattle.dfdl_operators.specs.Numbers.{held, held_whole, held_shortest}

abbrev at : Bool → ℕ → ℕ → DecimalNumber
at b n s = record { mantissa = with_sign b n; scale = s }

-- no value carries a whole number of more than 128 bits
held_whole-far : (z : ℤ) → 2 ^ 128 ≤ unsigned_abs z → held_whole z ≡ None
held_whole-far (pos n) far = grind (arith, nat_tests)
held_whole-far (negsuc n) far = grind (arith, nat_tests)

-- nor a fraction of more than 38 digits
held_shortest-long : (b : Bool) (n s : ℕ) → 0 < s → 10 ^ 38 ≤ n → held_shortest (at b n s) ≡ None
held_shortest-long b n s some long =
    let past : 10 ^ 38 ≤ unsigned_abs (with_sign b n) = rw unsigned_abs-with_sign long in
    ap (λ t. if t then held_whole (with_sign b n) else if is_small (at b n s) then Some (Dec (at b n s)) else None) (ne_eqb s 0 (λ e. omega arith))
    ∙ ap (λ t. if t && nat_lt s 256 then Some (Dec (at b n s)) else None) (le-ltb _ _ past)

held_shortest-far : (b : Bool) (n s : ℕ) → 2 ^ 128 ≤ n → held_shortest (at b n s) ≡ None
held_shortest-far b n zero far = held_whole-far (with_sign b n) (rw unsigned_abs-with_sign far)
held_shortest-far b n (suc s) far = held_shortest-long b n (suc s) (omega arith) (omega arith)

choice : (t : Bool) (e : DecimalNumber) → (if t then Some (Dec e) else None) ≡ option_map Dec (if t then Some e else None)
choice true e = refl
choice false e = refl

-- a number whose digits behind the point don't end in zero, however it is written
module _ (d : DecimalNumber) (b : Bool) (n s : ℕ) (same : shortest_from s (with_sign b n) ≡ shortest_from d.scale d.mantissa) (last : 0 < s → n % 10 ≢ 0) where
  short : shortest_from d.scale d.mantissa ≡ at b n s
  short = sym same ∙ shortest_from-fixed (with_sign b n) s (λ some. rw unsigned_abs-with_sign (last some))

  pub held-whole : s ≡ 0 → held_whole (with_sign b n) ≡ held d
  held-whole none =
      sym (ap held_shortest short
      ∙ ap (λ t. if t then held_whole (with_sign b n) else if is_small (at b n s) then Some (Dec (at b n s)) else None) (eq-eqb s 0 none))

  pub held-fraction : s ≢ 0 → held d ≡ option_map Dec (fixed_of d)
  held-fraction some =
      ap held_shortest short
      ∙ ap (λ t. if t then held_whole (with_sign b n) else if is_small (at b n s) then Some (Dec (at b n s)) else None) (ne_eqb s 0 some)
      ∙ choice (is_small (at b n s)) (at b n s)
      ∙ ap (λ e. option_map Dec (if is_small e then Some e else None)) (sym short)

  pub held-far : 2 ^ 128 ≤ n → held d ≡ None
  held-far far = ap held_shortest short ∙ held_shortest-far b n s far

  pub held-long : 0 < s → 10 ^ 38 ≤ n → held d ≡ None
  held-long some long = ap held_shortest short ∙ held_shortest-long b n s some long
