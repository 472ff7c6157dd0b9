-- Lemmas on signs and magnitudes.
use Rattle.std.proofs.Common.{◌≡◌, ℕ, zero, suc, ◌*◌, Bool, true, false, not, refl, sym, ap, ◌∙◌, arith, pos, neg_ℤ, ◌*ℤ◌}
use Rattle.std.specs.Bool.{beq}
use Rattle.std.proofs.Math.Nat.{zero-mul}
use Rattle.dfdl_decimal.specs.Decimal.{with_sign}
use Rattle.dfdl_decimal.proofs.SumLemmas.{mul-with_sign}

-- a product by its sign and its magnitude
pub mul-signs : (a b : Bool) (x y : ℕ) → with_sign (not (beq a b)) (x * y) ≡ with_sign a x *ℤ with_sign b y
mul-signs false false x y = refl
mul-signs true false x y = sym (mul-with_sign true x y)
mul-signs false true x zero =
    let e : x * 0 ≡ 0 = omega arith in
    ap (λ k. neg_ℤ (pos k)) e ∙ ap pos (sym e)
mul-signs false true x (suc y) = refl
mul-signs true true zero zero = refl
mul-signs true true zero (suc y) = ap pos (zero-mul (suc y)) ∙ ap (λ k. neg_ℤ (pos k)) (sym (zero-mul (suc y)))
mul-signs true true (suc x) zero =
    let e : suc x * 0 ≡ 0 = omega arith in
    ap pos e ∙ ap (λ k. neg_ℤ (pos k)) (sym e)
mul-signs true true (suc x) (suc y) = refl
