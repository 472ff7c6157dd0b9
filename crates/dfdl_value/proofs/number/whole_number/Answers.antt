use Rattle.std.proofs.Common.{◌≡◌, ℕ, ◌^◌, ◌<◌, ◌≤◌, Option, ap, subst, arith}
use Rattle.std.specs.Option.{SomeIff}
use Rattle.dfdl_decimal.specs.Decimal.{with_sign}
use Rattle.dfdl_decimal.proofs.FixedLemmas.{unsigned_abs-with_sign}
use Rattle.dfdl_value.specs.Numbers.{whole_if_short}
use Rattle.dfdl_value.proofs.number.whole_number.Goals as goal

pub returns-in-None : goal.returns-in-None
returns-in-None c = λ n past.
    let P : Option ℕ → Type 0 = λ m. SomeIff m (n < 2 ^ 128) n in
    let more : ¬ (n < 2 ^ 128) = subst P c.in-None.is past in
    let none : c.args.scale ≡ 0 = omega arith in
    let far : 2 ^ 128 ≤ n = omega (arith, more) in (
      with_sign c.args.negative n,
      ap (λ s. whole_if_short (record { mantissa = with_sign c.args.negative n; scale = s })) none,
      rw unsigned_abs-with_sign far,
    )
