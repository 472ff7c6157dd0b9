use Rattle.std.proofs.Common.{ℕ, length, ◌≤◌, ◌^◌, ◌++◌, sym, ap, ◌∙◌, arith}
use Rattle.dfdl_decimal.specs.Decimal.{DecimalNumber, fixed_of, with_sign}
use Rattle.dfdl_value.specs.Texts.{number_of}
use Rattle.dfdl_value.proofs.DecimalLemmas.{fixed_of-many, fixed_of-long, fixed_of-kept}
use Rattle.dfdl_value.proofs.decimal.fixed_from.Goals as goal

pub returns-in_default : goal.returns-in_default
returns-in_default c =
    let kept = c.without_trailing_zeros-kept.result.now in
    let many : 10 ^ 38 ≤ number_of (c.args.whole.now ++ kept) = omega (arith, c.in_default.ensures) in
    sym (fixed_of-many c.args.negative c.args.whole.now c.args.fraction.now kept c.requires.fraction c.without_trailing_zeros-kept.ensures.kept many)

pub returns-then-kept-gt255 : goal.returns-then-kept-gt255
returns-then-kept-gt255 c = sym (fixed_of-long c.args.negative c.args.whole.now c.args.fraction.now _ c.requires.fraction c.without_trailing_zeros-kept.ensures.kept (omega arith))

pub returns : goal.returns
returns c =
    let P : ℕ → DecimalNumber = λ n. record { mantissa = with_sign c.args.negative n; scale = length c.without_trailing_zeros-kept.result.now } in
    c.shortest.ensures
    ∙ ap (λ n. fixed_of (P n)) c.in-Some.ensures.1
    ∙ sym (fixed_of-kept c.args.negative c.args.whole.now c.args.fraction.now _ c.requires.fraction c.without_trailing_zeros-kept.ensures.kept)
