use Rattle.std.proofs.Common.{◌≡◌, ◌*ℤ◌, pos, FitsSigned, ℕ, ◌+◌, ℤ, to_z, of_z, ap, ◌∙◌, arith}
use Rattle.std.specs.Int.{w128}
use Rattle.std.proofs.lemmas.Int.{to_z-of_z}
use Rattle.dfdl_int_binary.proofs.Scaled.{zeros_more, zeros_fit}
use Rattle.dfdl_int_binary.proofs.decimal.with_zeros.Goals as goal

pub returns-in_default : goal.returns-in_default
returns-in_default c = λ fits.
    let whole : to_z w128 (of_z w128 c.args.integer) ≡ c.args.integer = to_z-of_z w128 c.args.integer c.ranges.integer in
    let place : ℕ = c.loop-place._place in
    c.in_default.ensures
    (rw (c.loop-place.invariant, zeros_more (to_z w128 (of_z w128 c.args.integer)) place, whole)
    (zeros_fit c.args.integer (place + 1) c.args.places (omega arith) fits))

pub loop-place-preserved : goal.loop-place-preserved
loop-place-preserved c =
    let product = c.in-Some.ensures in
    let fits : FitsSigned w128 c.in-Some.more = rw product.1 product.0 in
    to_z-of_z w128 c.in-Some.more fits
    ∙ product.1
    ∙ ap (λ (p : ℤ). p *ℤ pos 10) c.loop-place.invariant
    ∙ zeros_more (to_z w128 (of_z w128 c.args.integer)) c.loop-place._place
