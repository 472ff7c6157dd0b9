use Rattle.std.proofs.Common.{◌≡◌, ℕ, ◌+◌, ◌*◌, ◌^◌, ap, sym, ◌∙◌, arith}
use Rattle.dfdl_packed.proofs.Powers.{one_more, zeros_le}
use Rattle.dfdl_packed.proofs.size.with_zeros.Goals as goal

pub returns-in_default : goal.returns-in_default
returns-in_default c = λ fits.
    let place : ℕ = c.loop-zero._zero in
    let product : c.loop-zero.product ≡ c.args.number * 10 ^ place = c.loop-zero.invariant.product in
    c.in_default.ensures (omega (arith, one_more c.args.number place, zeros_le c.args.number (place + 1) c.args.zeros (omega arith)))

pub loop-zero-preserved : goal.loop-zero-preserved
loop-zero-preserved c =
    let product : c.in-Some.more ≡ c.args.number * 10 ^ (c.loop-zero._zero + 1) =
    c.in-Some.ensures.1 ∙ ap (λ (p : ℕ). p * 10) c.loop-zero.invariant.product ∙ sym (one_more c.args.number c.loop-zero._zero) in
    record { product = product; fits = omega (arith, c.in-Some.ensures.0, c.in-Some.ensures.1) }

pub returns : goal.returns
returns c =
    let over : c.loop-zero._zero ≡ c.args.zeros = omega arith in
    let product : c.loop-zero.product ≡ c.args.number * 10 ^ c.args.zeros = c.loop-zero.invariant.product ∙ ap (λ (k : ℕ). c.args.number * 10 ^ k) over in
    (omega (arith, c.loop-zero.invariant.fits), product)
