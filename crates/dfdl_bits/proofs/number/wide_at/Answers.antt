use Rattle.std.proofs.Common.{◌≡◌, ℕ, ◌+◌, ◌*◌, ◌/◌, ◌%◌, sym, ap, ◌∙◌, arith}
use Rattle.dfdl_bits.specs.Bits.{number_of}
use Rattle.dfdl_forms.specs.declared.order.BitOrder.TheVariants.{LeastFirst}
use Rattle.dfdl_forms.specs.declared.order.ByteOrder.TheVariants.{Little}
use Rattle.dfdl_bits.proofs.Numbers.{least_any}
use Rattle.dfdl_bits.proofs.number.wide_at.Goals as goal

pub returns-in-LeastFirst-clause-number : goal.returns-in-LeastFirst-clause-number
returns-in-LeastFirst-clause-number c =
    let bytes = c.args.bytes.now in
    let place : 8 * (c.args.bit / 8) + c.args.bit % 8 ≡ c.args.bit = omega arith in
    rw c.in-LeastFirst.is
    (c.rising.ensures
    ∙ ap (λ (b : ℕ). number_of bytes b c.args.len Little LeastFirst) place
    ∙ sym (least_any bytes c.args.bit c.args.len c.args.bytes_by))
