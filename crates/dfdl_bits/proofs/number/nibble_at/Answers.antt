use Rattle.std.proofs.Common.{◌≡◌, ℕ, ◌+◌, ◌*◌, ◌/◌, ◌%◌, sym, ap, ◌∙◌, arith}
use Rattle.dfdl_bits.specs.Bits.{number_of}
use Rattle.dfdl_forms.specs.declared.order.BitOrder.TheVariants.{LeastFirst}
use Rattle.dfdl_forms.specs.declared.order.ByteOrder.TheVariants.{Big, Little}
use Rattle.dfdl_bits.proofs.Numbers.{least_any}
use Rattle.dfdl_bits.proofs.number.nibble_at.Goals as goal

pub returns-in-LeastFirst-clause-number : goal.returns-in-LeastFirst-clause-number
returns-in-LeastFirst-clause-number c =
    let bytes = c.args.bytes.now in
    let skip : ℕ = c.args.bit % 8 + c.args.at % 2 * 4 in
    let place : 8 * (c.args.bit / 8 + (c.args.at / 2 + skip / 8)) + skip % 8 ≡ c.args.bit + 4 * c.args.at = omega arith in
    rw c.in-LeastFirst.is
    (c.rising.ensures
    ∙ ap (λ (b : ℕ). number_of bytes b 4 Little LeastFirst) place
    ∙ sym (least_any bytes (c.args.bit + 4 * c.args.at) 4 Big))
