use Rattle.std.proofs.Common.{◌≡◌, ℕ, ◌*◌, ◌/◌, subst, add-zero, arith}
use Rattle.dfdl_bits.specs.Bits.{Puts}
use Rattle.dfdl_forms.specs.declared.order.BitOrder.TheVariants.{LeastFirst}
use Rattle.dfdl_forms.specs.declared.order.ByteOrder.TheVariants.{Little}
use Rattle.dfdl_bits.proofs.Putting.{whole_puts}
use Rattle.dfdl_bits.proofs.put.put_whole.Goals as goal

pub returns : goal.returns
returns c =
    let old = c.args.bytes.now in
    let new = c.put_rising.new.bytes in
    let all : c.args.len ≡ 8 * (c.args.len / 8) = omega arith in
    let puts : Puts Little LeastFirst old new (8 * c.args.first) c.args.len c.args.value = rw add-zero at c.put_rising.ensures in
    rw all (whole_puts old new c.args.first (c.args.len / 8) c.args.value
    (subst (λ (n : ℕ). Puts Little LeastFirst old new (8 * c.args.first) n c.args.value) all puts))
