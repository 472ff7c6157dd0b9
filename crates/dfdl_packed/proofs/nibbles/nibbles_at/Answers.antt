use Rattle.std.proofs.Common.{◌≡◌, ◌+◌, ◌*◌, take, get_or-take, length-take-le, ◌∙◌, arith}
use Rattle.std.proofs.lemmas.List.FromFn.{fill_by_all}
use Rattle.dfdl_bits.specs.Bits.{number_of}
use Rattle.dfdl_forms.specs.declared.order.ByteOrder.TheVariants.{Big}
use Rattle.dfdl_packed.specs.Packed.{nibbles_of}
use Rattle.dfdl_packed.proofs.nibbles.nibbles_at.Goals as goal

pub returns-clause-nibbles : goal.returns-clause-nibbles
unfolding nibbles_of
returns-clause-nibbles c =
    let over : c.loop-at.at ≡ c.args.count = omega arith in
    fill_by_all (λ k. number_of c.args.bytes.now (c.args.bit + 4 * k) 4 Big c.args.bits_by) (take c.args.count c.loop-at.nibbles) c.args.count 0
    (length-take-le c.args.count c.loop-at.nibbles (omega arith))
    (λ k below. get_or-take c.args.count c.loop-at.nibbles k 0 below ∙ c.loop-at.invariant.read k (omega arith))
