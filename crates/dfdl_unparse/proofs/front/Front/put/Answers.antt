use Rattle.std.proofs.Common.{◌*◌, ◌∙◌, sym, ap, arith}
use Rattle.dfdl_splice.specs.Splicing.{Spliced, bit_count}
use Rattle.dfdl_splice.specs.Bits.{bits_from}
use Rattle.dfdl_splice.proofs.Runs.{length-bits_from}
use Rattle.dfdl_unparse.proofs.Filled.{put_bits}
use Rattle.dfdl_unparse.proofs.front.Front.put.Goals as goal

pub invariant_of-self : goal.invariant_of-self
invariant_of-self c =
    let splice = c.self.inside.splice in
    let bits = bits_from splice.order c.args.bytes.now 0 c.args.bits in
    let long = length-bits_from splice.order c.args.bytes.now 0 c.args.bits in
    let awaited = rw (← c.self.view_is) at c.requires.awaited in
    let more = put_bits splice c.args.piece bits (rw long awaited) in
    let is = c.in-Ok.ensures.put in (
      c.self.invariant.0 ∙ ap (λ (s : Spliced). 8 * s.most_bytes) (sym is),
      omega (arith, c.self.invariant.1, more, long, ap (λ (s : Spliced). bit_count s) is),
      omega (arith, c.self.invariant.0, c.self.invariant.1, rw (← c.self.view_is) at c.requires.room),
      c.self.invariant.3,
    )
