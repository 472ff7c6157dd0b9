use Rattle.std.proofs.Common.{ap, List, ℕ, arith, ◌/◌, ◌%◌}
use Rattle.dfdl_splice.proofs.Runs.{length-bits_from, bits_from-drop}
use Rattle.dfdl_splice.proofs.buffer.Buffer.drop_whole.Goals as goal

pub returns : goal.returns
returns c =
    let b = c.self.inside in
    rw (← c.self.view_is, c.slide.ensures.items, length-bits_from b.order b.bytes.items 0 b.len)
    (ap (λ (bits : List ℕ). record { bits = bits; order = b.order; room = b.room })
    (bits_from-drop b.order b.bytes.items (b.len / 8) (b.len % 8) b.len (omega arith)))
