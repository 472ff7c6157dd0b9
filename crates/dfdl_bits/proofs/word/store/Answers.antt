use Rattle.std.proofs.Common.{arith}
use Rattle.dfdl_bits.proofs.Stores.{put_byte}
use Rattle.dfdl_bits.proofs.word.store.Goals as goal

pub returns-in-8 : goal.returns-in-8
returns-in-8 c =
    rw c.in-8.is
    (put_byte c.args.bytes.now c.write_at.new.bytes c.args.first c.args.value c.args.order (omega arith) (rw c.in-8.is at c.requires.fits) c.write_at.ensures)
