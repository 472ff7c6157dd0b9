use Rattle.std.proofs.Common.{◌+◌, ◌*◌}
use Rattle.dfdl_bits.proofs.Putting.{rising_any}
use Rattle.dfdl_bits.proofs.put.put_at.Goals as goal

pub returns-in-LeastFirst : goal.returns-in-LeastFirst
returns-in-LeastFirst c =
    rw c.in-LeastFirst.is
    (rising_any c.args.bytes_by c.args.bytes.now c.put_rising.new.bytes (8 * c.args.first + c.args.skip) c.args.len c.args.value c.put_rising.ensures)
