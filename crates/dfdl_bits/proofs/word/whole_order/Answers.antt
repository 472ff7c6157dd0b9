use Rattle.std.proofs.Common.{◌∙◌, ◌*◌, sym}
use Rattle.dfdl_bits.proofs.Numbers.{groups-whole, least_any}
use Rattle.dfdl_bits.proofs.word.whole_order.Goals as goal

pub returns-in-LeastFirst : goal.returns-in-LeastFirst
returns-in-LeastFirst c = λ bytes first count.
    rw c.in-LeastFirst.is (groups-whole bytes first count ∙ sym (least_any bytes (8 * first) (8 * count) c.args.bytes_by))
