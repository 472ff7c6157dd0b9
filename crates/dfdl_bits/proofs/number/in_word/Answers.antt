use Rattle.std.proofs.Common.{◌+◌, ◌*◌}
use Rattle.dfdl_bits.proofs.Words.{big_in_word, least_in_word}
use Rattle.dfdl_bits.proofs.number.in_word.Goals as goal

pub returns-in-LeastFirst : goal.returns-in-LeastFirst
returns-in-LeastFirst c =
    rw (c.in-LeastFirst.is, c.low_bits.ensures, c.load_64.ensures)
    (least_in_word c.args.bytes.now c.args.first c.args.skip c.args.len c.args.bytes_by c.requires.skip)

pub returns-in-Big : goal.returns-in-Big
returns-in-Big c =
    rw (c.in-MostFirst.is, c.in-Big.is, c.low_bits-number.ensures, c.load_64-word.ensures)
    (big_in_word c.args.bytes.now (8 * c.args.first) c.args.skip c.args.len c.requires.skip)

pub returns-in-Little : goal.returns-in-Little
returns-in-Little c =
    rw (c.in-MostFirst.is, c.in-Little.is)
    (c.regrouped.ensures c.args.bytes.now (8 * c.args.first + c.args.skip)
    (rw (c.low_bits-number.ensures, c.load_64-word.ensures)
    (big_in_word c.args.bytes.now (8 * c.args.first) c.args.skip c.args.len c.requires.skip)))
