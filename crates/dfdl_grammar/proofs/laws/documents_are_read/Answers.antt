use Rattle.std.proofs.Common.{◌-◌, length}
use Rattle.dfdl_grammar.proofs.Filled.{all-read}
use Rattle.dfdl_grammar.proofs.laws.documents_are_read.Goals as goal

pub returns : goal.returns
returns c limits table start bytes nests named leaves done =
    all-read (record { bytes = bytes; limits = limits }) table leaves nests named (length table.rows - 1) start done
