use Rattle.std.proofs.Common.{◌-◌, length}
use Rattle.dfdl_grammar.proofs.Held.{meaning-has}
use Rattle.dfdl_grammar.proofs.laws.documents_have_texts.Goals as goal

pub returns : goal.returns
returns c limits table start bytes small bounded = meaning-has (record { bytes = bytes; limits = limits }) small table bounded (length table.rows - 1) start
