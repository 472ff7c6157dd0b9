use Rattle.std.proofs.Common.{sym, ◌∙◌, arith}
use Rattle.dfdl_splice.proofs.Entries.{begins_at}
use Rattle.dfdl_splice.proofs.entry.begins_known.Goals as goal

pub returns : goal.returns
returns c = λ bits. c.known.ensures bits ∙ sym (begins_at bits c.args.entries.now _ (omega arith))
