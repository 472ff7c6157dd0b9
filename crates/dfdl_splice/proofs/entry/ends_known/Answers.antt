use Rattle.std.proofs.Common.{sym, ◌∙◌, arith, length, ◌-◌}
use Rattle.dfdl_splice.proofs.Entries.{ends_at}
use Rattle.dfdl_splice.proofs.entry.ends_known.Goals as goal

pub returns : goal.returns
returns c = λ bits. c.known.ensures bits ∙ sym (ends_at bits c.args.entries.now (length c.args.entries.now - 1) _ (omega arith))
