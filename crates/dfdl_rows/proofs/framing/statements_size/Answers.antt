use Rattle.std.proofs.Common.{◌∙◌, sym}
use Rattle.dfdl_rows.proofs.Framed.{length_statements}
use Rattle.dfdl_rows.proofs.framing.statements_size.Goals as goal

pub returns-clause-size : goal.returns-clause-size
returns-clause-size c = c.from.ensures ∙ sym (length_statements c.args.statements.first c.args.statements.count)
