use Rattle.std.proofs.Common.{map, subst}
use Rattle.dfdl_cells.specs.Plans.{Plan}
use Rattle.dfdl_delims.specs.Registers.{Holds}
use Rattle.dfdl_grammar.specs.Delimiters.{opened}
use Rattle.dfdl_evaluation.proofs.Listed.{are_named}
use Rattle.dfdl_evaluation.proofs.plan.Plan.open_lists.Goals as goal

pub returns : goal.returns
returns c =
    are_named c.self.inside.markup.now c.args.self.now.table.delimiters c.args.numbers.now
    (subst (λ (p : Plan). Holds c.self.inside.markup.now (map opened p.table.delimiters)) c.self.view_is c.self.invariant) c.requires
