use Rattle.dfdl_parse.proofs.Statings.{AreStated}
use Rattle.dfdl_parse.proofs.stating.state_from.Given as goal

-- what is left of the statements
abbrev pub invariant-stating : goal.invariant-stating
invariant-stating l = AreStated l.terms l.start l.first l.number l.last l.fn.parser l.parser
