use Rattle.dfdl_parse.proofs.Statings.{AreAgain}
use Rattle.dfdl_parse.proofs.stating.reconsider_from.Given as goal

-- what is left of the statements
abbrev pub invariant-again : goal.invariant-again
invariant-again l = AreAgain l.terms l.start l.first l.number l.last l.fn.parser l.parser
