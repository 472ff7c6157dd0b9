use Rattle.std.proofs.Common.{◌-◌, length}
use Rattle.dfdl_parse.proofs.Innermost.{IsLeft}
use Rattle.dfdl_parse.proofs.marks.innermost_point.Given as goal

abbrev pub invariant-loop-inside : goal.invariant-loop-inside
invariant-loop-inside l = IsLeft l.marks (length l.marks - l.inside)
