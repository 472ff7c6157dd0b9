use Rattle.std.proofs.Common.{◌≡◌, drop}
use Rattle.dfdl_delims.specs.Verdicts.{is_empty, named_firsts, some_first}
use Rattle.dfdl_delims.proofs.naming.some_empty.Given as goal

-- the lists that are left tell it
abbrev pub invariant-loop-number : goal.invariant-loop-number
invariant-loop-number l =
    some_first is_empty (named_firsts l.firsts (drop l.number-index l.numbers)) ≡ some_first is_empty (named_firsts l.firsts l.numbers)
