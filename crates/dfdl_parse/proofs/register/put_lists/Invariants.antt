use Rattle.std.proofs.Common.{map, take}
use Rattle.dfdl_delims.specs.Registers.{Holds}
use Rattle.dfdl_grammar.specs.Delimiters.{opened}
use Rattle.dfdl_parse.proofs.register.put_lists.Given as goal

-- the lists before
abbrev pub invariant-loop-list : goal.invariant-loop-list
invariant-loop-list l = Holds l.markup (map opened (take l.list-index l.delimiters))
