use Rattle.std.proofs.Common.{◌≡◌, map, length}
use Rattle.std.specs.List.{range_with_len}
use Rattle.dfdl_planning.specs.Planned.{entry_in}
use Rattle.dfdl_planning.proofs.layouts.layout_of.Given as goal

abbrev pub invariant-loop-number : goal.invariant-loop-number
invariant-loop-number l = l.entries.items ≡ map (entry_in l.source) (range_with_len 0 l.number)
