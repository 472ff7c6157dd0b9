use Rattle.std.proofs.Common.{◌≡◌, ◌≤◌, take}
use Rattle.std.specs.List.{count_by}
use Rattle.dfdl_grammar.specs.Paths.{stand_together}
use Rattle.dfdl_parse.proofs.path.place_of.Given as goal

-- those so far are counted
abbrev pub invariant-loop-at : goal.invariant-loop-at
invariant-loop-at l = record {
  few : l.place ≤ l.at;
  counted : l.place ≡ count_by (stand_together l.node) (take l.at l.nodes);
}
