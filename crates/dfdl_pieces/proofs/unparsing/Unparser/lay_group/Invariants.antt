use Rattle.std.proofs.Common.{◌≡◌, ◌≤◌, ◌++◌, length, drop, map}
use Rattle.dfdl_pieces.specs.declared.unparsing.Task.TheVariants.{Lay}
use Rattle.dfdl_pieces.proofs.unparsing.Unparser.lay_group.Given as goal

abbrev pub invariant-loop-at : goal.invariant-loop-at
invariant-loop-at l = record {
  within : l.at ≤ length l.rows;
  tasks : l.self.tasks.items ≡ map Lay (drop l.at l.rows) ++ l.fn.self.tasks.items;
  names : l.self.around ≡ l.fn.self.around;
  place : l.self.at ≡ l.fn.self.at;
  pieces : l.self.pieces ≡ l.fn.self.pieces;
}
