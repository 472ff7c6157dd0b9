use Rattle.std.proofs.Common.{◌≡◌, map, drop}
use Rattle.dfdl_literals.specs.Names.{begins_in, row_of}
use Rattle.dfdl_literals.proofs.names.begins_among.Given as goal

abbrev pub invariant-loop-row : goal.invariant-loop-row
invariant-loop-row l = begins_in (map row_of (drop l.row-index l.rows)) l.front ≡ begins_in (map row_of l.rows) l.front
