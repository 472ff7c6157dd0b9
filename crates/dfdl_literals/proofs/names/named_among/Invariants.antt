use Rattle.std.proofs.Common.{◌≡◌, map, drop}
use Rattle.dfdl_literals.specs.Names.{named_in, row_of}
use Rattle.dfdl_literals.proofs.names.named_among.Given as goal

abbrev pub invariant-loop-row : goal.invariant-loop-row
invariant-loop-row l = named_in (map row_of (drop l.row-index l.rows)) l.name ≡ named_in (map row_of l.rows) l.name
