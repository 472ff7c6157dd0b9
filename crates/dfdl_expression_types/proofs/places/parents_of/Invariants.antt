use Rattle.std.proofs.Common.{◌≡◌, ◌++◌, drop}
use Rattle.dfdl_expression_types.specs.Paths.{parents_behind, parents_of}
use Rattle.dfdl_expression_types.proofs.places.parents_of.Given as goal

-- those that were found and those that are left are all
abbrev pub invariant-loop-place : goal.invariant-loop-place
invariant-loop-place l = l.found ++ parents_behind l.statics l.before (drop l.place-index l.places) ≡ parents_of l.statics l.places
