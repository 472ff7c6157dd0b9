use Rattle.std.proofs.Common.{◌≡◌, ◌++◌, drop}
use Rattle.dfdl_expression_types.specs.Paths.{elements_of}
use Rattle.dfdl_expression_types.proofs.places.elements_of.Given as goal

-- those that were found and those that are left are all
abbrev pub invariant-loop-place : goal.invariant-loop-place
invariant-loop-place l = l.found ++ elements_of (drop l.place-index l.places) ≡ elements_of l.places
