use Rattle.std.proofs.Common.{◌≡◌, drop}
use Rattle.dfdl_expression_types.specs.Paths.{types_with, types_of_places}
use Rattle.dfdl_expression_types.proofs.places.types_of_places.Given as goal

-- the types so far, and those of the places that are left, are those of all
abbrev pub invariant-loop-place : goal.invariant-loop-place
invariant-loop-place l = types_with l.statics l.types (drop l.place-index l.places) ≡ types_of_places l.statics l.places
