use Rattle.std.proofs.Common.{◌≡◌, ◌++◌, drop}
use Rattle.dfdl_expression_types.specs.Paths.{children_of}
use Rattle.dfdl_expression_types.proofs.places.children_of.Given as goal

-- those that were found and those that are left are all
abbrev pub invariant-loop-place : goal.invariant-loop-place
invariant-loop-place l = l.found ++ children_of l.statics l.name (drop l.place-index l.places) ≡ children_of l.statics l.name l.places
