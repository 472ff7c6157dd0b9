use Rattle.std.proofs.Common.{◌≡◌, ◌≤◌, drop, length, vec_capacity}
use Rattle.dfdl_expression_eval.specs.Places.{places_of}
use Rattle.dfdl_expression_eval.proofs.Gathering.{behind_places}
use Rattle.dfdl_expression_eval.proofs.places.gather.Given as goal

-- the places so far, and those of the values that are left, are those of all values
abbrev pub invariant-loop-value : goal.invariant-loop-value
invariant-loop-value l = record {
  places : places_of l.values ≡ behind_places l.places.items (places_of (drop l.value-index l.values));
  long : length l.places.items ≡ l.value-index;
  room : vec_capacity l.fn.places ≤ vec_capacity l.places;
}
