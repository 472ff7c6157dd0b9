use Rattle.std.proofs.Common.{◌≡◌, ◌*◌, ◌+◌, ◌&&◌, false}
use Rattle.dfdl_paths.specs.declared.place.Place.TheVariants.{At}
use Rattle.dfdl_paths.specs.Elements.{around, is_place}
use Rattle.dfdl_paths.specs.Spans.{reached_first}
use Rattle.dfdl_paths.specs.Numbers.{some_below}
use Rattle.dfdl_paths.proofs.reach.+reaching.Given as goal

abbrev pub decreases-reaches : goal.decreases-reaches
decreases-reaches l = 2 * l.count

abbrev pub decreases-reaches_up : goal.decreases-reaches_up
decreases-reaches_up l = 2 * l.before + 1

abbrev pub decreases-reaches_down : goal.decreases-reaches_down
decreases-reaches_down l = 2 * l.before + 1

-- none of the elements so far stands there and is reached
abbrev pub invariant-reaches_up-loop-number : goal.invariant-reaches_up-loop-number
invariant-reaches_up-loop-number l =
    some_below (λ n. is_place (around l.course.nodes.now n) l.place
    && reached_first l.course l.before (At n)) l.number ≡ false
