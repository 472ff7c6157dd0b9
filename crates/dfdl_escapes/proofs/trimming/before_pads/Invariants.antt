use Rattle.std.proofs.Common.{◌≡◌, ◌≤◌, length, take}
use Rattle.dfdl_escapes.specs.Trims.{before_pads}
use Rattle.dfdl_escapes.proofs.trimming.before_pads.Given as goal

abbrev pub invariant-loop-end : goal.invariant-loop-end
invariant-loop-end l = record {
  within : l.end ≤ length l.characters;
  same : before_pads l.trim (take l.end l.characters) ≡ before_pads l.trim l.characters;
}

abbrev pub decreases-loop-end : goal.decreases-loop-end
decreases-loop-end l = l.end
