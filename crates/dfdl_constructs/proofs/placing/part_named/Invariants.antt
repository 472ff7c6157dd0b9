use Rattle.std.proofs.Common.{◌≡◌, drop, map}
use Rattle.dfdl_constructs.specs.Parts.{part_named}
use Rattle.dfdl_constructs.specs.Shown.{part_shown}
use Rattle.dfdl_constructs.proofs.placing.part_named.Given as goal

-- what is left gives the same as all
abbrev pub invariant-loop-part : goal.invariant-loop-part
invariant-loop-part l =
    part_named (map part_shown (drop l.part-index l.parts)) l.name ≡ part_named (map part_shown l.parts) l.name
