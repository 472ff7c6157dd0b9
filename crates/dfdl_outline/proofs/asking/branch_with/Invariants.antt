use Rattle.std.proofs.Common.{◌≡◌, drop}
use Rattle.dfdl_outline.specs.Outlines as outlines
use Rattle.dfdl_outline.proofs.asking.branch_with.Given as goal

abbrev pub invariant-loop-part : goal.invariant-loop-part
invariant-loop-part l = outlines.branch_with (drop l.part-index l.fn.parts) l.fn.child l.at ≡ outlines.branch_with l.fn.parts l.fn.child 0
