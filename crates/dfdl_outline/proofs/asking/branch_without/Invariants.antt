use Rattle.std.proofs.Common.{◌≡◌, drop}
use Rattle.dfdl_outline.specs.Outlines as outlines
use Rattle.dfdl_outline.proofs.asking.branch_without.Given as goal

abbrev pub invariant-loop-part : goal.invariant-loop-part
invariant-loop-part l =
    outlines.branch_without l.fn.layout l.fn.is_hidden (drop l.part-index l.fn.parts) l.at
    ≡ outlines.branch_without l.fn.layout l.fn.is_hidden l.fn.parts 0
