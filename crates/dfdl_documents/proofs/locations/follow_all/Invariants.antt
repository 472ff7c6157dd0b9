use Rattle.std.proofs.Common.{◌≡◌, drop}
use Rattle.dfdl_documents.specs.Locations.{resolved}
use Rattle.dfdl_documents.specs.Shown.{texts}
use Rattle.dfdl_documents.proofs.locations.follow_all.Given as goal

-- those that are left lead to the same as all
abbrev pub invariant-loop-other : goal.invariant-loop-other
invariant-loop-other l =
    resolved (texts l.segments.items) (texts (drop l.other-index l.others))
    ≡ resolved (texts l.fn.segments.items) (texts l.others)
