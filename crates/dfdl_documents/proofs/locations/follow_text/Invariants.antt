use Rattle.std.proofs.Common.{◌≡◌, length, drop}
use Rattle.dfdl_documents.specs.Locations.{resolved, segments_of}
use Rattle.dfdl_documents.specs.Shown.{texts}
use Rattle.dfdl_documents.proofs.locations.follow_text.Given as goal

-- the segments that are left lead to the same as all
abbrev pub invariant-loop-segment : goal.invariant-loop-segment
invariant-loop-segment l =
    resolved (texts l.segments.items) (drop (length l.yielded) (segments_of l.text))
    ≡ resolved (texts l.fn.segments.items) (segments_of l.text)
