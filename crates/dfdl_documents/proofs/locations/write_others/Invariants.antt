use Rattle.std.proofs.Common.{◌≡◌, ◌++◌, drop, string_bytes}
use Rattle.dfdl_documents.specs.Locations.{behind_slashes}
use Rattle.dfdl_documents.specs.Shown.{texts}
use Rattle.dfdl_documents.proofs.locations.write_others.Given as goal

-- what is written, and what is left, are all
abbrev pub invariant-loop-other : goal.invariant-loop-other
invariant-loop-other l =
    string_bytes l.text ++ behind_slashes (texts (drop l.other-index l.others))
    ≡ string_bytes l.fn.text ++ behind_slashes (texts l.others)
