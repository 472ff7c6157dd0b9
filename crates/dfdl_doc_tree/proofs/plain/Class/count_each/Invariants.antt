use Rattle.std.proofs.Common.{◌≡◌, true, take}
use Rattle.std.specs.List.{list_all}
use Rattle.dfdl_doc_tree.specs.Plain.{is_of}
use Rattle.dfdl_doc_tree.proofs.plain.Class.count_each.Given as goal

-- the bytes so far are such characters
abbrev pub invariant-loop-at : goal.invariant-loop-at
invariant-loop-at l = list_all (is_of l.self) (take l.at l.bytes) ≡ true
