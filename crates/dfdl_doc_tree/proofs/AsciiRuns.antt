-- Plain characters are ASCII, which spells itself.
use Rattle.std.proofs.Common.{◌≡◌, ℕ, true, List, [], ◌∷◌}
use Rattle.std.proofs.lemmas.Bool.{and_parts, ltb-true}
use Rattle.std.proofs.lemmas.Str.Ascii.{IsAscii-nil, IsAscii-cons}
use Rattle.std.specs.Str.{IsAscii}
use Rattle.std.specs.List.{list_all}
use Rattle.dfdl_doc_tree.specs.Plain.{is_plain, is_of}
use Rattle.dfdl_doc_tree.specs.declared.plain.Class.{Class}
use Rattle.dfdl_doc_tree.proofs.Passes.{plain_class}

pub plain_ascii : (run : List ℕ) → list_all is_plain run ≡ true → IsAscii run
unfolding is_plain
plain_ascii [] are = IsAscii-nil
plain_ascii (c ∷ run) are =
    let parts = and_parts (is_plain c) (list_all is_plain run) are in
    IsAscii-cons c run (ltb-true c 128 (and_parts _ _ parts.0).0) (plain_ascii run parts.1)

pub class_ascii : (kind : Class) (run : List ℕ) → list_all (is_of kind) run ≡ true → IsAscii run
class_ascii kind run are = plain_ascii run (plain_class kind run are)
