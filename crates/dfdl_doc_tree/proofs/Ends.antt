-- What characters past ASCII do in the name of an end tag.
use Rattle.std.proofs.Common.{◌≡◌, ℕ, Bool, true, false, List, [], ◌∷◌, refl, Some, None}
use Rattle.std.specs.Prelude.{nat_lt, not, ◌&&◌, if◌then◌else◌}
use Rattle.dfdl_xml_chars.specs.Characters.{begins, meets, Row, high_name_rows, high_start_rows}
use Rattle.dfdl_xml_chars.specs.Beyond.{Never, One, could_by}
use Rattle.dfdl_markup.specs.Machine.{Reading, First, Colon, Second, beyond_end}
use Rattle.dfdl_markup.specs.Building.{first_of}
use Rattle.dfdl_doc_tree.specs.Shown.{end_could, meets_in}

by_letter : (below begun : Bool) (rows : List Row) (bytes : List ℕ) (w : ℕ)
    → begins bytes w ≡ begun
    → could_by (if below then Never rows 4 3 else One w rows 4 3) bytes
    ≡ (if not below && begun then None else Some (if meets rows bytes then 4 else 3))
by_letter true begun rows bytes w is = refl
by_letter false begun rows bytes w is = rw is refl

pub could_end_is : (reading : Reading) (left bytes : List ℕ)
    → could_by (beyond_end reading left) bytes ≡ end_could (first_of left) (meets_in reading bytes) bytes
could_end_is (First part) [] bytes = refl
could_end_is (Colon prefix) [] bytes = refl
could_end_is (Second prefix part) [] bytes = refl
could_end_is (First part) (w ∷ left) bytes = by_letter (nat_lt w 128) (begins bytes w) high_name_rows bytes w refl
could_end_is (Colon prefix) (w ∷ left) bytes = by_letter (nat_lt w 128) (begins bytes w) high_start_rows bytes w refl
could_end_is (Second prefix part) (w ∷ left) bytes = by_letter (nat_lt w 128) (begins bytes w) high_name_rows bytes w refl
