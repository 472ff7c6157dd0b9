-- The content of the root element, by the number of members of the whole.
use Rattle.std.proofs.Common.{◌≡◌, ℕ, List, None, Some, cond, refl, ap, ◌∙◌, arith, Ordering, Less, Equal, Greater, is_eq}
use Rattle.std.specs.Ordering.{nat_cmp, match_ordering}
use Rattle.std.specs.Cmp.Lexicographic.{slice_cmp}
use Rattle.std.proofs.lemmas.Map.Text.{is_eq-slice_cmp}
use Rattle.serde_json.specs.Data.{Data, null, boolean, number, string, array, object, Members, no_members, member}
use Rattle.serde_json.specs.Find.{as_object, get, get_member}
use Rattle.serde_json.specs.Events.{members_len}
use Rattle.dfdl_json.specs.Infosets.{content_in}

only_here : (o : Ordering) (d : Data) → match_ordering o None (Some d) None ≡ cond (is_eq o) (Some d) None
only_here Less d = refl
only_here Equal d = refl
only_here Greater d = refl

one_member : (root : List ℕ) (ms : Members) → members_len ms ≡ 1 → get_member root ms ≡ content_in root (object ms)
one_member root no_members one = absurd (cc)
one_member root (member name d no_members) one =
    only_here (slice_cmp nat_cmp root name) d ∙ ap (λ b. cond b (Some d) None) (is_eq-slice_cmp root name)
one_member root (member first d (member second e ms)) one = absurd (omega arith)

other_members : (root : List ℕ) (ms : Members) → (members_len ms ≡ 1 → ⊥) → None ≡ content_in root (object ms)
other_members root no_members others = refl
other_members root (member name d no_members) others = absurd (others refl)
other_members root (member first d (member second e ms)) others = refl

-- the whole has one member
pub found_content : (root : List ℕ) (whole : Data) (ms : Members) → Some ms ≡ as_object whole → members_len ms ≡ 1 → get root whole ≡ content_in root whole
found_content root null ms is one = absurd (cc)
found_content root (boolean b) ms is one = absurd (cc)
found_content root (number n) ms is one = absurd (cc)
found_content root (string text) ms is one = absurd (cc)
found_content root (array items) ms is one = absurd (cc)
found_content root (object all) ms is one = let same : ms ≡ all = cc in one_member root all (ap members_len (let back : all ≡ ms = cc in back) ∙ one)

-- it has another number of them
pub no_content : (root : List ℕ) (whole : Data) (ms : Members) → Some ms ≡ as_object whole → (members_len ms ≡ 1 → ⊥) → None ≡ content_in root whole
no_content root null ms is others = refl
no_content root (boolean b) ms is others = refl
no_content root (number n) ms is others = refl
no_content root (string text) ms is others = refl
no_content root (array items) ms is others = refl
no_content root (object all) ms is others = other_members root all (λ one. others (ap members_len (let same : ms ≡ all = cc in same) ∙ one))
