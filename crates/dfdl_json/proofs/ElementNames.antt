-- The set of the names of elements, and the members of an object that have one of them.
use Rattle.std.proofs.Common.{◌≡◌, ℕ, ◌+◌, ◌<◌, ◌≤◌, Bool, true, false, cond, ◌||◌, ◌&&◌, fold, List, [], ◌∷◌, ◌++◌, length, drop, get_or, Bor, refl, sym, ap, ◌∙◌, String, Global, string_bytes}
use Rattle.std.proofs.Math.ListN.{drop_of_length-le}
use Rattle.std.specs.List.{list_all}
use Rattle.std.specs.Str.{bytes_eq}
use Rattle.std.specs.Ordering.{is_eq, nat_cmp}
use Rattle.std.specs.Cmp.Lexicographic.{slice_cmp}
use Rattle.std.specs.BTreeSet.{BTreeSet, contains, contains_by}
use Rattle.std.specs.Map.{keys_of}
use Rattle.std.proofs.lemmas.List.Folds.{list_any-append}
use Rattle.std.proofs.lemmas.Map.Text.{is_eq-slice_cmp}
use Rattle.serde_json.specs.View.{members_view}
use Rattle.serde_json.specs.declared.value.Value.{Value}
use Rattle.dfdl_terms.specs.Rows.{Table}
use Rattle.dfdl_json.specs.Children.{name_of}
use Rattle.dfdl_json.specs.Infosets.{are_known}
use Rattle.dfdl_json.specs.Members.{is_declared, with_member}
use Rattle.dfdl_json.specs.Reading.{HasNames}
use Rattle.dfdl_lemmas.proofs.Lists.{left_at}

pub no_names : (t : Table) (members : List ℕ) (has : Bor (List ℕ) → Bool) → members ≡ [] → ((name : Bor (List ℕ)) → has name ≡ false) → HasNames has t members
no_names t members has empty none = record { exactly = λ name. none name ∙ ap (λ ms. is_declared t ms name.now) (sym empty) }

swapped : (a b : Bool) → cond a true b ≡ (b || (a || false))
swapped true true = refl
swapped true false = refl
swapped false true = refl
swapped false false = refl

-- one more name
pub more_names : (t : Table) (members more : List ℕ) (row : ℕ) (has now : Bor (List ℕ) → Bool) (key : Bor (List ℕ)) → key.now ≡ name_of t row
    → ((name : Bor (List ℕ)) → now name ≡ cond (is_eq (slice_cmp nat_cmp key.now name.now)) true (has name))
    → more ≡ members ++ row ∷ [] → HasNames has t members → HasNames now t more
more_names t members more row has now key named adds more_is names = record {
  exactly = λ name.
      adds name ∙ (ap (λ b. cond b true (has name)) (is_eq-slice_cmp key.now name.now ∙ ap (λ n. bytes_eq n name.now) named)
      ∙ (swapped (bytes_eq (name_of t row) name.now) (has name)
      ∙ (ap (λ b. b || (bytes_eq (name_of t row) name.now || false)) (names.exactly name)
      ∙ (sym (list_any-append (λ r. bytes_eq (name_of t r) name.now) members (row ∷ []))
      ∙ ap (λ ms. is_declared t ms name.now) (sym more_is)))));
}

-- the elements so far, with those that are left, are those of all
pub one_less : (t : Table) (elements members now all : List ℕ) (k row : ℕ) → k < length elements → row ≡ get_or elements k row
    → now ≡ with_member t members row → fold (with_member t) members (drop k elements) ≡ all → fold (with_member t) now (drop (k + 1) elements) ≡ all
one_less t elements members now all k row here is now_is whole =
    ap (λ ms. fold (with_member t) ms (drop (k + 1) elements)) now_is
    ∙ (ap (fold (with_member t) members) (sym (left_at elements k row here is)) ∙ whole)

-- none are left
pub none_less : (t : Table) (elements members all : List ℕ) (k : ℕ) → length elements ≤ k → fold (with_member t) members (drop k elements) ≡ all → members ≡ all
none_less t elements members all k past whole = ap (fold (with_member t) members) (sym (drop_of_length-le elements past)) ∙ whole

-- a test of the members' names is one of their keys
pub known_members : (names : BTreeSet (Bor (List ℕ))) (t : Table) (elements : List ℕ) (es : List (String Global × Value))
    → HasNames (contains (λ x y. slice_cmp nat_cmp x.now y.now) names) t elements
    → list_all (λ key. contains_by (λ k. slice_cmp nat_cmp (string_bytes key) k.now) names) (keys_of es) ≡ are_known t elements (members_view es)
known_members names t elements [] has = refl
known_members names t elements (e ∷ es) has =
    ap (λ b. b && list_all (λ key. contains_by (λ k. slice_cmp nat_cmp (string_bytes key) k.now) names) (keys_of es)) (has.exactly (record { ref_ptr = (0, 0); now = string_bytes e.0 }))
    ∙ ap (λ b. is_declared t elements (string_bytes e.0) && b) (known_members names t elements es has)
