-- A name that is begun can be made one that no attribute of the tag has, by letters behind it.
use Rattle.std.proofs.Common.{◌≡◌, ℕ, zero, suc, ◌+◌, ◌<◌, ◌≤◌, true, false, List, [], ◌∷◌, ◌++◌}
use Rattle.std.proofs.Common.{length, refl, arith, append_assoc}
use Rattle.std.proofs.lemmas.Bool.{or_from, and_left}
use Rattle.std.proofs.lemmas.List.{length-append}
use Rattle.std.specs.List.{list_any}
use Rattle.std.specs.Str.{bytes_eq}
use Rattle.dfdl_layers.specs.Tellers.{Each}
use Rattle.dfdl_layers.proofs.Runs.{each-append}
use Rattle.dfdl_xml_chars.specs.Characters.{is_name_start, is_name_char}
use Rattle.dfdl_xml_chars.specs.Characters.{low_name_rows, low_start_rows}
use Rattle.dfdl_markup.specs.Grammar.{Name, Plain, Prefixed, name_characters}
use Rattle.dfdl_markup.specs.Values.{Binding, bindings_of, found, same_found, same_expanded}
use Rattle.dfdl_markup.specs.Values.{same_name}
use Rattle.dfdl_markup.specs.Values.{names_of}
use Rattle.dfdl_markup.specs.Rules.{IsPart, IsName}
use Rattle.dfdl_markup.specs.Machine.{Reading, First, Colon, Second, StartTag, is_given}
use Rattle.dfdl_markup.proofs.Rest.{reading_characters, IsReading}
use Rattle.dfdl_markup.proofs.TagNamespaces.{unlike_longer}
use Rattle.dfdl_markup.proofs.TagFixed.{letters, letters_length}

pub letter_starts : is_name_start 97 ≡ true
unfolding is_name_start low_start_rows
letter_starts = refl

letter_goes_on : is_name_char 97 ≡ true
unfolding is_name_char low_name_rows low_start_rows
letter_goes_on = refl

letters_go_on : (n : ℕ) → Each (λ c. is_name_char c ≡ true) (letters n)
letters_go_on zero = tt
letters_go_on (suc n) = (letter_goes_on, letters_go_on n)

part_with : (part : List ℕ) (n : ℕ) → IsPart part → IsPart (part ++ letters n)
part_with [] n is = absurd is
part_with (c ∷ part) n is =
    (is.0, each-append (λ d. is_name_char d ≡ true) part (letters n) is.1 (letters_go_on n))

letters_part : (n : ℕ) → 0 < n → IsPart (letters n)
letters_part zero some = absurd (omega arith)
letters_part (suc n) some = (letter_starts, letters_go_on n)

-- the last part of a name
abbrev pub last_part : Name → List ℕ
last_part (Plain part) = part
last_part (Prefixed prefix part) = part

last_shorter : (name : Name) → length (last_part name) ≤ length (name_characters name)
last_shorter (Plain part) = omega arith
last_shorter (Prefixed prefix part) =
    let all = length-append prefix (58 ∷ part) in omega (arith, all)

-- more than the lengths of the names
abbrev pub longest : List Name → ℕ
longest [] = 1
longest (name ∷ names) = length (name_characters name) + longest names

pub longest_some : (names : List Name) → 0 < longest names
longest_some [] = omega arith
longest_some (name ∷ names) = omega (arith, longest_some names)

shorter_all : (k : ℕ) (names : List Name) → longest names ≤ k
    → Each (λ name. length (name_characters name) < k) names
shorter_all k [] most = tt
shorter_all k (name ∷ names) most = (
  omega (arith, longest_some names, most),
  shorter_all k names (omega (arith, most)),
)

expanded_long : (bindings : List Binding) (x y : Name) → length (last_part x) < length (last_part y)
    → same_expanded bindings x y ≡ false
expanded_long bindings (Plain a) (Plain b) less = refl
expanded_long bindings (Plain a) (Prefixed r b) less = refl
expanded_long bindings (Prefixed q a) (Plain b) less = refl
expanded_long bindings (Prefixed q a) (Prefixed r b) less =
    and_left (bytes_eq a b) (same_found (found bindings q) (found bindings r))
    (unlike_longer a b less)

none_written : (k : ℕ) (names : List Name) (name : Name) → k ≤ length (last_part name)
    → Each (λ x. length (name_characters x) < k) names
    → list_any (λ x. same_name x name) names ≡ false
none_written k [] name long each = refl
none_written k (x ∷ names) name long each =
    or_from (same_name x name) (list_any (λ y. same_name y name) names)
    (unlike_longer (name_characters x) (name_characters name)
    (omega (arith, long, each.0, last_shorter name)))
    (none_written k names name long each.1)

none_expanded : (bindings : List Binding) (k : ℕ) (names : List Name) (name : Name)
    → k ≤ length (last_part name) → Each (λ x. length (name_characters x) < k) names
    → list_any (λ x. same_expanded bindings x name) names ≡ false
none_expanded bindings k [] name long each = refl
none_expanded bindings k (x ∷ names) name long each =
    or_from (same_expanded bindings x name) (list_any (λ y. same_expanded bindings y name) names)
    (expanded_long bindings x name (omega (arith, long, each.0, last_shorter x)))
    (none_expanded bindings k names name long each.1)

-- a name with a long last part is new
pub long_new : (tag : StartTag) (name : Name)
    → longest (names_of tag.attributes) ≤ length (last_part name) → is_given tag name ≡ false
long_new tag name long =
    or_from (list_any (λ other. same_name other name) (names_of tag.attributes))
    (list_any (λ other. same_expanded (bindings_of tag.attributes) other name)
    (names_of tag.attributes))
    (none_written (longest (names_of tag.attributes)) (names_of tag.attributes) name long
    (shorter_all (longest (names_of tag.attributes)) (names_of tag.attributes) (omega arith)))
    (none_expanded (bindings_of tag.attributes) (longest (names_of tag.attributes))
    (names_of tag.attributes) name long
    (shorter_all (longest (names_of tag.attributes)) (names_of tag.attributes) (omega arith)))

-- a name that was begun, with so many letters
pub record Lengthened (reading : Reading) (k : ℕ) : Type 0 where
  pub name : Name
  pub characters : reading_characters reading ++ letters k ≡ name_characters name
  pub named : IsName name
  pub long : k ≤ length (last_part name)

letters_long : (part : List ℕ) (k : ℕ) → k ≤ length (part ++ letters k)
letters_long part k =
    let all = length-append part (letters k) in
    let last = letters_length k in omega (arith, all, last)

pub lengthen : (reading : Reading) (k : ℕ) → 0 < k → IsReading reading → Lengthened reading k
lengthen (First part) k some is = record {
  name = Plain (part ++ letters k);
  characters = refl;
  named = part_with part k is;
  long = letters_long part k;
}
lengthen (Colon prefix) k some is = record {
  name = Prefixed prefix (letters k);
  characters = append_assoc prefix (58 ∷ []) (letters k);
  named = (is, letters_part k some);
  long = letters_long [] k;
}
lengthen (Second prefix part) k some is = record {
  name = Prefixed prefix (part ++ letters k);
  characters = append_assoc prefix (58 ∷ part) (letters k);
  named = (is.0, part_with part k is.1);
  long = letters_long part k;
}
