-- Tests of the attributes' names.
use Rattle.std.specs.Prelude.{◌≡◌, ◌<◌, ◌≤◌, ◌+◌, ℕ, zero, suc, Bool, false, ◌||◌, ◌&&◌, List, ◌∷◌, [], ◌++◌, map, drop, take, get_or, length}
use Rattle.std.specs.List.{list_any, list_all}
use Rattle.std.proofs.Common.{refl, sym, ap, ◌∙◌, arith}
use Rattle.std.proofs.lemmas.List.{map-append, take_more}
use Rattle.std.proofs.lemmas.List.Elements.{filter_map-append}
use Rattle.dfdl_markup.specs.Grammar as grammar
use Rattle.dfdl_markup.specs.Values as values
use Rattle.dfdl_markup.specs.Values.{names_of, have_same, bindings_of}
use Rattle.dfdl_xml_names.specs.Shown.{name_of, attribute_of}
use Rattle.dfdl_xml_names.specs.declared.name.Attribute.{Attribute}

-- a test of some name, and of all
pub any_name : (test : grammar.Name → Bool) (xs : List values.Attribute) → list_any test (names_of xs) ≡ list_any (λ a. test a.name) xs
any_name test [] = refl
any_name test (x ∷ xs) = ap (λ b. test x.name || b) (any_name test xs)

pub any_shown : (test : grammar.Name → Bool) (xs : List Attribute) → list_any test (names_of (map attribute_of xs)) ≡ list_any (λ a. test (name_of a.name)) xs
any_shown test [] = refl
any_shown test (x ∷ xs) = ap (λ b. test (name_of x.name) || b) (any_shown test xs)

pub all_shown : (test : grammar.Name → Bool) (xs : List Attribute) → list_all test (names_of (map attribute_of xs)) ≡ list_all (λ a. test (name_of a.name)) xs
all_shown test [] = refl
all_shown test (x ∷ xs) = ap (λ b. test (name_of x.name) && b) (all_shown test xs)

-- the attributes from a place on
pub from_place : (xs : List Attribute) (at : ℕ) (x : Attribute) → at < length xs → x ≡ get_or xs at x
    → drop at xs ≡ x ∷ drop (at + 1) xs
from_place [] at x less is = absurd (omega (arith, less))
from_place (y ∷ xs) zero x less is = ap (λ z. z ∷ xs) (sym is)
from_place (y ∷ xs) (suc at) x less is =
    let next : suc (at + 1) ≡ suc at + 1 = omega arith in
    from_place xs at x (omega (arith, less)) is ∙ ap (λ n. x ∷ drop n (y ∷ xs)) next

-- two names are the same from a place on: the first and a later one, or two later ones
pub same_from : (same : grammar.Name → grammar.Name → Bool) (xs others : List Attribute) (at : ℕ) (x : Attribute) (among : Bool)
    → at < length xs → x ≡ get_or xs at x → others ≡ drop (at + 1) xs
    → among ≡ list_any (λ a. same (name_of (get_or xs at x).name) (name_of a.name)) others
    → have_same same (names_of (map attribute_of (drop at xs)))
    ≡ (among || have_same same (names_of (map attribute_of (drop (at + 1) xs))))
same_from same xs others at x among less is rest found =
    ap (λ l. have_same same (names_of (map attribute_of l))) (from_place xs at x less is)
    ∙ ap (λ b. b || have_same same (names_of (map attribute_of (drop (at + 1) xs))))
    (any_shown (same (name_of x.name)) (drop (at + 1) xs)
    ∙ (ap (list_any (λ a. same (name_of x.name) (name_of a.name))) (sym rest)
    ∙ (ap (λ (z : Attribute). list_any (λ a. same (name_of z.name) (name_of a.name)) others) is ∙ sym found)))

-- one attribute more, and what it declares
pub declared_more : (xs : List Attribute) (x : Attribute)
    → bindings_of (map attribute_of (xs ++ x ∷ [])) ≡ bindings_of (map attribute_of xs) ++ bindings_of (attribute_of x ∷ [])
declared_more xs x =
    ap bindings_of (map-append attribute_of xs (x ∷ []))
    ∙ filter_map-append values.binding_of (map attribute_of xs) (attribute_of x ∷ [])

-- the attributes up to a place and the one at it, as they are shown
pub shown_more : (xs : List Attribute) (i : ℕ) (x : Attribute) → i < length xs → x ≡ get_or xs i x
    → map attribute_of (take (i + 1) xs) ≡ map attribute_of (take i xs) ++ attribute_of x ∷ []
shown_more xs i x less is =
    ap (map attribute_of) (take_more xs i x less)
    ∙ (map-append attribute_of (take i xs) (get_or xs i x ∷ [])
    ∙ ap (λ (z : Attribute). map attribute_of (take i xs) ++ attribute_of z ∷ []) (sym is))

-- a test of some attribute from a place on
pub any_from : (test : Attribute → Bool) (xs : List Attribute) (at : ℕ) (x : Attribute) → at < length xs → x ≡ get_or xs at x
    → list_any test (drop at xs) ≡ (test x || list_any test (drop (at + 1) xs))
any_from test xs at x less is = ap (list_any test) (from_place xs at x less is)

pub none_left : (test : Attribute → Bool) (xs : List Attribute) (at : ℕ) → length xs ≤ at → list_any test (drop at xs) ≡ false
none_left test [] zero past = refl
none_left test [] (suc at) past = refl
none_left test (x ∷ xs) zero past = absurd (omega (arith, past))
none_left test (x ∷ xs) (suc at) past = none_left test xs at (omega (arith, past))

pub no_more : (bindings : List values.Binding) → bindings ++ [] ≡ bindings
no_more [] = refl
no_more (x ∷ bindings) = ap (λ bs. x ∷ bs) (no_more bindings)
