-- The values of attributes stay in the tree as it is, and are read as what they come to.
use Rattle.std.proofs.Common.{◌≡◌, ℕ, ◌==◌, ◌&&◌, Bool, true, false, not, List, [], ◌∷◌, ◌++◌}
use Rattle.std.proofs.Common.{if◌then◌else◌, map, Option, Some, None, refl, ap, sym, subst, ◌∙◌}
use Rattle.std.proofs.Common.{append_assoc, flat_map, option_and_then}
use Rattle.std.proofs.lemmas.List.{append-nil}
use Rattle.std.proofs.lemmas.Bool.{cond_both}
use Rattle.std.specs.Str.{bytes_eq}
use Rattle.dfdl_layers.specs.Tellers.{Each}
use Rattle.dfdl_markup.specs.Grammar.{is_white, Item, Letter, Referred, item_characters, Reference}
use Rattle.dfdl_markup.specs.Grammar.{reference_inside, reference_characters}
use Rattle.dfdl_markup.specs.Values.{letter_read, items_read, ends_in_cr, referred, fixed_namespace}
use Rattle.dfdl_markup.specs.Values.{xml_namespace, xmlns_namespace, xml_prefix, xmlns_prefix}
use Rattle.dfdl_markup.specs.Rules.{is_value_character, ItemKeeps, MayDeclare, BindsWell}
use Rattle.dfdl_markup.specs.Machine.{InValue, Place, AtValue, AtReference, OpenValue, NothingAhead}
use Rattle.dfdl_markup.specs.Machine.{Frame, State, step, value_step, value_goes_on, with_text}
use Rattle.dfdl_markup.specs.Machine.{fixed_value, begins}
use Rattle.dfdl_markup.proofs.RunSteps.{state}
use Rattle.dfdl_markup.proofs.BuiltSteps.{MayBe, if_may, Through, through_nothing, through_one}
use Rattle.dfdl_markup.proofs.BuiltSteps.{through_more, through_both}
use Rattle.dfdl_markup.proofs.BuiltReferences.{if_false_may, reference_place, reference_through}
use Rattle.dfdl_markup.proofs.BuiltReferences.{semicolon_may, semicolon_effect}

-- what is said of a character of a value
pub record OfValue (quote c : ℕ) : Type 0 where
  pub no_open : (c == 60) ≡ false
  pub no_reference : (c == 38) ≡ false
  pub no_quote : (c == quote) ≡ false

of_tests : (a b c : Bool) → (not a && (not b && not c)) ≡ true
    → (a ≡ false) × (b ≡ false) × (c ≡ false)
of_tests false false false e = (refl, refl, refl)
of_tests true b c e = absurd (cc)
of_tests false true c e = absurd (cc)
of_tests false false true e = absurd (cc)

pub of_value : (quote c : ℕ) → is_value_character quote c ≡ true → OfValue quote c
unfolding is_value_character
of_value quote c is =
    let tests : ((c == 60) ≡ false) × ((c == 38) ≡ false) × ((c == quote) ≡ false) =
    of_tests (c == 60) (c == 38) (c == quote) is in
    record { no_open = tests.0; no_reference = tests.1; no_quote = tests.2 }

-- the value behind so many items
abbrev pub grown_value : OpenValue → List Item → OpenValue
grown_value v items =
    with_text v (items_read v.behind_cr items) (ends_in_cr v.behind_cr items)

module _ (begun : ℕ) (frames : List Frame) where
  abbrev here : Place → State
  here place = state NothingAhead place begun frames

  text_assoc : (v : OpenValue) (a b : List ℕ) (first last : Bool)
      → with_text (with_text v a first) b last ≡ with_text v (a ++ b) last
  text_assoc v a b first last = ap (λ text. record {
    tag = v.tag;
    name = v.name;
    quote = v.quote;
    text = text;
    behind_cr = last;
  }) (append_assoc v.text a b)

  text_nothing : (v : OpenValue) → with_text v [] v.behind_cr ≡ v
  text_nothing v = ap (λ text. record {
    tag = v.tag;
    name = v.name;
    quote = v.quote;
    text = text;
    behind_cr = v.behind_cr;
  }) (append-nil v.text)

  letter_may : (v : OpenValue) (c : ℕ) → fixed_value v.name ≡ None → OfValue v.quote c
      → MayBe (step (here (AtValue v)) c)
      (here (AtValue (with_text v (letter_read v.behind_cr c) (c == 13))))
  unfolding step value_step
  letter_may v c free of =
      if_false_may (c == v.quote) _ _ _ of.no_quote
      (subst (λ f. MayBe (value_goes_on f (here (AtValue v)) v c)
      (here (AtValue (with_text v (letter_read v.behind_cr c) (c == 13))))) (sym free)
      (if_false_may (c == 60) _ _ _ of.no_open (if_false_may (c == 38) _ _ _ of.no_reference refl)))

  open_may : (v : OpenValue) → fixed_value v.name ≡ None → (38 == v.quote) ≡ false
      → MayBe (step (here (AtValue v)) 38) (here (AtReference (InValue v)))
  unfolding step value_step
  open_may v free apart =
      if_false_may (38 == v.quote) _ _ _ apart
      (subst (λ f. MayBe (value_goes_on f (here (AtValue v)) v 38) (here (AtReference (InValue v))))
      (sym free) refl)

  -- a reference in a value
  referred_through : (v : OpenValue) (n : ℕ) (reference : Reference) → fixed_value v.name ≡ None
      → (38 == v.quote) ≡ false → ItemKeeps n v.quote (Referred reference)
      → Through (here (AtValue v)) (reference_characters reference)
      (here (AtValue (with_text v (referred reference ∷ []) false)))
  referred_through v n reference free apart keeps =
      through_more (here (AtValue v)) (here (AtReference (InValue v)))
      (here (AtValue (with_text v (referred reference ∷ []) false))) 38
      (reference_inside reference ++ 59 ∷ []) (open_may v free apart) refl
      (through_both (here (AtReference (InValue v))) (here (reference_place (InValue v) reference))
      (here (AtValue (with_text v (referred reference ∷ []) false)))
      (reference_inside reference) (59 ∷ [])
      (reference_through begun frames (InValue v) n reference keeps)
      (through_one (here (reference_place (InValue v) reference))
      (here (AtValue (with_text v (referred reference ∷ []) false))) 59
      (semicolon_may begun frames (InValue v) reference)
      (semicolon_effect begun frames (InValue v) reference)))

  pub items_through : (v : OpenValue) (n : ℕ) (items : List Item) → fixed_value v.name ≡ None
      → (38 == v.quote) ≡ false → Each (ItemKeeps n v.quote) items
      → Through (here (AtValue v)) (flat_map item_characters items)
      (here (AtValue (grown_value v items)))
  items_through v n [] free apart keep =
      subst (λ w. Through (here (AtValue v)) [] (here (AtValue w))) (sym (text_nothing v))
      (through_nothing (here (AtValue v)))
  items_through v n (Letter c ∷ items) free apart keep =
      let next : OpenValue = with_text v (letter_read v.behind_cr c) (c == 13) in
      subst (λ w. Through (here (AtValue v)) (c ∷ flat_map item_characters items)
      (here (AtValue w)))
      (text_assoc v (letter_read v.behind_cr c) (items_read (c == 13) items) (c == 13)
      (ends_in_cr (c == 13) items))
      (through_more (here (AtValue v)) (here (AtValue next))
      (here (AtValue (grown_value next items)))
      c (flat_map item_characters items) (letter_may v c free (of_value v.quote c keep.0)) refl
      (items_through next n items free apart keep.1))
  items_through v n (Referred reference ∷ items) free apart keep =
      let next : OpenValue = with_text v (referred reference ∷ []) false in
      subst (λ w. Through (here (AtValue v)) (flat_map item_characters (Referred reference ∷ items))
      (here (AtValue w)))
      (text_assoc v (referred reference ∷ []) (items_read false items) false
      (ends_in_cr false items))
      (through_both (here (AtValue v)) (here (AtValue next))
      (here (AtValue (grown_value next items)))
      (reference_characters reference) (flat_map item_characters items)
      (referred_through v n reference free apart keep.0)
      (items_through next n items free apart keep.1))

  -- the characters of a value that must be this one
  fixed_may : (v : OpenValue) (fixed : List ℕ) (c : ℕ) → fixed_value v.name ≡ Some fixed
      → OfValue v.quote c
      → MayBe (step (here (AtValue v)) c) (here (AtValue (with_text v (c ∷ []) false)))
  unfolding step value_step
  fixed_may v fixed c is of =
      if_false_may (c == v.quote) _ _ _ of.no_quote
      (subst (λ f. MayBe (value_goes_on f (here (AtValue v)) v c)
      (here (AtValue (with_text v (c ∷ []) false)))) (sym is)
      (if_may (begins (v.text ++ c ∷ []) fixed) _ _ _ (λ e. refl) (λ e. tt)))

  pub fixed_through : (v : OpenValue) (n : ℕ) (fixed : List ℕ) (text : List ℕ)
      → fixed_value v.name ≡ Some fixed → v.behind_cr ≡ false
      → Each (ItemKeeps n v.quote) (map Letter text)
      → Through (here (AtValue v)) (flat_map item_characters (map Letter text))
      (here (AtValue (with_text v text false)))
  fixed_through v n fixed [] is behind keep =
      subst (λ w. Through (here (AtValue v)) [] (here (AtValue w)))
      (sym (ap (λ b. with_text v [] b) (sym behind) ∙ text_nothing v))
      (through_nothing (here (AtValue v)))
  fixed_through v n fixed (c ∷ text) is behind keep =
      let next : OpenValue = with_text v (c ∷ []) false in
      subst (λ w. Through (here (AtValue v)) (flat_map item_characters (map Letter (c ∷ text)))
      (here (AtValue w)))
      (text_assoc v (c ∷ []) text false false)
      (through_more (here (AtValue v)) (here (AtValue next))
      (here (AtValue (with_text next text false)))
      c (flat_map item_characters (map Letter text))
      (fixed_may v fixed c is (of_value v.quote c keep.0))
      refl (fixed_through next n fixed text is refl keep.1))

-- a declaration of `xml` or `xmlns` is written as it must be, and read so
abbrev pub Fixed : List Item → List ℕ → Type 0
Fixed items fixed = (items ≡ map Letter fixed) × (items_read false (map Letter fixed) ≡ fixed)

xml_read : items_read false (map Letter xml_namespace) ≡ xml_namespace
unfolding xml_namespace is_white
xml_read = refl

xmlns_read : items_read false (map Letter xmlns_namespace) ≡ xmlns_namespace
unfolding xmlns_namespace is_white
xmlns_read = refl

namespace_read : (prefix fixed : List ℕ) → fixed_namespace prefix ≡ Some fixed
    → items_read false (map Letter fixed) ≡ fixed
namespace_read prefix fixed =
    cond_both (bytes_eq prefix xml_prefix) (Some xml_namespace)
    (if bytes_eq prefix xmlns_prefix then Some xmlns_namespace else None)
    (λ (o : Option (List ℕ)). o ≡ Some fixed → items_read false (map Letter fixed) ≡ fixed)
    (λ e is. read_as xml_namespace is xml_read)
    (λ e. cond_both (bytes_eq prefix xmlns_prefix) (Some xmlns_namespace) None
    (λ (o : Option (List ℕ)). o ≡ Some fixed → items_read false (map Letter fixed) ≡ fixed)
    (λ f is. read_as xmlns_namespace is xmlns_read) (λ f is. absurd (cc)))
  where
    read_as : (namespace : List ℕ) → Some namespace ≡ Some fixed
        → items_read false (map Letter namespace) ≡ namespace
        → items_read false (map Letter fixed) ≡ fixed
    read_as namespace is read =
        let same : namespace ≡ fixed = cc in
        subst (λ w. items_read false (map Letter w) ≡ w) same read

pub binds_fixed : (declared : Option (List ℕ)) (items : List Item) (fixed : List ℕ)
    → BindsWell declared items → option_and_then fixed_namespace declared ≡ Some fixed
    → Fixed items fixed
binds_fixed None items fixed binds is = absurd (cc)
binds_fixed (Some prefix) items fixed binds is =
    (subst (λ f. MayDeclare prefix f items) is binds, namespace_read prefix fixed is)
