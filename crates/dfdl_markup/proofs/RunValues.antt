-- The machine runs over the values of attributes.
use Rattle.std.proofs.Common.{◌≡◌, ℕ, ◌==◌, ◌&&◌, Bool, true, false, not}
use Rattle.std.proofs.Common.{if◌then◌else◌, List, [], ◌∷◌, ◌++◌, Option, Some, None}
use Rattle.std.proofs.Common.{option_and_then}
use Rattle.std.proofs.Common.{Ok, map, refl, sym, ap, ◌∙◌, subst, inl, inr}
use Rattle.std.proofs.Common.{append_assoc}
use Rattle.std.specs.List.{flat_map}
use Rattle.std.specs.Str.{bytes_eq}
use Rattle.std.proofs.lemmas.List.{append-nil}
use Rattle.std.proofs.lemmas.Slice.Eq.{bytes_eq-Decides}
use Rattle.std.proofs.lemmas.Bool.{eqb-true, and_parts, not-true, or_cases}
use Rattle.dfdl_layers.specs.Tellers.{Each}
use Rattle.dfdl_markup.specs.Grammar.{is_white, is_quote, Name, Reference, reference_inside}
use Rattle.dfdl_markup.specs.Grammar.{reference_characters, Item, Letter, Referred, item_characters}
use Rattle.dfdl_markup.specs.Values.{letter_read, items_read, value_of, referred, declares}
use Rattle.dfdl_markup.specs.Values.{xml_namespace, xmlns_namespace, xml_prefix, xmlns_prefix}
use Rattle.dfdl_markup.specs.Values.{fixed_namespace}
use Rattle.dfdl_markup.specs.Rules.{is_value_character, ItemKeeps, MayDeclare, BindsWell}
use Rattle.dfdl_markup.specs.Machine.{StartTag, OpenValue, InValue, Place, AtValue, AtReference}
use Rattle.dfdl_markup.specs.Machine.{NothingAhead, Frame, State, step, begins, fixed_value}
use Rattle.dfdl_markup.specs.Machine.{may_close}
use Rattle.dfdl_markup.specs.Machine.{value_goes_on, value_step}
use Rattle.dfdl_markup.proofs.RunReferences.{begins_front, reference_runs}
use Rattle.dfdl_markup.proofs.RunSteps.{state, RunsFrom, goes, if_true, if_false}

-- what holds of both quotation marks holds of one
pub quote_is : (P : ℕ → Type 0) (q : ℕ) → P 34 → P 39 → is_quote q ≡ true → P q
unfolding is_quote
quote_is P q double single is =
    elim (or_cases _ _ is) [
      | inl e ↦ subst P (sym (eqb-true _ _ e)) double
      | inr e ↦ subst P (sym (eqb-true _ _ e)) single
    ]

ampersand_apart : (q : ℕ) → is_quote q ≡ true → (38 == q) ≡ false
ampersand_apart q is = quote_is (λ p. (38 == p) ≡ false) q refl refl is

-- a character of a value is none of these
record IsLetter (quote c : ℕ) : Type 0 where
  no_less : (c == 60) ≡ false
  no_ampersand : (c == 38) ≡ false
  no_quote : (c == quote) ≡ false

letter_is : (quote c : ℕ) → is_value_character quote c ≡ true → IsLetter quote c
unfolding is_value_character
letter_is quote c is =
    let parts = and_parts (not (c == 60)) (not (c == 38) && not (c == quote)) is in
    let more = and_parts (not (c == 38)) (not (c == quote)) parts.1 in
    record {
      no_less = not-true (c == 60) parts.0;
      no_ampersand = not-true (c == 38) more.0;
      no_quote = not-true (c == quote) more.1;
    }

-- the namespaces of the prefixes `xml` and `xmlns` are read as they are written
fixed_read : (prefix fixed : List ℕ) → fixed_namespace prefix ≡ Some fixed
    → value_of (map Letter fixed) ≡ fixed
unfolding xml_namespace xmlns_namespace is_white
fixed_read prefix fixed is = one (bytes_eq prefix xml_prefix) (bytes_eq prefix xmlns_prefix) is
  where
    one : (a b : Bool) →
        (if a then Some xml_namespace else (if b then Some xmlns_namespace else None)) ≡ Some fixed
        → value_of (map Letter fixed) ≡ fixed
    one true b e = let same : xml_namespace
        ≡ fixed = cc in subst (λ f. value_of (map Letter f) ≡ f) same refl
    one false true e = let same : xmlns_namespace
        ≡ fixed = cc in subst (λ f. value_of (map Letter f) ≡ f) same refl
    one false false e = absurd (cc)

-- what may be declared may be closed
closes_so : (prefix : List ℕ) (f : Option (List ℕ)) (items : List Item) → fixed_namespace prefix ≡ f
    → MayDeclare prefix f items → may_close (Some prefix) f (value_of items) ≡ true
closes_so prefix None items is may = may
closes_so prefix (Some fixed) items is may =
    (bytes_eq-Decides (value_of items) fixed).1 (ap value_of may ∙ fixed_read prefix fixed is)

pub closes : (d : Option (List ℕ)) (items : List Item) → BindsWell d items
    → may_close d (option_and_then fixed_namespace d) (value_of items) ≡ true
closes None items binds = refl
closes (Some prefix) items binds = closes_so prefix (fixed_namespace prefix) items refl binds

fixed_items : (d : Option (List ℕ)) (fixed : List ℕ) (items : List Item)
    → option_and_then fixed_namespace d ≡ Some fixed → BindsWell d items
    → (items ≡ map Letter fixed) × (value_of items ≡ fixed)
fixed_items None fixed items is binds = absurd (cc)
fixed_items (Some prefix) fixed items is binds =
    let same : items ≡ map Letter fixed = subst (λ f. MayDeclare prefix f items) is binds in
    (same, ap value_of same ∙ fixed_read prefix fixed is)

-- a reference, and what follows it
pub reference_text : (reference : Reference) (rest : List ℕ)
    → reference_characters reference ++ rest ≡ 38 ∷ (reference_inside reference ++ 59 ∷ rest)
reference_text reference rest = ap (λ l. 38 ∷ l)
    (append_assoc (reference_inside reference) (59 ∷ []) rest)

module _ (n begun : ℕ) (frames : List Frame) (tag : StartTag) (name : Name) (quote : ℕ) where
  abbrev here : Place → State
  here place = state NothingAhead place begun frames

  -- the value with this text
  abbrev pub value : List ℕ → Bool → OpenValue
  value text cr = record { tag = tag; name = name; quote = quote; text = text; behind_cr = cr }

  letter_goes : (text : List ℕ) (cr : Bool) (c : ℕ) → fixed_value name ≡ None → IsLetter quote c
      → step (here (AtValue (value text cr))) c
      ≡ Ok (here (AtValue (value (text ++ letter_read cr c) (c == 13))))
  unfolding step value_step
  letter_goes text cr c free is =
      let s = here (AtValue (value text cr)) in
      if_false (c == quote) _ _ is.no_quote ∙ (ap (λ f. value_goes_on f s (value text cr) c) free
      ∙ (if_false (c == 60) _ _ is.no_less ∙ if_false (c == 38) _ _ is.no_ampersand))

  ampersand_goes : (text : List ℕ) (cr : Bool) → fixed_value name ≡ None → is_quote quote ≡ true
      → step (here (AtValue (value text cr))) 38 ≡ Ok (here (AtReference (InValue (value text cr))))
  unfolding step value_step
  ampersand_goes text cr free is =
      let s = here (AtValue (value text cr)) in
      if_false (38 == quote) _ _ (ampersand_apart quote is)
      ∙ ap (λ f. value_goes_on f s (value text cr) 38) free

  fixed_goes : (text fixed : List ℕ) (cr : Bool) (c : ℕ) → fixed_value name ≡ Some fixed
      → (c == quote) ≡ false → begins (text ++ c ∷ []) fixed ≡ true
      → step (here (AtValue (value text cr))) c ≡ Ok (here (AtValue (value (text ++ c ∷ []) false)))
  unfolding step value_step
  fixed_goes text fixed cr c is no_quote front =
      let s = here (AtValue (value text cr)) in
      if_false (c == quote) _ _ no_quote ∙ (ap (λ f. value_goes_on f s (value text cr) c) is
      ∙ if_true (begins (text ++ c ∷ []) fixed) _ _ front)

  -- the items of a value that isn't fixed
  items_runs : (text : List ℕ) (cr : Bool) (items : List Item) (tail : List ℕ)
      → fixed_value name ≡ None → is_quote quote ≡ true → Each (ItemKeeps n quote) items
      → ((last : Bool) → RunsFrom n begun frames
      (AtValue (value (text ++ items_read cr items) last)) tail)
      → RunsFrom n begun frames (AtValue (value text cr)) (flat_map item_characters items ++ tail)
  items_runs text cr [] tail free is keep ends =
      subst (λ w. RunsFrom n begun frames (AtValue (value w cr)) tail) (append-nil text) (ends cr)
  items_runs text cr (Letter c ∷ items) tail free is keep ends =
      let rest = flat_map item_characters items ++ tail in
      let next = text ++ letter_read cr c in
      goes n (here (AtValue (value text cr))) (here (AtValue (value next (c == 13)))) c rest
      (letter_goes text cr c free (letter_is quote c keep.0))
      (items_runs next (c == 13) items tail free is keep.1
      (λ last. subst (λ w. RunsFrom n begun frames (AtValue (value w last)) tail)
      (sym (append_assoc text (letter_read cr c) (items_read (c == 13) items))) (ends last)))
  items_runs text cr (Referred reference ∷ items) tail free is keep ends =
      let rest = flat_map item_characters items ++ tail in
      let next = text ++ referred reference ∷ [] in
      subst (λ l. RunsFrom n begun frames (AtValue (value text cr)) l)
      (sym (append_assoc (reference_characters reference) (flat_map item_characters items) tail
      ∙ reference_text reference rest))
      (goes n (here (AtValue (value text cr))) (here (AtReference (InValue (value text cr)))) 38
      (reference_inside reference ++ 59 ∷ rest) (ampersand_goes text cr free is)
      (reference_runs n begun frames (InValue (value text cr)) reference rest keep.0
      (items_runs next false items tail free is keep.1
      (λ last. subst (λ w. RunsFrom n begun frames (AtValue (value w last)) tail)
      (sym (append_assoc text (referred reference ∷ []) (items_read false items))) (ends last)))))

  -- the letters of one that is fixed
  letters_run : (text left fixed : List ℕ) (cr : Bool) (tail : List ℕ) → fixed_value name
      ≡ Some fixed
      → text ++ left ≡ fixed → Each (ItemKeeps n quote) (map Letter left)
      → ((last : Bool) → RunsFrom n begun frames (AtValue (value fixed last)) tail)
      → RunsFrom n begun frames (AtValue (value text cr))
      (flat_map item_characters (map Letter left) ++ tail)
  letters_run text [] fixed cr tail is whole keep ends =
      subst (λ w. RunsFrom n begun frames (AtValue (value w cr)) tail) (sym whole ∙ append-nil text)
      (ends cr)
  letters_run text (c ∷ left) fixed cr tail is whole keep ends =
      let joined : (text ++ c ∷ []) ++ left ≡ fixed = append_assoc text (c ∷ []) left ∙ whole in
      goes n (here (AtValue (value text cr))) (here (AtValue (value (text ++ c ∷ []) false))) c
      (flat_map item_characters (map Letter left) ++ tail)
      (fixed_goes text fixed cr c is (letter_is quote c keep.0).no_quote
      (subst (λ w. begins (text ++ c ∷ []) w ≡ true) joined (begins_front (text ++ c ∷ []) left)))
      (letters_run (text ++ c ∷ []) left fixed false tail is joined keep.1 ends)

  -- the items of any value
  value_by : (f : Option (List ℕ)) (items : List Item) (tail : List ℕ) → fixed_value name ≡ f
      → is_quote quote ≡ true → Each (ItemKeeps n quote) items → BindsWell (declares name) items
      → ((last : Bool) → RunsFrom n begun frames (AtValue (value (value_of items) last)) tail)
      → RunsFrom n begun frames (AtValue (value [] false)) (flat_map item_characters items ++ tail)
  value_by None items tail is quoted keep binds ends =
      items_runs [] false items tail is quoted keep ends
  value_by (Some fixed) items tail is quoted keep binds ends =
      let known = fixed_items (declares name) fixed items is binds in
      subst (λ l. RunsFrom n begun frames (AtValue (value [] false))
      (flat_map item_characters l ++ tail)) (sym known.0)
      (letters_run [] fixed fixed false tail is refl
      (subst (λ l. Each (ItemKeeps n quote) l) known.0 keep)
      (λ last. subst (λ w. RunsFrom n begun frames (AtValue (value w last)) tail) known.1
      (ends last)))

  pub value_runs : (items : List Item) (tail : List ℕ)
      → is_quote quote ≡ true → Each (ItemKeeps n quote) items → BindsWell (declares name) items
      → ((last : Bool) → RunsFrom n begun frames (AtValue (value (value_of items) last)) tail)
      → RunsFrom n begun frames (AtValue (value [] false)) (flat_map item_characters items ++ tail)
  value_runs items tail quoted keep binds ends =
      value_by (fixed_value name) items tail refl quoted keep binds ends
