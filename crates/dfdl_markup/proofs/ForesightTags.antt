-- What a character past ASCII does in a start tag.
use Rattle.std.proofs.Common.{◌≡◌, ℕ, ◌≤◌, ◌==◌, Bool, true, false, List, [], ◌∷◌, ◌++◌, Option}
use Rattle.std.proofs.Common.{Some, None, Result, Ok, Err, if◌then◌else◌, refl, sym, ap, subst, ◌∙◌}
use Rattle.std.proofs.Common.{arith, option_and_then, bytes_eq}
use Rattle.std.proofs.lemmas.Bool.{cond_both, cond-true, cond-false}
use Rattle.dfdl_xml_chars.specs.Characters.{is_name_start, is_name_char, high_start_rows}
use Rattle.dfdl_xml_chars.specs.Characters.{high_name_rows}
use Rattle.dfdl_xml_chars.specs.Beyond.{Does, GoesOn}
use Rattle.dfdl_xml_chars.proofs.Tables.{high_start, high_char}
use Rattle.dfdl_markup.specs.Grammar.{is_white, is_quote, Name}
use Rattle.dfdl_markup.specs.Values.{letter_read, declares, fixed_namespace, xml_namespace}
use Rattle.dfdl_markup.specs.Values.{xmlns_namespace, xml_prefix, xmlns_prefix}
use Rattle.dfdl_markup.specs.Machine.{State, Reading, First, Colon, Second, name_next, whole_name}
use Rattle.dfdl_markup.specs.Machine.{StartTag, OpenValue, AtTagName, AtTag, AtAttributeName}
use Rattle.dfdl_markup.specs.Machine.{AtValue, AtSlash, stand, begins, entered, if_ends, tag_step}
use Rattle.dfdl_markup.specs.Machine.{tag_of, tag_name_or, tag_name_step, behind_name}
use Rattle.dfdl_markup.specs.Machine.{attribute_name_or, attribute_name_step, named_step}
use Rattle.dfdl_markup.specs.Machine.{equals_step, with_text, fixed_value, value_goes_on}
use Rattle.dfdl_markup.specs.Machine.{value_step, slash_step, rows_in, beyond_tag, beyond_value}
use Rattle.dfdl_markup.proofs.ReferenceEntities.{is_plain}
use Rattle.dfdl_markup.proofs.ForesightForms.{apart, not_white, not_quote, not_closing, begins_high}
use Rattle.dfdl_markup.proofs.ForesightForms.{does_only}

xml_plain : is_plain xml_namespace ≡ true
unfolding xml_namespace
xml_plain = refl

xmlns_plain : is_plain xmlns_namespace ≡ true
unfolding xmlns_namespace
xmlns_plain = refl

of_prefix : (prefix fixed : List ℕ) → fixed_namespace prefix ≡ Some fixed → is_plain fixed ≡ true
of_prefix prefix fixed =
    cond_both (bytes_eq prefix xml_prefix) (Some xml_namespace)
    (if bytes_eq prefix xmlns_prefix then Some xmlns_namespace else None)
    (λ (o : Option (List ℕ)). o ≡ Some fixed → is_plain fixed ≡ true)
    (λ _ is. subst (λ l. is_plain l ≡ true) (some_is is) xml_plain)
    (λ _. cond_both (bytes_eq prefix xmlns_prefix) (Some xmlns_namespace) None
    (λ (o : Option (List ℕ)). o ≡ Some fixed → is_plain fixed ≡ true)
    (λ _ is. subst (λ l. is_plain l ≡ true) (some_is is) xmlns_plain) (λ _ is. absurd (cc)))
  where
    some_is : {a : List ℕ} → Some a ≡ Some fixed → a ≡ fixed
    some_is e = cc

of_declared : (o : Option (List ℕ)) (fixed : List ℕ) → option_and_then fixed_namespace o
    ≡ Some fixed
    → is_plain fixed ≡ true
of_declared None fixed is = absurd (cc)
of_declared (Some prefix) fixed is = of_prefix prefix fixed is

-- fixed values are ASCII
fixed_plain : (name : Name) (fixed : List ℕ) → fixed_value name ≡ Some fixed → is_plain fixed ≡ true
fixed_plain name fixed is = of_declared (declares name) fixed is

-- what goes on in a name goes on, and anything else is refused
pub reading_does : (c : ℕ) → 128 ≤ c → (reading : Reading) (f : Option Reading → Result State ℕ)
    → ((next : Reading) → GoesOn (f (Some next))) → f None ≡ Err 3
    → Does (rows_in reading) c (f (name_next reading c))
unfolding name_next
reading_does c high (First part) f goes fails =
    does_only high_name_rows 3 c (f (name_next (First part) c)) (is_name_char c) (high_char c high)
    (λ is. let next = goes (First (part ++ c ∷ [])) in
    (next.0, ap f (cond-true (is_name_char c) _ _ is) ∙ next.1))
    (λ is. ap f (cond-false (is_name_char c) _ _ is
    ∙ cond-false (c == 58) _ _ (apart c 58 high (omega arith))) ∙ fails)
reading_does c high (Colon prefix) f goes fails =
    does_only high_start_rows 3 c (f (name_next (Colon prefix) c)) (is_name_start c)
    (high_start c high)
    (λ is. let next = goes (Second prefix (c ∷ [])) in
    (next.0, ap f (cond-true (is_name_start c) _ _ is) ∙ next.1))
    (λ is. ap f (cond-false (is_name_start c) _ _ is) ∙ fails)
reading_does c high (Second prefix part) f goes fails =
    does_only high_name_rows 3 c (f (name_next (Second prefix part) c)) (is_name_char c)
    (high_char c high)
    (λ is. let next = goes (Second prefix (part ++ c ∷ [])) in
    (next.0, ap f (cond-true (is_name_char c) _ _ is) ∙ next.1))
    (λ is. ap f (cond-false (is_name_char c) _ _ is) ∙ fails)

module _ (s : State) (c : ℕ) (high : 128 ≤ c) where
  pub tag_does : (tag : StartTag) (spaced : Bool) → Does (beyond_tag spaced) c
      (tag_step s tag spaced c)
  unfolding tag_step
  tag_does tag true =
      does_only high_start_rows 3 c
      (if is_white c then Ok (stand s (AtTag tag true))
      else (if c == 62 then if_ends s tag (entered s tag)
      else (if c == 47 then if_ends s tag (stand s (AtSlash tag))
      else (if is_name_start c then Ok
      (stand s (AtAttributeName tag (First (c ∷ [])))) else Err 3))))
      (is_name_start c) (high_start c high)
      (λ is. (
        stand s (AtAttributeName tag (First (c ∷ []))),
        no_end ∙ cond-true (is_name_start c) _ _ is,
      ))
      (λ is. no_end ∙ cond-false (is_name_start c) _ _ is)
    where
      no_end : {r : Result State ℕ}
          → (if is_white c then Ok (stand s (AtTag tag true))
          else (if c == 62 then if_ends s tag (entered s tag)
          else (if c == 47 then if_ends s tag (stand s (AtSlash tag)) else r))) ≡ r
      no_end =
          cond-false (is_white c) _ _ (not_white c high)
          ∙ (cond-false (c == 62) _ _ (apart c 62 high (omega arith))
          ∙ cond-false (c == 47) _ _ (apart c 47 high (omega arith)))
  tag_does tag false =
      cond-false (is_white c) _ _ (not_white c high)
      ∙ (cond-false (c == 62) _ _ (apart c 62 high (omega arith))
      ∙ cond-false (c == 47) _ _ (apart c 47 high (omega arith)))

  no_tag_name : (whole : Option Name) → tag_name_or None whole s c ≡ Err 3
  no_tag_name None = refl
  no_tag_name (Some name) = tag_does (tag_of name) false

  pub tag_name_does : (reading : Reading) → Does (rows_in reading) c (tag_name_step s reading c)
  unfolding tag_name_step
  tag_name_does reading =
      reading_does c high reading (λ o. tag_name_or o (whole_name reading) s c)
      (λ next. (stand s (AtTagName next), refl)) (no_tag_name (whole_name reading))

  not_named : (tag : StartTag) (name : Name) → behind_name s tag name c ≡ Err 3
  unfolding behind_name
  not_named tag name =
      cond-false (is_white c) _ _ (not_white c high)
      ∙ cond-false (c == 61) _ _ (apart c 61 high (omega arith))

  no_attribute_name : (tag : StartTag) (whole : Option Name)
      → attribute_name_or None whole s tag c ≡ Err 3
  no_attribute_name tag None = refl
  no_attribute_name tag (Some name) = not_named tag name

  pub attribute_name_does : (tag : StartTag) (reading : Reading)
      → Does (rows_in reading) c (attribute_name_step s tag reading c)
  unfolding attribute_name_step
  attribute_name_does tag reading =
      reading_does c high reading (λ o. attribute_name_or o (whole_name reading) s tag c)
      (λ next. (stand s (AtAttributeName tag next), refl))
      (no_attribute_name tag (whole_name reading))

  pub named_does : (tag : StartTag) (name : Name) → named_step s tag name c ≡ Err 3
  unfolding named_step
  named_does tag name =
      cond-false (is_white c) _ _ (not_white c high)
      ∙ cond-false (c == 61) _ _ (apart c 61 high (omega arith))

  pub equals_does : (tag : StartTag) (name : Name) → equals_step s tag name c ≡ Err 3
  unfolding equals_step
  equals_does tag name =
      cond-false (is_white c) _ _ (not_white c high)
      ∙ cond-false (is_quote c) _ _ (not_quote c high)

  value_by : (v : OpenValue) (o : Option (List ℕ)) → fixed_value v.name ≡ o
      → Does (beyond_value o) c (value_goes_on o s v c)
  value_by v (Some fixed) is =
      cond-false (begins (v.text ++ c ∷ []) fixed) _ _
      (begins_high v.text fixed c high (fixed_plain v.name fixed is))
  value_by v None is = (
    stand s (AtValue (with_text v (letter_read v.behind_cr c) (c == 13))),
    cond-false (c == 60) _ _ (apart c 60 high (omega arith))
        ∙ cond-false (c == 38) _ _ (apart c 38 high (omega arith)),
  )

  pub value_does : (v : OpenValue) → is_quote v.quote ≡ true
      → Does (beyond_value (fixed_value v.name)) c (value_step s v c)
  unfolding value_step
  value_does v is =
      subst (λ (r : Result State ℕ). Does (beyond_value (fixed_value v.name)) c r)
      (sym (cond-false (c == v.quote) _ _ (not_closing v.quote c is high)))
      (value_by v (fixed_value v.name) refl)

  pub slash_does : slash_step s c ≡ Err 3
  unfolding slash_step
  slash_does = cond-false (c == 62) _ _ (apart c 62 high (omega arith))
