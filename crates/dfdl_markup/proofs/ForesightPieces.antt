-- What a character past ASCII does in references and in an XML declaration.
use Rattle.std.proofs.Common.{◌≡◌, ℕ, ◌<◌, ◌≤◌, ◌==◌, ◌||◌, Bool, true, false, List, [], ◌∷◌, ◌++◌}
use Rattle.std.proofs.Common.{Option, Some, None, Ok, Err, if◌then◌else◌, refl, ap, ◌∙◌, arith}
use Rattle.std.proofs.Common.{nat_le, ◌&&◌, inl, inr}
use Rattle.std.specs.List.{list_any}
use Rattle.std.proofs.lemmas.Bool.{cond-true, cond-false, or_from, and_parts, leb-true}
use Rattle.dfdl_layers.specs.Tellers.{Each}
use Rattle.dfdl_xml_chars.specs.Characters.{is_name_start, is_name_char, high_start_rows}
use Rattle.dfdl_xml_chars.specs.Characters.{high_name_rows}
use Rattle.dfdl_xml_chars.specs.Beyond.{Never, Does}
use Rattle.dfdl_xml_chars.proofs.Tables.{high_start, high_char}
use Rattle.dfdl_markup.specs.Grammar.{is_white, is_quote, Said, Version, Encoding, Standalone}
use Rattle.dfdl_markup.specs.Grammar.{said_word}
use Rattle.dfdl_markup.specs.Values.{is_digit, entities, entity}
use Rattle.dfdl_markup.specs.Rules.{is_encoding_character, small, version_value, encoding_value}
use Rattle.dfdl_markup.specs.Rules.{yes_value, no_value}
use Rattle.dfdl_markup.specs.Machine.{State, Within, AtHash, stand, begins, begins_entity}
use Rattle.dfdl_markup.specs.Machine.{entity_next, entity_ended, reference_step, entity_step}
use Rattle.dfdl_markup.specs.Machine.{hash_step, hexadecimal_step, number_step, said_next}
use Rattle.dfdl_markup.specs.Machine.{said_begun, declaration_step, said_step, said_word_step}
use Rattle.dfdl_markup.specs.Machine.{said_equals_step, said_values, said_character, said_fault}
use Rattle.dfdl_markup.specs.Machine.{said_value_step, declaration_end_step}
use Rattle.dfdl_markup.proofs.ReferenceEntities.{is_plain, IsEntity, all_entities}
use Rattle.dfdl_markup.proofs.DeclarationValues.{said_plain, words_plain}
use Rattle.dfdl_markup.proofs.ForesightForms.{apart, not_white, not_quote, not_closing, not_digit}
use Rattle.dfdl_markup.proofs.ForesightForms.{not_encoding, small_high, begins_high, does_never}

none_in : (rows : List (List ℕ × ℕ)) (name : List ℕ) (c : ℕ) → 128 ≤ c
    → Each (λ e. IsEntity e.0) rows
    → list_any (λ e. begins (name ++ c ∷ []) e.0) rows ≡ false
none_in [] name c high are = refl
none_in (row ∷ rows) name c high are =
    or_from (begins (name ++ c ∷ []) row.0) (list_any (λ e. begins (name ++ c ∷ []) e.0) rows)
    (begins_high name row.0 c high are.0.plain) (none_in rows name c high are.1)

no_entity : (name : List ℕ) (c : ℕ) → 128 ≤ c → begins_entity (name ++ c ∷ []) ≡ false
no_entity name c high = none_in entities name c high all_entities

-- what is left of an ASCII word has no such character
pub plain_first : (word left : List ℕ) (w : ℕ) → is_plain (word ++ w ∷ left) ≡ true → w < 128
plain_first [] left w plain =
    let parts = and_parts (nat_le 32 w && nat_le w 127) (is_plain left) plain in
    let ends = and_parts (nat_le 32 w) (nat_le w 127) parts.0 in
    let most : w ≤ 127 = leb-true w 127 ends.1 in
    omega arith
plain_first (c ∷ word) left w plain =
    plain_first word left w
    (and_parts (nat_le 32 c && nat_le c 127) (is_plain (word ++ w ∷ left)) plain).1

no_value_on : (said : Said) (read : List ℕ) (c : ℕ) → 128 ≤ c
    → list_any (begins (read ++ said_character said c ∷ [])) (said_values said) ≡ false
no_value_on Version read c high =
    or_from (begins (read ++ c ∷ []) version_value) false
    (begins_high read version_value c high (said_plain Version version_value refl)) refl
no_value_on Encoding read c high =
    or_from (begins (read ++ small c ∷ []) encoding_value) false
    (ap (λ d. begins (read ++ d ∷ []) encoding_value) (small_high c high)
    ∙ begins_high read encoding_value c high (said_plain Encoding encoding_value refl)) refl
no_value_on Standalone read c high =
    or_from (begins (read ++ c ∷ []) yes_value) (begins (read ++ c ∷ []) no_value || false)
    (begins_high read yes_value c high (said_plain Standalone yes_value (inl refl)))
    (or_from (begins (read ++ c ∷ []) no_value) false
    (begins_high read no_value c high (said_plain Standalone no_value (inr refl))) refl)

no_other_fault : (said : Said) (quote c : ℕ) → is_quote quote ≡ true → 128 ≤ c
    → said_fault said quote c ≡ 3
no_other_fault Version quote c is high = refl
no_other_fault Standalone quote c is high = refl
no_other_fault Encoding quote c is high =
    cond-false (is_encoding_character c || c == quote) 9 3
    (or_from (is_encoding_character c) (c == quote) (not_encoding c high)
    (not_closing quote c is high))

module _ (s : State) (c : ℕ) (high : 128 ≤ c) where
  pub reference_does : (within : Within) → Does (Never high_start_rows 6 3) c
      (reference_step s within c)
  unfolding reference_step
  reference_does within =
      does_never high_start_rows 6 3 c
      (if is_name_start c then entity_next s within (c ∷ [])
      else (if c == 35 then Ok (stand s (AtHash within)) else Err 3)) (is_name_start c)
      (high_start c high)
      (λ is. cond-true (is_name_start c) _ _ is
      ∙ cond-false (begins_entity (c ∷ [])) _ _ (no_entity [] c high))
      (λ is. cond-false (is_name_start c) _ _ is
      ∙ cond-false (c == 35) _ _ (apart c 35 high (omega arith)))

  pub entity_does : (within : Within) (name : List ℕ)
      → Does (Never high_name_rows 6 3) c (entity_step s within name c)
  unfolding entity_step
  entity_does within name =
      does_never high_name_rows 6 3 c
      (if is_name_char c then entity_next s within (name ++ c ∷ [])
      else (if c == 59 then entity_ended s within (entity name) else Err 3)) (is_name_char c)
      (high_char c high)
      (λ is. cond-true (is_name_char c) _ _ is
      ∙ cond-false (begins_entity (name ++ c ∷ [])) _ _ (no_entity name c high))
      (λ is. cond-false (is_name_char c) _ _ is
      ∙ cond-false (c == 59) _ _ (apart c 59 high (omega arith)))

  pub hash_does : (within : Within) → hash_step s within c ≡ Err 3
  unfolding hash_step
  hash_does within =
      cond-false (is_digit false c) _ _ (not_digit false c high)
      ∙ cond-false (c == 120) _ _ (apart c 120 high (omega arith))

  pub hexadecimal_does : (within : Within) → hexadecimal_step s within c ≡ Err 3
  unfolding hexadecimal_step
  hexadecimal_does within = cond-false (is_digit true c) _ _ (not_digit true c high)

  pub number_does : (within : Within) (hexadecimal : Bool) (value : ℕ)
      → number_step s within hexadecimal value c ≡ Err 3
  unfolding number_step
  number_does within hexadecimal value =
      cond-false (is_digit hexadecimal c) _ _ (not_digit hexadecimal c high)
      ∙ cond-false (c == 59) _ _ (apart c 59 high (omega arith))

  no_word : (last : Option Said) → said_next last c ≡ None
  no_word None = cond-false (c == 118) _ _ (apart c 118 high (omega arith))
  no_word (Some Version) =
      cond-false (c == 101) _ _ (apart c 101 high (omega arith))
      ∙ cond-false (c == 115) _ _ (apart c 115 high (omega arith))
  no_word (Some Encoding) = cond-false (c == 115) _ _ (apart c 115 high (omega arith))
  no_word (Some Standalone) = refl

  spaced_does : (last : Option Said) (spaced : Bool)
      → (if spaced then said_begun (said_next last c) s else Err 3) ≡ Err 3
  spaced_does last true = ap (λ o. said_begun o s) (no_word last)
  spaced_does last false = refl

  pub declaration_does : (last : Option Said) (spaced : Bool)
      → declaration_step s last spaced c ≡ Err 3
  unfolding declaration_step
  declaration_does last spaced =
      cond-false (is_white c) _ _ (not_white c high)
      ∙ (cond-false (c == 63) _ _ (apart c 63 high (omega arith)) ∙ spaced_does last spaced)

  pub said_does : (said : Said) → said_step s said c ≡ Err 3
  unfolding said_step
  said_does said =
      cond-false (is_white c) _ _ (not_white c high)
      ∙ cond-false (c == 61) _ _ (apart c 61 high (omega arith))

  pub said_word_does : (said : Said) (left : List ℕ)
      → (word : List ℕ) × (word ++ left ≡ said_word said) → said_word_step s said left c ≡ Err 3
  unfolding said_word_step
  said_word_does said [] part = said_does said
  said_word_does said (w ∷ left) part =
      let low = plain_first part.0 left w (ap is_plain part.1 ∙ words_plain said) in
      cond-false (c == w) _ _ (apart c w high low)

  pub said_equals_does : (said : Said) → said_equals_step s said c ≡ Err 3
  unfolding said_equals_step
  said_equals_does said =
      cond-false (is_white c) _ _ (not_white c high)
      ∙ cond-false (is_quote c) _ _ (not_quote c high)

  pub said_value_does : (said : Said) (quote : ℕ) (read : List ℕ) → is_quote quote ≡ true
      → said_value_step s said quote read c ≡ Err 3
  unfolding said_value_step
  said_value_does said quote read is =
      cond-false (c == quote) _ _ (not_closing quote c is high)
      ∙ (cond-false (list_any (begins (read ++ said_character said c ∷ [])) (said_values said)) _ _
      (no_value_on said read c high)
      ∙ ap (λ m. Err m) (no_other_fault said quote c is high))

  pub declaration_end_does : declaration_end_step s c ≡ Err 3
  unfolding declaration_end_step
  declaration_end_does = cond-false (c == 62) _ _ (apart c 62 high (omega arith))
