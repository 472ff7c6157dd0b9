-- The XML declaration stays in the tree as it is.
use Rattle.std.proofs.Common.{◌≡◌, ℕ, ◌⊎◌, Bool, true, false, List, [], ◌∷◌, ◌++◌, Option, Some}
use Rattle.std.proofs.Common.{None, refl, ap, sym, subst, ◌∙◌, append_assoc, inl, inr, ◌&&◌}
use Rattle.std.proofs.lemmas.Bool.{or_cases, eqb-true, cases_Bool}
use Rattle.std.specs.Str.{bytes_eq}
use Rattle.dfdl_layers.specs.Tellers.{Each}
use Rattle.dfdl_xml_chars.specs.Characters.{is_name_start, is_name_char, low_start_rows}
use Rattle.dfdl_xml_chars.specs.Characters.{low_name_rows}
use Rattle.dfdl_markup.specs.Grammar.{is_white, is_quote, Said, Version, Encoding, Standalone}
use Rattle.dfdl_markup.specs.Grammar.{Saying, saying_characters, optional_characters, Declaration}
use Rattle.dfdl_markup.specs.Grammar.{xml_word, declaration_inside}
use Rattle.dfdl_markup.specs.Rules.{AreWhite, is_encoding_character, version_value, yes_value}
use Rattle.dfdl_markup.specs.Rules.{no_value, SaysEncoding, SaysStandalone, DeclarationKeeps}
use Rattle.dfdl_markup.specs.Rules.{is_xml}
use Rattle.dfdl_markup.specs.Machine.{Place, AtContent, AtOpened, AtQuestion, AtTarget}
use Rattle.dfdl_markup.specs.Machine.{AtDeclaration, AtDeclarationEnd, Ahead, NothingAhead, Frame}
use Rattle.dfdl_markup.specs.Machine.{State, step, target_step, may_declare, declaration_step}
use Rattle.dfdl_markup.specs.Machine.{declaration_end_step}
use Rattle.dfdl_markup.proofs.RunSteps.{state}
use Rattle.dfdl_markup.proofs.RunNames.{white_ends}
use Rattle.dfdl_markup.proofs.BuiltSteps.{MayBe, if_may, Through, through_nothing, through_one}
use Rattle.dfdl_markup.proofs.BuiltSteps.{through_more, through_both}
use Rattle.dfdl_markup.proofs.BuiltNames.{OverWhite, white_through}
use Rattle.dfdl_markup.proofs.BuiltReferences.{if_false_may, if_true_may}
use Rattle.dfdl_markup.proofs.BuiltPieces.{question_may, target_begun, target_through}
use Rattle.dfdl_markup.proofs.BuiltSayings.{over_declaration, saying_through, begins_version}
use Rattle.dfdl_markup.proofs.BuiltSayings.{Begins, begins_encoding, standalone_first}
use Rattle.dfdl_markup.proofs.BuiltSayings.{standalone_second}

-- no quotation mark stands in a value
abbrev HasNoQuote : List ℕ → Type 0
HasNoQuote value = Each (λ c. is_quote c ≡ false) value

version_no_quote : HasNoQuote version_value
unfolding version_value is_quote
version_no_quote = (refl, (refl, (refl, tt)))

yes_no_quote : HasNoQuote yes_value
unfolding yes_value is_quote
yes_no_quote = (refl, (refl, (refl, tt)))

no_no_quote : HasNoQuote no_value
unfolding no_value is_quote
no_no_quote = (refl, (refl, tt))

not_quote : (c : ℕ) → is_encoding_character c ≡ true → is_quote c ≡ true → ⊥
unfolding is_quote is_encoding_character
not_quote c is quote = elim (or_cases _ _ quote) [
  | inl e ↦ (let same : is_encoding_character 34 ≡ true =
      subst (λ d. is_encoding_character d ≡ true) (eqb-true c 34 e) is in cc)
  | inr e ↦ (let same : is_encoding_character 39 ≡ true =
      subst (λ d. is_encoding_character d ≡ true) (eqb-true c 39 e) is in cc)
]

encoding_no_quote : (value : List ℕ) → Each (λ c. is_encoding_character c ≡ true) value
    → HasNoQuote value
encoding_no_quote [] are = tt
encoding_no_quote (c ∷ value) are =
    (by_test (cases_Bool (is_quote c)), encoding_no_quote value are.1)
  where
    by_test : (is_quote c ≡ true) ⊎ (is_quote c ≡ false) → is_quote c ≡ false
    by_test (inl e) = absurd (not_quote c are.0 e)
    by_test (inr e) = e

module _ (ahead : Ahead) (begun : ℕ) (frames : List Frame) where
  abbrev at : Place → State
  at place = state ahead place begun frames

  -- behind what may be said
  pub record SaidTo (from : State) (characters : List ℕ) : Type 0 where
    pub last : Option Said
    pub through : Through from characters (at (AtDeclaration last false))

  encoding_through : (n : ℕ) (encoding : Option Saying) → SaysEncoding n encoding
      → SaidTo (at (AtDeclaration (Some Version) false)) (optional_characters Encoding encoding)
  encoding_through n None says =
      record {
        last = Some Version;
        through =
            through_nothing (at (AtDeclaration (Some Version) false));
      }
  encoding_through n (Some saying) says = record {
    last = Some Encoding;
    through = saying_through ahead begun frames (at (AtDeclaration (Some Version) false))
        (Some Version) Encoding
        saying (over_declaration ahead begun frames (Some Version) false)
        (begins_encoding ahead begun frames)
        says.0 (encoding_no_quote saying.value says.1.0);
  }

  standalone_no_quote : (value : List ℕ) → (value ≡ yes_value) ⊎ (value ≡ no_value)
      → HasNoQuote value
  standalone_no_quote value (inl e) = subst HasNoQuote (sym e) yes_no_quote
  standalone_no_quote value (inr e) = subst HasNoQuote (sym e) no_no_quote

  standalone_through : (last : Option Said) → Begins ahead begun frames last Standalone
      → (standalone : Option Saying) → SaysStandalone standalone
      → SaidTo (at (AtDeclaration last false)) (optional_characters Standalone standalone)
  standalone_through last begins None says =
      record { last = last; through = through_nothing (at (AtDeclaration last false)) }
  standalone_through last begins (Some saying) says = record {
    last = Some Standalone;
    through = saying_through ahead begun frames (at (AtDeclaration last false)) last Standalone
        saying
        (over_declaration ahead begun frames last false) begins says.0
        (standalone_no_quote saying.value says.1);
  }

  both_through : (n : ℕ) (encoding standalone : Option Saying) → SaysEncoding n encoding
      → SaysStandalone standalone
      → SaidTo (at (AtDeclaration (Some Version) false))
      (optional_characters Encoding encoding ++ optional_characters Standalone standalone)
  both_through n None standalone first second =
      standalone_through (Some Version) (standalone_first ahead begun frames) standalone second
  both_through n (Some saying) standalone first second =
      let said : SaidTo (at (AtDeclaration (Some Encoding) false))
      (optional_characters Standalone standalone) =
      standalone_through (Some Encoding) (standalone_second ahead begun frames) standalone second in
      record {
        last = said.last;
        through = through_both (at (AtDeclaration (Some Version) false))
            (at (AtDeclaration (Some Encoding) false))
            (at (AtDeclaration said.last false)) (saying_characters Encoding saying)
            (optional_characters Standalone standalone)
            (saying_through ahead begun frames (at (AtDeclaration (Some Version) false))
            (Some Version) Encoding
            saying (over_declaration ahead begun frames (Some Version) false)
            (begins_encoding ahead begun frames)
            first.0 (encoding_no_quote saying.value first.1.0))
            said.through;
      }

  -- behind the target
  over_target : OverWhite (at (AtTarget xml_word)) (at (AtDeclaration None true))
  unfolding step target_step xml_word is_xml
  over_target = record {
    goes = λ c is.
        if_false_may (is_name_char c) _ _ _ (white_ends c is).no_char
        (if_true_may (is_white c) _ _ _ is
        (if_may (may_declare ahead && bytes_eq xml_word xml_word) _ _ _ (λ e. refl) (λ e. tt)));
    stays = λ c is. refl;
  }

  target_start : is_name_start 120 ≡ true
  unfolding is_name_start low_start_rows
  target_start = refl

  target_letters : Each (λ c. is_name_char c ≡ true) (109 ∷ 108 ∷ [])
  unfolding is_name_char low_start_rows low_name_rows
  target_letters = (refl, (refl, tt))

  xml_through : Through (at AtOpened) (63 ∷ xml_word) (at (AtTarget xml_word))
  unfolding xml_word
  xml_through =
      through_more (at AtOpened) (at AtQuestion) (at (AtTarget (120 ∷ 109 ∷ 108 ∷ []))) 63
      (120 ∷ 109 ∷ 108 ∷ [])
      (question_may begun frames ahead) refl
      (through_more (at AtQuestion) (at (AtTarget (120 ∷ [])))
      (at (AtTarget (120 ∷ 109 ∷ 108 ∷ []))) 120
      (109 ∷ 108 ∷ []) (target_begun begun frames ahead 120 target_start) refl
      (target_through begun frames ahead (120 ∷ []) (109 ∷ 108 ∷ []) target_letters))

  ending_may : (last : Option Said) (spaced : Bool)
      → MayBe (step (at (AtDeclaration last spaced)) 63) (at AtDeclarationEnd)
  unfolding step declaration_step is_white
  ending_may None spaced = tt
  ending_may (Some said) spaced = refl

  end_may : MayBe (step (at AtDeclarationEnd) 62) (state NothingAhead (AtContent 0) begun frames)
  unfolding step declaration_end_step
  end_may = refl

  mark_through : (last : Option Said) (spaced : Bool)
      → Through (at (AtDeclaration last spaced)) (63 ∷ 62 ∷ [])
      (state NothingAhead (AtContent 0) begun frames)
  mark_through last spaced =
      through_more (at (AtDeclaration last spaced)) (at AtDeclarationEnd)
      (state NothingAhead (AtContent 0) begun frames) 63 (62 ∷ []) (ending_may last spaced) refl
      (through_one (at AtDeclarationEnd) (state NothingAhead (AtContent 0) begun frames) 62 end_may
      refl)

  ending_through : (last : Option Said) (space : List ℕ) → AreWhite space
      → Through (at (AtDeclaration last false)) (space ++ 63 ∷ 62 ∷ [])
      (state NothingAhead (AtContent 0) begun frames)
  ending_through last [] white = mark_through last false
  ending_through last (c ∷ space) white =
      through_more (at (AtDeclaration last false)) (at (AtDeclaration last true))
      (state NothingAhead (AtContent 0) begun frames) c (space ++ 63 ∷ 62 ∷ [])
      ((over_declaration ahead begun frames last false).goes c white.0) refl
      (through_both (at (AtDeclaration last true)) (at (AtDeclaration last true))
      (state NothingAhead (AtContent 0) begun frames) space (63 ∷ 62 ∷ [])
      (white_through (at (AtDeclaration last true)) (over_declaration ahead begun frames last true)
      space white.1)
      (mark_through last true))

  inside_parts : (version encoding standalone space : List ℕ)
      → version ++ ((encoding ++ standalone) ++ (space ++ 63 ∷ 62 ∷ []))
      ≡ (version ++ (encoding ++ (standalone ++ space))) ++ 63 ∷ 62 ∷ []
  inside_parts version encoding standalone space =
      ap (λ w. version ++ w) (append_assoc encoding standalone (space ++ 63 ∷ 62 ∷ [])
      ∙ ap (λ w. encoding ++ w) (sym (append_assoc standalone space (63 ∷ 62 ∷ [])))
      ∙ sym (append_assoc encoding (standalone ++ space) (63 ∷ 62 ∷ [])))
      ∙ sym (append_assoc version (encoding ++ (standalone ++ space)) (63 ∷ 62 ∷ []))

  pub declaration_through : (n : ℕ) (declaration : Declaration) → DeclarationKeeps n declaration
      → Through (at AtOpened) (63 ∷ (xml_word ++ (declaration_inside declaration ++ 63 ∷ 62 ∷ [])))
      (state NothingAhead (AtContent 0) begun frames)
  declaration_through n declaration keeps =
      let last_place : State = state NothingAhead (AtContent 0) begun frames in
      let version : List ℕ = saying_characters Version declaration.version in
      let encoding : List ℕ = optional_characters Encoding declaration.encoding in
      let standalone : List ℕ = optional_characters Standalone declaration.standalone in
      let said : SaidTo (at (AtDeclaration (Some Version) false)) (encoding ++ standalone) =
      both_through n declaration.encoding declaration.standalone keeps.encoding keeps.standalone in
      through_both (at AtOpened) (at (AtTarget xml_word)) last_place (63 ∷ xml_word)
      (declaration_inside declaration ++ 63 ∷ 62 ∷ []) xml_through
      (subst (λ w. Through (at (AtTarget xml_word)) w last_place)
      (inside_parts version encoding standalone declaration.space)
      (through_both (at (AtTarget xml_word)) (at (AtDeclaration (Some Version) false)) last_place
      version
      ((encoding ++ standalone) ++ (declaration.space ++ 63 ∷ 62 ∷ []))
      (saying_through ahead begun frames (at (AtTarget xml_word)) None Version declaration.version
      over_target
      (begins_version ahead begun frames) keeps.version
      (subst HasNoQuote (sym keeps.number) version_no_quote))
      (through_both (at (AtDeclaration (Some Version) false)) (at (AtDeclaration said.last false))
      last_place
      (encoding ++ standalone) (declaration.space ++ 63 ∷ 62 ∷ []) said.through
      (ending_through said.last declaration.space keeps.space))))
