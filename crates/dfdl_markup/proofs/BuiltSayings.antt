-- What the XML declaration says stays in the tree as it is.
use Rattle.std.proofs.Common.{◌≡◌, ℕ, ◌<◌, ◌==◌, ◌⊎◌, Bool, true, false, List, [], ◌∷◌, ◌++◌}
use Rattle.std.proofs.Common.{length, Option, Some, None, refl, ap, sym, subst, ◌∙◌, append_assoc}
use Rattle.std.proofs.Common.{arith, inl, inr}
use Rattle.std.proofs.lemmas.Bool.{cases_Bool, eqb-true}
use Rattle.std.specs.List.{list_any}
use Rattle.std.specs.Str.{bytes_eq}
use Rattle.dfdl_layers.specs.Tellers.{Each}
use Rattle.dfdl_markup.specs.Grammar.{is_white, is_quote, Said, Version, Encoding, Standalone}
use Rattle.dfdl_markup.specs.Grammar.{said_word, Saying, saying_characters}
use Rattle.dfdl_markup.specs.Rules.{AreWhite, SayingKeeps}
use Rattle.dfdl_markup.specs.Machine.{Place, AtDeclaration, AtSaidWord, AtSaid, AtSaidEquals}
use Rattle.dfdl_markup.specs.Machine.{AtSaidValue, Ahead, Frame, State, step, declaration_step}
use Rattle.dfdl_markup.specs.Machine.{said_word_step, said_step, said_equals_step, said_value_step}
use Rattle.dfdl_markup.specs.Machine.{said_values, said_character, begins, tail}
use Rattle.dfdl_markup.proofs.RunSteps.{state, same_is}
use Rattle.dfdl_markup.proofs.BuiltSteps.{MayBe, if_may, Through, through_nothing, through_one}
use Rattle.dfdl_markup.proofs.BuiltSteps.{through_more, through_both}
use Rattle.dfdl_markup.proofs.BuiltNames.{OverWhite, white_through}
use Rattle.dfdl_markup.proofs.BuiltReferences.{if_false_may, if_true_may}
use Rattle.dfdl_markup.proofs.BuiltTags.{quote_no_white}

-- a character that is no quotation mark
pub no_quote : (quote c : ℕ) → is_quote quote ≡ true → is_quote c ≡ false → (c == quote) ≡ false
no_quote quote c is apart = by_test (cases_Bool (c == quote))
  where
    by_test : ((c == quote) ≡ true) ⊎ ((c == quote) ≡ false) → (c == quote) ≡ false
    by_test (inl e) =
        let same : is_quote c ≡ true = subst (λ d. is_quote d ≡ true) (sym (eqb-true c quote e))
        is in
        absurd (cc)
    by_test (inr e) = e

module _ (ahead : Ahead) (begun : ℕ) (frames : List Frame) where
  abbrev at : Place → State
  at place = state ahead place begun frames

  pub over_declaration : (last : Option Said) (spaced : Bool)
      → OverWhite (at (AtDeclaration last spaced)) (at (AtDeclaration last true))
  unfolding step declaration_step
  over_declaration last spaced = record {
    goes = λ c is. if_true_may (is_white c) _ _ _ is refl;
    stays = λ c is. refl;
  }

  -- white space before a word
  pub space_through : (from : State) (last : Option Said) (space : List ℕ)
      → OverWhite from (at (AtDeclaration last true)) → 0 < length space → AreWhite space
      → Through from space (at (AtDeclaration last true))
  space_through from last [] over some white = absurd (omega (arith, some))
  space_through from last (c ∷ space) over some white =
      through_more from (at (AtDeclaration last true)) (at (AtDeclaration last true)) c space
      (over.goes c white.0) (over.stays c white.0)
      (white_through (at (AtDeclaration last true)) (over_declaration last true) space white.1)

  -- the word
  word_through : (said : Said) (left : List ℕ)
      → Through (at (AtSaidWord said left)) left (at (AtSaidWord said []))
  unfolding step said_word_step
  word_through said [] = through_nothing (at (AtSaidWord said []))
  word_through said (w ∷ left) =
      through_more (at (AtSaidWord said (w ∷ left))) (at (AtSaidWord said left))
      (at (AtSaidWord said [])) w left
      (if_true_may (w == w) _ _ _ (same_is w) refl) refl (word_through said left)

  -- a word may stand behind what was said last
  pub record Begins (last : Option Said) (said : Said) : Type 0 where
    pub first : ℕ
    pub left : List ℕ
    pub is : said_word said ≡ first ∷ left
    pub may : MayBe (step (at (AtDeclaration last true)) first) (at (AtSaidWord said left))

  word_behind : (last : Option Said) (said : Said) → Begins last said
      → Through (at (AtDeclaration last true)) (said_word said) (at (AtSaidWord said []))
  word_behind last said begins =
      subst (λ w. Through (at (AtDeclaration last true)) w (at (AtSaidWord said [])))
      (sym begins.is)
      (through_more (at (AtDeclaration last true)) (at (AtSaidWord said begins.left))
      (at (AtSaidWord said []))
      begins.first begins.left begins.may refl (word_through said begins.left))

  over_said : (said : Said) → OverWhite (at (AtSaid said)) (at (AtSaid said))
  unfolding step said_step
  over_said said = record {
    goes = λ c is. if_true_may (is_white c) _ _ _ is refl;
    stays =
        λ c is. refl;
  }

  said_equals : (said : Said) → MayBe (step (at (AtSaid said)) 61) (at (AtSaidEquals said))
  unfolding step said_step is_white
  said_equals said = refl

  word_equals : (said : Said) → MayBe (step (at (AtSaidWord said [])) 61) (at (AtSaidEquals said))
  unfolding step said_word_step said_step is_white
  word_equals said = refl

  word_white : (said : Said) (c : ℕ) → is_white c ≡ true
      → MayBe (step (at (AtSaidWord said [])) c) (at (AtSaid said))
  unfolding step said_word_step said_step
  word_white said c is = if_true_may (is_white c) _ _ _ is refl

  to_equals : (said : Said) (before : List ℕ) → AreWhite before
      → Through (at (AtSaidWord said [])) (before ++ 61 ∷ []) (at (AtSaidEquals said))
  to_equals said [] white = through_one (at (AtSaidWord said [])) (at (AtSaidEquals said)) 61
      (word_equals said) refl
  to_equals said (c ∷ before) white =
      through_more (at (AtSaidWord said [])) (at (AtSaid said)) (at (AtSaidEquals said)) c
      (before ++ 61 ∷ [])
      (word_white said c white.0) refl
      (through_both (at (AtSaid said)) (at (AtSaid said)) (at (AtSaidEquals said)) before (61 ∷ [])
      (white_through (at (AtSaid said)) (over_said said) before white.1)
      (through_one (at (AtSaid said)) (at (AtSaidEquals said)) 61 (said_equals said) refl))

  over_equals : (said : Said) → OverWhite (at (AtSaidEquals said)) (at (AtSaidEquals said))
  unfolding step said_equals_step
  over_equals said = record {
    goes = λ c is. if_true_may (is_white c) _ _ _ is refl;
    stays =
        λ c is. refl;
  }

  value_begins : (said : Said) (quote : ℕ) → is_quote quote ≡ true
      → MayBe (step (at (AtSaidEquals said)) quote) (at (AtSaidValue said quote []))
  unfolding step said_equals_step
  value_begins said quote is =
      if_false_may (is_white quote) _ _ _ (quote_no_white quote is)
      (if_true_may (is_quote quote) _ _ _ is refl)

  to_value : (said : Said) (after : List ℕ) (quote : ℕ) → AreWhite after → is_quote quote ≡ true
      → Through (at (AtSaidEquals said)) (after ++ quote ∷ []) (at (AtSaidValue said quote []))
  to_value said after quote white is =
      through_both (at (AtSaidEquals said)) (at (AtSaidEquals said))
      (at (AtSaidValue said quote [])) after
      (quote ∷ []) (white_through (at (AtSaidEquals said)) (over_equals said) after white)
      (through_one (at (AtSaidEquals said)) (at (AtSaidValue said quote [])) quote
      (value_begins said quote is) refl)

  value_more : (said : Said) (quote c : ℕ) (read : List ℕ) → (c == quote) ≡ false
      → MayBe (step (at (AtSaidValue said quote read)) c)
      (at (AtSaidValue said quote (read ++ said_character said c ∷ [])))
  unfolding step said_value_step
  value_more said quote c read apart =
      if_false_may (c == quote) _ _ _ apart
      (if_may (list_any (begins (read ++ said_character said c ∷ [])) (said_values said)) _ _ _
      (λ e. refl) (λ e. tt))

  value_end : (said : Said) (quote : ℕ) (read : List ℕ)
      → MayBe (step (at (AtSaidValue said quote read)) quote) (at (AtDeclaration (Some said) false))
  unfolding step said_value_step
  value_end said quote read =
      if_true_may (quote == quote) _ _ _ (same_is quote)
      (if_may (list_any (bytes_eq read) (said_values said)) _ _ _ (λ e. refl) (λ e. tt))

  value_through : (said : Said) (quote : ℕ) (read value : List ℕ) → is_quote quote ≡ true
      → Each (λ c. is_quote c ≡ false) value
      → Through (at (AtSaidValue said quote read)) (value ++ quote ∷ [])
      (at (AtDeclaration (Some said) false))
  value_through said quote read [] is apart =
      through_one (at (AtSaidValue said quote read)) (at (AtDeclaration (Some said) false)) quote
      (value_end said quote read) refl
  value_through said quote read (c ∷ value) is apart =
      let next : List ℕ = read ++ said_character said c ∷ [] in
      through_more (at (AtSaidValue said quote read)) (at (AtSaidValue said quote next))
      (at (AtDeclaration (Some said) false)) c (value ++ quote ∷ [])
      (value_more said quote c read (no_quote quote c is apart.0)) refl
      (value_through said quote next value is apart.1)

  saying_parts : (word before after : List ℕ) (quote : ℕ) (value : List ℕ)
      → word ++ ((before ++ 61 ∷ []) ++ ((after ++ quote ∷ []) ++ (value ++ quote ∷ [])))
      ≡ word ++ (before ++ 61 ∷ (after ++ quote ∷ (value ++ quote ∷ [])))
  saying_parts word before after quote value =
      ap (λ w. word ++ w) (append_assoc before (61 ∷ [])
      ((after ++ quote ∷ []) ++ (value ++ quote ∷ []))
      ∙ ap (λ w. before ++ 61 ∷ w) (append_assoc after (quote ∷ []) (value ++ quote ∷ [])))

  pub saying_through : (from : State) (last : Option Said) (said : Said) (saying : Saying)
      → OverWhite from (at (AtDeclaration last true)) → Begins last said → SayingKeeps saying
      → Each (λ c. is_quote c ≡ false) saying.value
      → Through from (saying_characters said saying) (at (AtDeclaration (Some said) false))
  saying_through from last said saying over begins keeps apart =
      let last_place : State = at (AtDeclaration (Some said) false) in
      let ending : List ℕ = saying.value ++ saying.quote ∷ [] in
      let value : List ℕ = (saying.after ++ saying.quote ∷ []) ++ ending in
      let equals : List ℕ = (saying.before ++ 61 ∷ []) ++ value in
      through_both from (at (AtDeclaration last true)) last_place saying.space
      (said_word said ++ (saying.before ++ 61 ∷ (saying.after ++ saying.quote ∷ ending)))
      (space_through from last saying.space over keeps.some_space keeps.space)
      (subst (λ w. Through (at (AtDeclaration last true)) w last_place)
      (saying_parts (said_word said) saying.before saying.after saying.quote saying.value)
      (through_both (at (AtDeclaration last true)) (at (AtSaidWord said [])) last_place
      (said_word said) equals
      (word_behind last said begins)
      (through_both (at (AtSaidWord said [])) (at (AtSaidEquals said)) last_place
      (saying.before ++ 61 ∷ []) value
      (to_equals said saying.before keeps.before)
      (through_both (at (AtSaidEquals said)) (at (AtSaidValue said saying.quote [])) last_place
      (saying.after ++ saying.quote ∷ []) ending
      (to_value said saying.after saying.quote keeps.after keeps.quote)
      (value_through said saying.quote [] saying.value keeps.quote apart)))))

  pub begins_version : Begins None Version
  unfolding step declaration_step is_white said_word
  begins_version = record { first = 118; left = tail (said_word Version); is = refl; may = refl }

  pub begins_encoding : Begins (Some Version) Encoding
  unfolding step declaration_step is_white said_word
  begins_encoding = record { first = 101; left = tail (said_word Encoding); is = refl; may = refl }

  pub standalone_first : Begins (Some Version) Standalone
  unfolding step declaration_step is_white said_word
  standalone_first = record {
    first = 115;
    left = tail (said_word Standalone);
    is = refl;
    may =
        refl;
  }

  pub standalone_second : Begins (Some Encoding) Standalone
  unfolding step declaration_step is_white said_word
  standalone_second = record {
    first = 115;
    left = tail (said_word Standalone);
    is = refl;
    may =
        refl;
  }
