-- References stay in the tree as it is, up to their `;`.
use Rattle.std.proofs.Common.{◌≡◌, ℕ, ◌+◌, ◌*◌, ◌==◌, Bool, true, false, if◌then◌else◌, List, []}
use Rattle.std.proofs.Common.{◌∷◌, ◌++◌, Option, Some, None, Result, refl, sym, subst, append_assoc}
use Rattle.std.proofs.Common.{nat_le, arith, ◌⊎◌, inl, inr}
use Rattle.std.proofs.lemmas.List.{append-nil}
use Rattle.std.proofs.lemmas.Bool.{cases_Bool, eqb-true}
use Rattle.dfdl_layers.specs.Tellers.{Each}
use Rattle.dfdl_xml_chars.specs.Characters.{is_name_start, is_name_char, is_allowed, low_start_rows}
use Rattle.dfdl_xml_chars.specs.Characters.{high_start_rows}
use Rattle.dfdl_markup.specs.Grammar.{Reference, Named, Numbered, reference_inside}
use Rattle.dfdl_markup.specs.Values.{is_digit, digit_value, base_of, number_on, entity, or_zero}
use Rattle.dfdl_markup.specs.Values.{referred}
use Rattle.dfdl_markup.specs.Rules.{ReferenceKeeps}
use Rattle.dfdl_markup.specs.Machine.{Within, InContent, InValue, Place, AtReference, AtEntity}
use Rattle.dfdl_markup.specs.Machine.{AtHash, AtHexadecimal, AtNumber, NothingAhead, Frame, State}
use Rattle.dfdl_markup.specs.Machine.{step, reference_step, entity_step, hash_step}
use Rattle.dfdl_markup.specs.Machine.{hexadecimal_step, number_step, entity_next, number_next}
use Rattle.dfdl_markup.specs.Machine.{referred_to, begins_entity, entity_ended}
use Rattle.dfdl_markup.specs.Building.{Stays, effect_at, refers_within}
use Rattle.dfdl_markup.proofs.RunSteps.{state, if_true, if_false}
use Rattle.dfdl_markup.proofs.RunNames.{end_marks}
use Rattle.dfdl_markup.proofs.BuiltSteps.{MayBe, if_may, Through, through_nothing, through_more}

-- the place before the `;` of a reference
abbrev pub reference_place : Within → Reference → Place
reference_place within (Named name) = AtEntity within name
reference_place within (Numbered hexadecimal digits) =
    AtNumber within hexadecimal (number_on hexadecimal 0 digits)

pub if_false_may : (test : Bool) (x y : Result State ℕ) (t : State) → test ≡ false → MayBe y t
    → MayBe (if test then x else y) t
if_false_may test x y t e may = subst (λ r. MayBe r t) (sym (if_false test x y e)) may

pub if_true_may : (test : Bool) (x y : Result State ℕ) (t : State) → test ≡ true → MayBe x t
    → MayBe (if test then x else y) t
if_true_may test x y t e may = subst (λ r. MayBe r t) (sym (if_true test x y e)) may

no_start_35 : is_name_start 35 ≡ false
unfolding is_name_start low_start_rows high_start_rows
no_start_35 = refl

name_stays : (within : Within) (s : State) (name : List ℕ) (c : ℕ) → is_name_char c ≡ true
    → effect_at (AtEntity within name) s c ≡ Stays
name_stays within s name c is = if_false (c == 59) _ _ (apart (cases_Bool (c == 59)))
  where
    clash : {A : Type 0} → c ≡ 59 → A
    clash e =
        let none : is_name_char c ≡ false = subst (λ d. is_name_char d ≡ false) (sym e)
        end_marks.semicolon.no_char in
        absurd (cc)

    apart : ((c == 59) ≡ true) ⊎ ((c == 59) ≡ false) → (c == 59) ≡ false
    apart (inl e) = clash (eqb-true c 59 e)
    apart (inr e) = e

no_digit : (hexadecimal : Bool) → is_digit hexadecimal 59 ≡ false
unfolding is_digit
no_digit true = refl
no_digit false = refl

no_digit_120 : is_digit false 120 ≡ false
unfolding is_digit
no_digit_120 = refl

digit_stays : (within : Within) (s : State) (hexadecimal : Bool) (value c : ℕ)
    → is_digit hexadecimal c ≡ true → effect_at (AtNumber within hexadecimal value) s c ≡ Stays
digit_stays within s hexadecimal value c is = if_false (c == 59) _ _ (apart (cases_Bool (c == 59)))
  where
    clash : {A : Type 0} → c ≡ 59 → A
    clash e =
        let none : is_digit hexadecimal c ≡ false =
        subst (λ d. is_digit hexadecimal d ≡ false) (sym e) (no_digit hexadecimal) in
        absurd (cc)

    apart : ((c == 59) ≡ true) ⊎ ((c == 59) ≡ false) → (c == 59) ≡ false
    apart (inl e) = clash (eqb-true c 59 e)
    apart (inr e) = e

-- the first digit
number_begun : (hexadecimal : Bool) (d : ℕ) → 0 * base_of hexadecimal + d ≡ d
number_begun true d = omega arith
number_begun false d = omega arith

module _ (begun : ℕ) (frames : List Frame) (within : Within) where
  abbrev here : Place → State
  here place = state NothingAhead place begun frames

  known_may : (name : List ℕ) → MayBe (entity_next (here (AtReference within)) within name)
      (here (AtEntity within name))
  known_may name = if_may (begins_entity name) _ _ _ (λ e. refl) (λ e. tt)

  name_first : (c : ℕ) → is_name_start c ≡ true
      → MayBe (step (here (AtReference within)) c) (here (AtEntity within (c ∷ [])))
  unfolding step reference_step
  name_first c is =
      if_true_may (is_name_start c) _ _ _ is (known_may (c ∷ []))

  name_more : (name : List ℕ) (c : ℕ) → is_name_char c ≡ true
      → MayBe (step (here (AtEntity within name)) c) (here (AtEntity within (name ++ c ∷ [])))
  unfolding step entity_step
  name_more name c is =
      if_true_may (is_name_char c) _ _ _ is (known_may (name ++ c ∷ []))

  entity_through : (name more : List ℕ) → Each (λ c. is_name_char c ≡ true) more
      → Through (here (AtEntity within name)) more (here (AtEntity within (name ++ more)))
  entity_through name [] are =
      subst (λ w. Through (here (AtEntity within name)) [] (here (AtEntity within w)))
      (sym (append-nil name)) (through_nothing (here (AtEntity within name)))
  entity_through name (c ∷ more) are =
      subst (λ w. Through (here (AtEntity within name)) (c ∷ more) (here (AtEntity within w)))
      (append_assoc name (c ∷ []) more)
      (through_more (here (AtEntity within name)) (here (AtEntity within (name ++ c ∷ [])))
      (here (AtEntity within ((name ++ c ∷ []) ++ more))) c more (name_more name c are.0)
      (name_stays within (here (AtEntity within name)) name c are.0)
      (entity_through (name ++ c ∷ []) more are.1))

  number_may : (hexadecimal : Bool) (value : ℕ)
      → MayBe (number_next (here (AtReference within)) within hexadecimal value)
      (here (AtNumber within hexadecimal value))
  number_may hexadecimal value = if_may (nat_le value 0x10FFFF) _ _ _ (λ e. refl) (λ e. tt)

  digits_through : (hexadecimal : Bool) (value : ℕ) (digits : List ℕ)
      → Each (λ c. is_digit hexadecimal c ≡ true) digits
      → Through (here (AtNumber within hexadecimal value)) digits
      (here (AtNumber within hexadecimal (number_on hexadecimal value digits)))
  unfolding step number_step
  digits_through hexadecimal value [] are = through_nothing
      (here (AtNumber within hexadecimal value))
  digits_through hexadecimal value (c ∷ digits) are =
      let next : ℕ = value * base_of hexadecimal + digit_value c in
      through_more (here (AtNumber within hexadecimal value))
      (here (AtNumber within hexadecimal next))
      (here (AtNumber within hexadecimal (number_on hexadecimal next digits))) c digits
      (if_true_may (is_digit hexadecimal c) _ _ _ are.0 (number_may hexadecimal next))
      (digit_stays within (here (AtNumber within hexadecimal value)) hexadecimal value c are.0)
      (digits_through hexadecimal next digits are.1)

  -- behind the first digit
  number_through : (hexadecimal : Bool) (c : ℕ) (digits : List ℕ)
      → Each (λ d. is_digit hexadecimal d ≡ true) digits
      → Through (here (AtNumber within hexadecimal (digit_value c))) digits
      (here (AtNumber within hexadecimal (number_on hexadecimal 0 (c ∷ digits))))
  number_through hexadecimal c digits are =
      subst (λ n. Through (here (AtNumber within hexadecimal (digit_value c))) digits
      (here (AtNumber within hexadecimal (number_on hexadecimal n digits))))
      (sym (number_begun hexadecimal (digit_value c)))
      (digits_through hexadecimal (digit_value c) digits are)

  pub reference_through : (n : ℕ) (reference : Reference) → ReferenceKeeps n reference
      → Through (here (AtReference within)) (reference_inside reference)
      (here (reference_place within reference))
  unfolding step reference_step hash_step hexadecimal_step
  reference_through n (Named []) keeps = absurd keeps.0
  reference_through n (Named (c ∷ name)) keeps =
      through_more (here (AtReference within)) (here (AtEntity within (c ∷ [])))
      (here (AtEntity within (c ∷ name))) c name (name_first c keeps.0.0) refl
      (entity_through (c ∷ []) name keeps.0.1)
  reference_through n (Numbered hexadecimal []) keeps = absurd (omega (arith, keeps.0))
  reference_through n (Numbered false (c ∷ digits)) keeps =
      through_more (here (AtReference within)) (here (AtHash within))
      (here (reference_place within (Numbered false (c ∷ digits)))) 35 (c ∷ digits)
      (if_false_may (is_name_start 35) _ _ _ no_start_35 refl) refl
      (through_more (here (AtHash within)) (here (AtNumber within false (digit_value c)))
      (here (reference_place within (Numbered false (c ∷ digits)))) c digits
      (if_true_may (is_digit false c) _ _ _ keeps.1.0 (number_may false (digit_value c))) refl
      (number_through false c digits keeps.1.1))
  reference_through n (Numbered true (c ∷ digits)) keeps =
      through_more (here (AtReference within)) (here (AtHash within))
      (here (reference_place within (Numbered true (c ∷ digits)))) 35 (120 ∷ c ∷ digits)
      (if_false_may (is_name_start 35) _ _ _ no_start_35 refl) refl
      (through_more (here (AtHash within)) (here (AtHexadecimal within))
      (here (reference_place within (Numbered true (c ∷ digits)))) 120 (c ∷ digits)
      (if_false_may (is_digit false 120) _ _ _ no_digit_120 refl) refl
      (through_more (here (AtHexadecimal within)) (here (AtNumber within true (digit_value c)))
      (here (reference_place within (Numbered true (c ∷ digits)))) c digits
      (if_true_may (is_digit true c) _ _ _ keeps.1.0 (number_may true (digit_value c))) refl
      (number_through true c digits keeps.1.1)))

  -- its `;`
  ended_may : (name : List ℕ) (found : Option ℕ)
      → MayBe (entity_ended (here (AtEntity within name)) within found)
      (referred_to (here (AtReference within)) within (or_zero found))
  ended_may name None = tt
  ended_may name (Some d) = same within d
    where
      same : (w : Within) (d : ℕ) → referred_to (here (AtEntity within name)) w d ≡ referred_to
          (here (AtReference within)) w d
      same InContent d = refl
      same (InValue v) d = refl

  pub semicolon_may : (reference : Reference)
      → MayBe (step (here (reference_place within reference)) 59)
      (referred_to (here (AtReference within)) within (referred reference))
  unfolding step entity_step number_step
  semicolon_may (Named name) =
      if_false_may (is_name_char 59) _ _ _ end_marks.semicolon.no_char
      (ended_may name (entity name))
  semicolon_may (Numbered hexadecimal digits) =
      let value : ℕ = number_on hexadecimal 0 digits in
      if_false_may (is_digit hexadecimal 59) _ _ _ (no_digit hexadecimal)
      (if_may (is_allowed value) _ _ _ (λ e. same within value) (λ e. tt))
    where
      same : (w : Within) (d : ℕ) → referred_to
          (here (AtNumber within hexadecimal (number_on hexadecimal 0 digits))) w d ≡ referred_to
          (here (AtReference within)) w d
      same InContent d = refl
      same (InValue v) d = refl

  pub semicolon_effect : (reference : Reference)
      → effect_at (reference_place within reference) (here (reference_place within reference)) 59
      ≡ refers_within within (referred reference)
  semicolon_effect (Named name) = refl
  semicolon_effect (Numbered hexadecimal digits) = refl
