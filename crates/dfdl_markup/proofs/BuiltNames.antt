-- Names and white space stay in the tree as it is.
use Rattle.std.proofs.Common.{◌≡◌, ℕ, ◌==◌, true, false, List, [], ◌∷◌, Some, None, refl, sym}
use Rattle.std.proofs.Common.{subst, ◌∙◌, inl, inr, ◌⊎◌}
use Rattle.std.proofs.lemmas.Bool.{cases_Bool, eqb-true}
use Rattle.dfdl_xml_chars.specs.Characters.{is_name_start, is_name_char}
use Rattle.dfdl_markup.specs.Grammar.{is_white}
use Rattle.dfdl_markup.specs.Rules.{AreWhite}
use Rattle.dfdl_markup.specs.Machine.{Reading, First, Colon, Second, name_next, State, step}
use Rattle.dfdl_markup.specs.Building.{Stays, effect_at}
use Rattle.dfdl_markup.proofs.RunSteps.{if_false}
use Rattle.dfdl_markup.proofs.RunNames.{EndsName, white_is, end_marks, ReadsOn}
use Rattle.dfdl_markup.proofs.BuiltSteps.{MayBe, Through, through_nothing, through_more}

-- no name goes on by a character that ends names
pub next_nothing : (reading : Reading) (c : ℕ) → EndsName c → name_next reading c ≡ None
unfolding name_next
next_nothing (First part) c ends =
    if_false (is_name_char c) _ _ ends.no_char ∙ if_false (c == 58) _ _ ends.no_colon
next_nothing (Colon prefix) c ends = if_false (is_name_start c) _ _ ends.no_start
next_nothing (Second prefix part) c ends = if_false (is_name_char c) _ _ ends.no_char

pub next_apart : (reading next : Reading) (c : ℕ) → name_next reading c ≡ Some next
    → (c == 62) ≡ false
next_apart reading next c is = by_test (cases_Bool (c == 62))
  where
    clash : {A : Type 0} → c ≡ 62 → A
    clash e =
        let none : name_next reading c ≡ None =
        next_nothing reading c (subst EndsName (sym e) end_marks.greater) in
        absurd (cc)

    by_test : ((c == 62) ≡ true) ⊎ ((c == 62) ≡ false) → (c == 62) ≡ false
    by_test (inl e) = clash (eqb-true c 62 e)
    by_test (inr e) = e

pub white_apart : (c : ℕ) → is_white c ≡ true → (c == 62) ≡ false
white_apart c is = white_is (λ d. (d == 62) ≡ false) c refl refl refl refl is

-- places in a name, with the characters of it that are still to come
pub record InName (at : Reading → List ℕ → State) : Type 0 where
  pub goes : (reading next : Reading) (c : ℕ) (left : List ℕ) → name_next reading c ≡ Some next
      → MayBe (step (at reading (c ∷ left)) c) (at next left)
  pub stays : (reading next : Reading) (c : ℕ) (left : List ℕ) → name_next reading c ≡ Some next
      → effect_at (at reading left).place (at reading left) c ≡ Stays

pub name_through : (at : Reading → List ℕ → State) → InName at → (reading last : Reading)
    (more : List ℕ) → ReadsOn reading more last → Through (at reading more) more (at last [])
name_through at in_name reading last [] is =
    subst (λ r. Through (at reading []) [] (at r [])) is (through_nothing (at reading []))
name_through at in_name reading last (c ∷ more) follows =
    through_more (at reading (c ∷ more)) (at follows.0 more) (at last []) c more
    (in_name.goes reading follows.0 c more follows.1)
    (in_name.stays reading follows.0 c (c ∷ more) follows.1)
    (name_through at in_name follows.0 last more follows.2)

-- white space by which a state stays
pub record OverWhite (s t : State) : Type 0 where
  pub goes : (c : ℕ) → is_white c ≡ true → MayBe (step s c) t
  pub stays : (c : ℕ) → is_white c ≡ true → effect_at s.place s c ≡ Stays

pub white_through : (s : State) → OverWhite s s → (space : List ℕ) → AreWhite space
    → Through s space s
white_through s over [] white = through_nothing s
white_through s over (c ∷ space) white =
    through_more s s s c space (over.goes c white.0) (over.stays c white.0)
    (white_through s over space white.1)
