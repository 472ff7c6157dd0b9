-- A start tag stays in the tree as it is up to its end, and is read as the name and attributes that
-- it has.
use Rattle.std.proofs.Common.{◌≡◌, ℕ, ◌==◌, Bool, true, false, List, [], ◌∷◌, ◌++◌, Option, Some}
use Rattle.std.proofs.Common.{None, refl, ap, ap₂, sym, subst, ◌∙◌, inl, inr}
use Rattle.std.proofs.lemmas.Bool.{eqb-true, or_cases}
use Rattle.dfdl_xml_chars.specs.Characters.{is_name_start}
use Rattle.dfdl_markup.specs.Grammar.{is_white, is_quote, Name, name_characters}
use Rattle.dfdl_markup.specs.Values.{Attribute}
use Rattle.dfdl_markup.specs.Machine.{Reading, First, whole_name, StartTag, Place, AtTagName, AtTag}
use Rattle.dfdl_markup.specs.Machine.{AtAttributeName, AtSlash, NothingAhead, Frame, State, step}
use Rattle.dfdl_markup.specs.Machine.{tag_step, tag_of, tag_name_or, tag_name_step, if_ends}
use Rattle.dfdl_markup.specs.Machine.{entered, attribute_name_or, attribute_name_step, have_clash}
use Rattle.dfdl_markup.specs.Machine.{all_found, scope_of}
use Rattle.dfdl_markup.specs.Building.{Stays, Enters, tag_effect, effect_at}
use Rattle.dfdl_markup.proofs.RunSteps.{state, if_false}
use Rattle.dfdl_markup.proofs.RunNames.{EndsName, white_ends, end_marks, NameRead, next_none}
use Rattle.dfdl_markup.proofs.BuiltSteps.{MayBe, if_may, Through, through_more}
use Rattle.dfdl_markup.proofs.BuiltNames.{next_apart, white_apart, InName, name_through, OverWhite}
use Rattle.dfdl_markup.proofs.BuiltReferences.{if_false_may, if_true_may}

-- a character that begins a name is no mark of a tag
pub record StartsName (c : ℕ) : Type 0 where
  pub no_white : is_white c ≡ false
  pub no_greater : (c == 62) ≡ false
  pub no_slash : (c == 47) ≡ false

not_so : (test : Bool) → (test ≡ true → ⊥) → test ≡ false
not_so true none = absurd (none refl)
not_so false none = refl

start_ends : (c : ℕ) → is_name_start c ≡ true → EndsName c → ⊥
start_ends c is ends = let none : is_name_start c ≡ false = ends.no_start in absurd (cc)

pub starts_name : (c : ℕ) → is_name_start c ≡ true → StartsName c
starts_name c is = record {
  no_white = not_so (is_white c) (λ e. start_ends c is (white_ends c e));
  no_greater = not_so (c == 62)
      (λ e. start_ends c is (subst EndsName (sym (eqb-true c 62 e)) end_marks.greater));
  no_slash = not_so (c == 47)
      (λ e. start_ends c is (subst EndsName (sym (eqb-true c 47 e)) end_marks.slash));
}

-- quotes are no white space
pub quote_no_white : (c : ℕ) → is_quote c ≡ true → is_white c ≡ false
unfolding is_quote is_white
quote_no_white c is = elim (or_cases _ _ is) [
  | inl e ↦ subst (λ d. is_white d ≡ false) (sym (eqb-true c 34 e)) refl
  | inr e ↦ subst (λ d. is_white d ≡ false) (sym (eqb-true c 39 e)) refl
]

pub quote_apart : (c : ℕ) → is_quote c ≡ true → (38 == c) ≡ false
unfolding is_quote
quote_apart c is = elim (or_cases _ _ is) [
  | inl e ↦ subst (λ d. (38 == d) ≡ false) (sym (eqb-true c 34 e)) refl
  | inr e ↦ subst (λ d. (38 == d) ≡ false) (sym (eqb-true c 39 e)) refl
]

-- the tag with one more attribute, with more of them
abbrev pub with_attributes : StartTag → List Attribute → StartTag
with_attributes tag more = record { name = tag.name; attributes = tag.attributes ++ more }

module _ (begun : ℕ) (frames : List Frame) where
  abbrev here : Place → State
  here place = state NothingAhead place begun frames

  -- a place where the tag may end
  pub record MayEnd (place : Place) (tag : StartTag) : Type 0 where
    pub white : OverWhite (here place) (here (AtTag tag true))
    pub slash : MayBe (step (here place) 47) (here (AtSlash tag))
    pub slash_stays : effect_at place (here place) 47 ≡ Stays
    pub greater : MayBe (step (here place) 62) (entered (here place) tag)
    pub enters : effect_at place (here place) 62 ≡ Enters tag

  ends_may : (place : Place) (tag : StartTag) (next : State)
      → MayBe (if_ends (here place) tag next) next
  ends_may place tag next =
      if_may (have_clash (scope_of frames) tag.attributes) _ _ _ (λ e. tt)
      (λ e. if_may (all_found (scope_of frames) tag) _ _ _ (λ f. refl) (λ f. tt))

  tag_white : (place : Place) (tag : StartTag) (spaced : Bool) (c : ℕ) → is_white c ≡ true
      → MayBe (tag_step (here place) tag spaced c) (here (AtTag tag true))
  unfolding tag_step
  tag_white place tag spaced c is = if_true_may (is_white c) _ _ _ is refl

  tag_slash : (place : Place) (tag : StartTag) (spaced : Bool)
      → MayBe (tag_step (here place) tag spaced 47) (here (AtSlash tag))
  unfolding tag_step is_white
  tag_slash place tag spaced = ends_may place tag (here (AtSlash tag))

  tag_greater : (place : Place) (tag : StartTag) (spaced : Bool)
      → MayBe (tag_step (here place) tag spaced 62) (entered (here place) tag)
  unfolding tag_step is_white
  tag_greater place tag spaced = ends_may place tag (entered (here place) tag)

  pub tag_may_end : (tag : StartTag) (spaced : Bool) → MayEnd (AtTag tag spaced) tag
  unfolding step
  tag_may_end tag spaced = record {
    white = record {
      goes = tag_white (AtTag tag spaced) tag spaced;
      stays = λ c is. if_false (c == 62) _ _ (white_apart c is);
    };
    slash = tag_slash (AtTag tag spaced) tag spaced;
    slash_stays = refl;
    greater = tag_greater (AtTag tag spaced) tag spaced;
    enters = refl;
  }

  name_step : (last : Reading) (name : Name) (c : ℕ) → whole_name last ≡ Some name → EndsName c
      → step (here (AtTagName last)) c ≡ tag_step (here (AtTagName last)) (tag_of name) false c
  unfolding step tag_name_step
  name_step last name c whole ends =
      ap₂ (λ next o. tag_name_or next o (here (AtTagName last)) c)
      (next_none last name c whole ends) whole

  name_effect : (last : Reading) (name : Name) (c : ℕ) → whole_name last ≡ Some name
      → effect_at (AtTagName last) (here (AtTagName last)) c ≡ tag_effect (Some name) c
  name_effect last name c whole = ap (λ o. tag_effect o c) whole

  pub name_may_end : (last : Reading) (name : Name) → whole_name last ≡ Some name
      → MayEnd (AtTagName last) (tag_of name)
  name_may_end last name whole = record {
    white = record {
      goes = λ c is. subst (λ a. MayBe a (here (AtTag (tag_of name) true)))
          (sym (name_step last name c whole (white_ends c is)))
          (tag_white (AtTagName last) (tag_of name) false c is);
      stays = λ c is. name_effect last name c whole ∙ if_false (c == 62) _ _ (white_apart c is);
    };
    slash = subst (λ a. MayBe a (here (AtSlash (tag_of name))))
        (sym (name_step last name 47 whole end_marks.slash))
        (tag_slash (AtTagName last) (tag_of name) false);
    slash_stays = name_effect last name 47 whole;
    greater = subst (λ a. MayBe a (entered (here (AtTagName last)) (tag_of name)))
        (sym (name_step last name 62 whole end_marks.greater))
        (tag_greater (AtTagName last) (tag_of name) false);
    enters = name_effect last name 62 whole;
  }

  -- the name of a tag
  pub tag_name : InName (λ reading left. here (AtTagName reading))
  unfolding step tag_name_step
  tag_name = record {
    goes = λ reading next c left is. subst (λ o. MayBe
        (tag_name_or o (whole_name reading) (here (AtTagName reading)) c)
        (here (AtTagName next))) (sym is) refl;
    stays = λ reading next c left is. by_whole (whole_name reading) c
        (next_apart reading next c is);
  }
    where
      by_whole : (whole : Option Name) (c : ℕ) → (c == 62) ≡ false → tag_effect whole c ≡ Stays
      by_whole None c apart = refl
      by_whole (Some name) c apart = if_false (c == 62) _ _ apart

  -- the name of an attribute
  attribute_name : (tag : StartTag) → InName (λ reading left. here (AtAttributeName tag reading))
  unfolding step attribute_name_step
  attribute_name tag = record {
    goes = λ reading next c left is.
        subst (λ o. MayBe (attribute_name_or o (whole_name reading)
        (here (AtAttributeName tag reading)) tag c)
        (here (AtAttributeName tag next))) (sym is) refl;
    stays = λ reading next c left is. refl;
  }

  pub attribute_first : (tag : StartTag) (c : ℕ) → is_name_start c ≡ true
      → MayBe (step (here (AtTag tag true)) c) (here (AtAttributeName tag (First (c ∷ []))))
  unfolding step tag_step
  attribute_first tag c is =
      let starts : StartsName c = starts_name c is in
      if_false_may (is_white c) _ _ _ starts.no_white
      (if_false_may (c == 62) _ _ _ starts.no_greater
      (if_false_may (c == 47) _ _ _ starts.no_slash
      (if_true_may (is_name_start c) _ _ _ is refl)))

  -- from the white space to the end of the name
  pub attribute_named_through : (tag : StartTag) (name : Name) (read : NameRead name)
      → Through (here (AtTag tag true)) (name_characters name)
      (here (AtAttributeName tag read.last))
  attribute_named_through tag name read =
      subst (λ w. Through (here (AtTag tag true)) w (here (AtAttributeName tag read.last)))
      (sym read.is)
      (through_more (here (AtTag tag true)) (here (AtAttributeName tag (First (read.first ∷ []))))
      (here (AtAttributeName tag read.last)) read.first read.more
      (attribute_first tag read.first read.starts)
      (if_false (read.first == 62) _ _ (starts_name read.first read.starts).no_greater)
      (name_through (λ reading left. here (AtAttributeName tag reading)) (attribute_name tag)
      (First (read.first ∷ [])) read.last read.more read.follows))
