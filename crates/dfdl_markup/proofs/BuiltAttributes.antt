-- The attributes of a start tag, and the whole of it up to its end.
use Rattle.std.proofs.Common.{◌≡◌, ℕ, ◌<◌, ◌==◌, Bool, true, false, List, [], ◌∷◌, ◌++◌, map}
use Rattle.std.proofs.Common.{length, Option, Some, None, refl, ap, ap₂, sym, subst, ◌∙◌}
use Rattle.std.proofs.Common.{append_assoc, flat_map, arith}
use Rattle.std.proofs.lemmas.List.{append-nil}
use Rattle.dfdl_layers.specs.Tellers.{Each}
use Rattle.dfdl_xml_chars.specs.Characters.{is_name_start}
use Rattle.dfdl_markup.specs.Grammar.{is_white, is_quote, Name, name_characters, item_characters}
use Rattle.dfdl_markup.specs.Grammar.{Letter, Given, given_start, given_characters, Tag}
use Rattle.dfdl_markup.specs.Grammar.{tag_characters}
use Rattle.dfdl_markup.specs.Values.{Attribute, attribute_of, value_of, items_read, ends_in_cr}
use Rattle.dfdl_markup.specs.Values.{declares, Binding}
use Rattle.dfdl_markup.specs.Rules.{IsName, AreWhite, ItemKeeps, GivenKeeps, TagKeeps}
use Rattle.dfdl_markup.specs.Rules.{attributes_of}
use Rattle.dfdl_markup.specs.Machine.{Reading, First, whole_name, StartTag, OpenValue, Place}
use Rattle.dfdl_markup.specs.Machine.{AtOpened, AtTagName, AtTag, AtAttributeName, AtNamed}
use Rattle.dfdl_markup.specs.Machine.{AtEquals, AtValue, Ahead, NothingAhead, Frame, State, step}
use Rattle.dfdl_markup.specs.Machine.{tag_of, attribute_name_or, attribute_name_step, behind_name}
use Rattle.dfdl_markup.specs.Machine.{is_given, attribute_named, named_step, equals_step}
use Rattle.dfdl_markup.specs.Machine.{value_begun, value_step, with_value, with_text, fixed_value}
use Rattle.dfdl_markup.specs.Machine.{may_close, has_sure_clash, opened_step, may_begin, begin_by}
use Rattle.dfdl_markup.proofs.RunSteps.{state, same_is}
use Rattle.dfdl_markup.proofs.RunNames.{EndsName, white_ends, end_marks, NameRead, name_read}
use Rattle.dfdl_markup.proofs.RunNames.{next_none}
use Rattle.dfdl_markup.proofs.BuiltSteps.{MayBe, if_may, Through, through_nothing, through_one}
use Rattle.dfdl_markup.proofs.BuiltSteps.{through_more, through_both}
use Rattle.dfdl_markup.proofs.BuiltNames.{name_through, OverWhite, white_through}
use Rattle.dfdl_markup.proofs.BuiltReferences.{if_false_may, if_true_may}
use Rattle.dfdl_markup.proofs.BuiltValues.{items_through, fixed_through, Fixed, binds_fixed}
use Rattle.dfdl_markup.proofs.BuiltTags.{quote_no_white, quote_apart, with_attributes, MayEnd}
use Rattle.dfdl_markup.proofs.BuiltTags.{tag_may_end, name_may_end, tag_name}
use Rattle.dfdl_markup.proofs.BuiltTags.{attribute_named_through}

-- the tag as the machine reads it
abbrev pub start_tag : Tag → StartTag
start_tag tag = record { name = tag.name; attributes = attributes_of tag }

module _ (begun : ℕ) (frames : List Frame) where
  abbrev here : Place → State
  here place = state NothingAhead place begun frames

  -- behind an attribute's name
  name_step : (tag : StartTag) (last : Reading) (name : Name) (c : ℕ) → whole_name last ≡ Some name
      → EndsName c
      → step (here (AtAttributeName tag last)) c ≡ behind_name (here (AtAttributeName tag last)) tag
      name c
  unfolding step attribute_name_step
  name_step tag last name c whole ends =
      ap₂ (λ next o. attribute_name_or next o (here (AtAttributeName tag last)) tag c)
      (next_none last name c whole ends) whole

  named_may : (tag : StartTag) (last : Reading) (name : Name) (place : Place)
      → MayBe (attribute_named (here (AtAttributeName tag last)) tag name place) (here place)
  named_may tag last name place = if_may (is_given tag name) _ _ _ (λ e. tt) (λ e. refl)

  white_may : (tag : StartTag) (last : Reading) (name : Name) (c : ℕ) → whole_name last ≡ Some name
      → is_white c ≡ true
      → MayBe (step (here (AtAttributeName tag last)) c) (here (AtNamed tag name))
  unfolding behind_name
  white_may tag last name c whole white =
      subst (λ a. MayBe a (here (AtNamed tag name)))
      (sym (name_step tag last name c whole (white_ends c white)))
      (if_true_may (is_white c) _ _ _ white (named_may tag last name (AtNamed tag name)))

  equals_may : (tag : StartTag) (last : Reading) (name : Name) → whole_name last ≡ Some name
      → MayBe (step (here (AtAttributeName tag last)) 61) (here (AtEquals tag name))
  unfolding behind_name is_white
  equals_may tag last name whole =
      subst (λ a. MayBe a (here (AtEquals tag name)))
      (sym (name_step tag last name 61 whole end_marks.equals))
      (named_may tag last name (AtEquals tag name))

  over_named : (tag : StartTag) (name : Name)
      → OverWhite (here (AtNamed tag name)) (here (AtNamed tag name))
  unfolding step named_step
  over_named tag name = record {
    goes = λ c is. if_true_may (is_white c) _ _ _ is refl;
    stays = λ c is. refl;
  }

  over_equals : (tag : StartTag) (name : Name)
      → OverWhite (here (AtEquals tag name)) (here (AtEquals tag name))
  unfolding step equals_step
  over_equals tag name = record {
    goes = λ c is. if_true_may (is_white c) _ _ _ is refl;
    stays = λ c is. refl;
  }

  named_equals : (tag : StartTag) (name : Name)
      → MayBe (step (here (AtNamed tag name)) 61) (here (AtEquals tag name))
  unfolding step named_step is_white
  named_equals tag name = refl

  quote_may : (tag : StartTag) (name : Name) (quote : ℕ) → is_quote quote ≡ true
      → MayBe (step (here (AtEquals tag name)) quote) (here (AtValue (value_begun tag name quote)))
  unfolding step equals_step
  quote_may tag name quote is =
      if_false_may (is_white quote) _ _ _ (quote_no_white quote is)
      (if_true_may (is_quote quote) _ _ _ is refl)

  -- white space and the `=`
  to_equals : (tag : StartTag) (last : Reading) (name : Name) (before : List ℕ)
      → whole_name last ≡ Some name → AreWhite before
      → Through (here (AtAttributeName tag last)) (before ++ 61 ∷ []) (here (AtEquals tag name))
  to_equals tag last name [] whole white =
      through_one (here (AtAttributeName tag last)) (here (AtEquals tag name)) 61
      (equals_may tag last name whole) refl
  to_equals tag last name (c ∷ before) whole white =
      through_more (here (AtAttributeName tag last)) (here (AtNamed tag name))
      (here (AtEquals tag name)) c
      (before ++ 61 ∷ []) (white_may tag last name c whole white.0) refl
      (through_both (here (AtNamed tag name)) (here (AtNamed tag name)) (here (AtEquals tag name))
      before
      (61 ∷ []) (white_through (here (AtNamed tag name)) (over_named tag name) before white.1)
      (through_one (here (AtNamed tag name)) (here (AtEquals tag name)) 61 (named_equals tag name)
      refl))

  to_value : (tag : StartTag) (name : Name) (after : List ℕ) (quote : ℕ) → AreWhite after
      → is_quote quote ≡ true
      → Through (here (AtEquals tag name)) (after ++ quote ∷ [])
      (here (AtValue (value_begun tag name quote)))
  to_value tag name after quote white is =
      through_both (here (AtEquals tag name)) (here (AtEquals tag name))
      (here (AtValue (value_begun tag name quote))) after (quote ∷ [])
      (white_through (here (AtEquals tag name)) (over_equals tag name) after white)
      (through_one (here (AtEquals tag name)) (here (AtValue (value_begun tag name quote))) quote
      (quote_may tag name quote is) refl)

  start_parts : (name before after : List ℕ) (quote : ℕ)
      → name ++ ((before ++ 61 ∷ []) ++ (after ++ quote ∷ []))
      ≡ name ++ (before ++ 61 ∷ (after ++ quote ∷ []))
  start_parts name before after quote =
      ap (λ w. name ++ w) (append_assoc before (61 ∷ []) (after ++ quote ∷ []))

  -- from the white space to the value
  start_through : (tag : StartTag) (name : Name) (before after : List ℕ) (quote : ℕ) → IsName name
      → AreWhite before → AreWhite after → is_quote quote ≡ true
      → Through (here (AtTag tag true)) (given_start name before after quote)
      (here (AtValue (value_begun tag name quote)))
  start_through tag name before after quote is white_before white_after is_mark =
      let read : NameRead name = name_read name is in
      subst (λ w. Through (here (AtTag tag true)) w (here (AtValue (value_begun tag name quote))))
      (start_parts (name_characters name) before after quote)
      (through_both (here (AtTag tag true)) (here (AtAttributeName tag read.last))
      (here (AtValue (value_begun tag name quote))) (name_characters name)
      ((before ++ 61 ∷ []) ++ (after ++ quote ∷ []))
      (attribute_named_through begun frames tag name read)
      (through_both (here (AtAttributeName tag read.last)) (here (AtEquals tag name))
      (here (AtValue (value_begun tag name quote))) (before ++ 61 ∷ []) (after ++ quote ∷ [])
      (to_equals tag read.last name before read.whole white_before)
      (to_value tag name after quote white_after is_mark)))

  closed_may : (v : OpenValue) → MayBe (step (here (AtValue v)) v.quote)
      (here (AtTag (with_value v) false))
  unfolding step value_step
  closed_may v =
      if_true_may (v.quote == v.quote) _ _ _ (same_is v.quote)
      (if_may (may_close (declares v.name) (fixed_value v.name) v.text) _ _ _
      (λ e. if_may (has_sure_clash (declares v.name) (with_value v).attributes) _ _ _ (λ f. tt)
      (λ f. refl))
      (λ e. tt))

  -- the tag behind an attribute
  abbrev behind : StartTag → Given → StartTag
  behind tag given = with_attributes tag (attribute_of given ∷ [])

  abbrev value_at : StartTag → Given → OpenValue
  value_at tag given = value_begun tag given.name given.quote

  -- what was read of a value, up to its last character
  pub record ValueRead (tag : StartTag) (given : Given) : Type 0 where
    pub cr : Bool
    pub through : Through (here (AtValue (value_at tag given)))
        (flat_map item_characters given.value)
        (here (AtValue (with_text (value_at tag given) (value_of given.value) cr)))

  value_read_by : (n : ℕ) (tag : StartTag) (given : Given) → GivenKeeps n given
      → (fixed : Option (List ℕ)) → fixed_value given.name ≡ fixed → ValueRead tag given
  value_read_by n tag given keeps None is = record {
    cr = ends_in_cr false given.value;
    through = items_through begun frames (value_at tag given) n given.value is
        (quote_apart given.quote keeps.quote) keeps.value;
  }
  value_read_by n tag given keeps (Some fixed) is =
      let v : OpenValue = value_at tag given in
      let written : Fixed given.value fixed =
      binds_fixed (declares given.name) given.value fixed keeps.binds is in
      let comes : fixed ≡ value_of given.value =
      sym written.1 ∙ ap (λ items. items_read false items) (sym written.0) in
      record {
        cr = false;
        through = subst (λ items. Through (here (AtValue v)) (flat_map item_characters items)
            (here (AtValue (with_text v (value_of given.value) false)))) (sym written.0)
            (subst (λ w. Through (here (AtValue v)) (flat_map item_characters (map Letter fixed))
            (here (AtValue (with_text v w false)))) comes
            (fixed_through begun frames v n fixed fixed is refl
            (subst (λ items. Each (ItemKeeps n given.quote) items) written.0 keeps.value)));
      }

  value_through : (n : ℕ) (tag : StartTag) (given : Given) → GivenKeeps n given
      → Through (here (AtValue (value_at tag given)))
      (flat_map item_characters given.value ++ given.quote ∷ [])
      (here (AtTag (behind tag given) false))
  value_through n tag given keeps =
      let read : ValueRead tag given = value_read_by n tag given keeps (fixed_value given.name)
      refl in
      let v : OpenValue = with_text (value_at tag given) (value_of given.value) read.cr in
      through_both (here (AtValue (value_at tag given))) (here (AtValue v))
      (here (AtTag (behind tag given) false)) (flat_map item_characters given.value)
      (given.quote ∷ [])
      read.through
      (through_one (here (AtValue v)) (here (AtTag (behind tag given) false)) given.quote
      (closed_may v) refl)

  -- white space, of which there is some
  to_space : (place : Place) (tag : StartTag) (space : List ℕ) → MayEnd begun frames place tag
      → 0 < length space → AreWhite space → Through (here place) space (here (AtTag tag true))
  to_space place tag [] ends some white = absurd (omega (arith, some))
  to_space place tag (c ∷ space) ends some white =
      through_more (here place) (here (AtTag tag true)) (here (AtTag tag true)) c space
      (ends.white.goes c white.0) (ends.white.stays c white.0)
      (white_through (here (AtTag tag true)) (tag_may_end begun frames tag true).white space
      white.1)

  given_through : (n : ℕ) (place : Place) (tag : StartTag) (given : Given)
      → MayEnd begun frames place tag
      → GivenKeeps n given
      → Through (here place) (given_characters given) (here (AtTag (behind tag given) false))
  given_through n place tag given ends keeps =
      let start : List ℕ = given_start given.name given.before given.after given.quote in
      let value : List ℕ = flat_map item_characters given.value ++ given.quote ∷ [] in
      through_both (here place) (here (AtTag tag true)) (here (AtTag (behind tag given) false))
      given.space
      (start ++ value) (to_space place tag given.space ends keeps.some_space keeps.space)
      (through_both (here (AtTag tag true)) (here (AtValue (value_at tag given)))
      (here (AtTag (behind tag given) false)) start value
      (start_through tag given.name given.before given.after given.quote keeps.name keeps.before
      keeps.after keeps.quote)
      (value_through n tag given keeps))

  -- a tag up to a place where it may end
  pub record TagRead (from : State) (characters : List ℕ) (tag : StartTag) : Type 0 where
    pub place : Place
    pub ends : MayEnd begun frames place tag
    pub through : Through from characters (here place)

  attributes_assoc : (tag : StartTag) (a b : List Attribute)
      → with_attributes (with_attributes tag a) b ≡ with_attributes tag (a ++ b)
  attributes_assoc tag a b =
      ap (λ l. record { name = tag.name; attributes = l }) (append_assoc tag.attributes a b)

  attributes_nothing : (tag : StartTag) → with_attributes tag [] ≡ tag
  attributes_nothing tag =
      ap (λ l. record { name = tag.name; attributes = l }) (append-nil tag.attributes)

  attributes_read : (n : ℕ) (place : Place) (tag : StartTag) (givens : List Given)
      → MayEnd begun frames place tag → Each (GivenKeeps n) givens
      → TagRead (here place) (flat_map given_characters givens)
      (with_attributes tag (map attribute_of givens))
  attributes_read n place tag [] ends keep = record {
    place = place;
    ends = subst (MayEnd begun frames place) (sym (attributes_nothing tag)) ends;
    through = through_nothing (here place);
  }
  attributes_read n place tag (given ∷ givens) ends keep =
      let next : StartTag = behind tag given in
      let more : TagRead (here (AtTag next false)) (flat_map given_characters givens)
      (with_attributes next (map attribute_of givens)) =
      attributes_read n (AtTag next false) next givens (tag_may_end begun frames next false)
      keep.1 in
      record {
        place = more.place;
        ends = subst (MayEnd begun frames more.place)
            (attributes_assoc tag (attribute_of given ∷ []) (map attribute_of givens)) more.ends;
        through = through_both (here place) (here (AtTag next false)) (here more.place)
            (given_characters given) (flat_map given_characters givens)
            (given_through n place tag given ends keep.0) more.through;
      }

  space_read : (place : Place) (tag : StartTag) (space : List ℕ) → MayEnd begun frames place tag
      → AreWhite space → TagRead (here place) space tag
  space_read place tag [] ends white =
      record { place = place; ends = ends; through = through_nothing (here place) }
  space_read place tag (c ∷ space) ends white = record {
    place = AtTag tag true;
    ends = tag_may_end begun frames tag true;
    through = to_space place tag (c ∷ space) ends (omega arith) white;
  }

  begin_may : (ahead : Ahead) (c : ℕ) → is_name_start c ≡ true
      → MayBe (step (state ahead AtOpened begun frames) c) (here (AtTagName (First (c ∷ []))))
  unfolding step opened_step
  begin_may ahead c is =
      if_true_may (is_name_start c) _ _ _ is (by_rule (may_begin begun frames))
    where
      by_rule : (rule : Option ℕ)
          → MayBe (begin_by rule (state ahead AtOpened begun frames) c)
          (here (AtTagName (First (c ∷ []))))
      by_rule None = refl
      by_rule (Some rule) = tt

  begun_through : (ahead : Ahead) (name : Name) (read : NameRead name)
      → Through (state ahead AtOpened begun frames) (name_characters name)
      (here (AtTagName read.last))
  begun_through ahead name read =
      subst (λ w. Through (state ahead AtOpened begun frames) w (here (AtTagName read.last)))
      (sym read.is)
      (through_more (state ahead AtOpened begun frames) (here (AtTagName (First (read.first ∷ []))))
      (here (AtTagName read.last)) read.first read.more (begin_may ahead read.first read.starts)
      refl
      (name_through (λ reading left. here (AtTagName reading)) (tag_name begun frames)
      (First (read.first ∷ [])) read.last read.more read.follows))

  pub tag_read : (n : ℕ) (scope : List Binding) (ahead : Ahead) (tag : Tag) → TagKeeps n scope tag
      → TagRead (state ahead AtOpened begun frames) (tag_characters tag) (start_tag tag)
  tag_read n scope ahead tag keeps =
      let read : NameRead tag.name = name_read tag.name keeps.name in
      let given : TagRead (here (AtTagName read.last)) (flat_map given_characters tag.attributes)
      (start_tag tag) =
      attributes_read n (AtTagName read.last) (tag_of tag.name) tag.attributes
      (name_may_end begun frames read.last tag.name read.whole) keeps.given in
      let space : TagRead (here given.place) tag.space (start_tag tag) =
      space_read given.place (start_tag tag) tag.space given.ends keeps.space in
      record {
        place = space.place;
        ends = space.ends;
        through = through_both (state ahead AtOpened begun frames) (here (AtTagName read.last))
            (here space.place) (name_characters tag.name)
            (flat_map given_characters tag.attributes ++ tag.space)
            (begun_through ahead tag.name read)
            (through_both (here (AtTagName read.last)) (here given.place) (here space.place)
            (flat_map given_characters tag.attributes) tag.space given.through space.through);
      }
