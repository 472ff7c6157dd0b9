-- The machine runs over start tags.
use Rattle.std.proofs.Common.{◌≡◌, ℕ, ◌==◌, ◌<◌, ◌≤◌, ◌⊎◌, Bool, true, false}
use Rattle.std.proofs.Common.{if◌then◌else◌, List, [], ◌∷◌, ◌++◌, length, Option, Some, None, Ok}
use Rattle.std.proofs.Common.{Err, map, refl, sym, ap, ◌∙◌, subst, inl, inr, arith, append_assoc}
use Rattle.std.specs.List.{flat_map, list_all}
use Rattle.std.proofs.lemmas.List.{append-nil}
use Rattle.std.proofs.lemmas.Bool.{cases_Bool, eqb-true, and_from, both_ways}
use Rattle.dfdl_layers.specs.Tellers.{Each, run}
use Rattle.dfdl_xml_chars.specs.Characters.{is_name_start}
use Rattle.dfdl_markup.specs.Grammar.{is_white, is_quote, Name, name_characters}
use Rattle.dfdl_markup.specs.Grammar.{item_characters, Given, given_characters, Tag, tag_characters}
use Rattle.dfdl_markup.specs.Values.{value_of, Attribute, attribute_of, declares, Binding, names_of}
use Rattle.dfdl_markup.specs.Values.{is_found, scope_in, bindings_of, have_same, same_expanded}
use Rattle.dfdl_markup.specs.Rules.{AreWhite, GivenKeeps, attributes_of, AreDifferent}
use Rattle.dfdl_markup.specs.Rules.{TagKeeps}
use Rattle.dfdl_markup.specs.Machine.{Reading, First, whole_name, StartTag, OpenValue, Place}
use Rattle.dfdl_markup.specs.Machine.{AtOpened, AtTagName, AtTag, AtAttributeName, AtNamed}
use Rattle.dfdl_markup.specs.Machine.{AtEquals}
use Rattle.dfdl_markup.specs.Machine.{AtValue, AtSlash, Ahead, NothingAhead, Frame, State, step}
use Rattle.dfdl_markup.specs.Machine.{scope_of, may_begin, begin_by, opened_step, have_clash}
use Rattle.dfdl_markup.specs.Machine.{all_found, if_ends, entered, passed, tag_step, tag_of}
use Rattle.dfdl_markup.specs.Machine.{tag_name_or, tag_name_step, is_given, attribute_named}
use Rattle.dfdl_markup.specs.Machine.{behind_name, attribute_name_or, attribute_name_step}
use Rattle.dfdl_markup.specs.Machine.{named_step}
use Rattle.dfdl_markup.specs.Machine.{value_begun, equals_step, fixed_value, may_close}
use Rattle.dfdl_markup.specs.Machine.{has_sure_clash, value_step, with_value, slash_step}
use Rattle.dfdl_markup.proofs.RunNames.{EndsName, ReadsOn, name_read, next_none, white_ends}
use Rattle.dfdl_markup.proofs.RunNames.{end_marks}
use Rattle.dfdl_markup.proofs.RunScopes.{name_is_new, none_sure}
use Rattle.dfdl_markup.proofs.RunSteps.{Ends, After, state, RunsFrom, goes, not_under, if_true}
use Rattle.dfdl_markup.proofs.RunSteps.{if_false, whites_stay, at_test, same_is}
use Rattle.dfdl_markup.proofs.RunValues.{closes, value, value_runs, quote_is}

-- no character that a name begins with ends names
starts_apart : (c e : ℕ) → is_name_start c ≡ true → EndsName e → (c == e) ≡ false
starts_apart c e starts ends = one (cases_Bool (c == e))
  where
    one : ((c == e) ≡ true) ⊎ ((c == e) ≡ false) → (c == e) ≡ false
    one (inl same) =
        absurd (both_ways _ ends.no_start
        (subst (λ d. is_name_start d ≡ true) (eqb-true c e same) starts))
    one (inr apart) = apart

starts_no_white : (c : ℕ) → is_name_start c ≡ true → is_white c ≡ false
starts_no_white c starts = one (cases_Bool (is_white c))
  where
    one : (is_white c ≡ true) ⊎ (is_white c ≡ false) → is_white c ≡ false
    one (inl white) = absurd (both_ways _ (white_ends c white).no_start starts)
    one (inr apart) = apart

pub quote_no_white : (q : ℕ) → is_quote q ≡ true → is_white q ≡ false
unfolding is_white
quote_no_white q is = quote_is (λ p. is_white p ≡ false) q refl refl is

-- a text whose first character ends names
abbrev pub EndsFirst : List ℕ → Type 0
EndsFirst [] = ⊥
EndsFirst (c ∷ text) = EndsName c

given_ends : (space a b c : List ℕ) → AreWhite space → 0 < length space
    → EndsFirst (((space ++ a) ++ b) ++ c)
given_ends [] a b c are some = absurd (omega arith)
given_ends (w ∷ space) a b c are some = white_ends w are.0

pub space_ends : (space : List ℕ) (e : ℕ) (text : List ℕ) → AreWhite space → EndsName e
    → EndsFirst (space ++ e ∷ text)
space_ends [] e text are ends = ends
space_ends (w ∷ space) e text are ends = white_ends w are.0

-- what stands behind a tag's name
behind_ends : (n : ℕ) (givens : List Given) (space : List ℕ) (e : ℕ) (text : List ℕ)
    → Each (GivenKeeps n) givens → AreWhite space → EndsName e
    → EndsFirst (flat_map given_characters givens ++ (space ++ e ∷ text))
behind_ends n [] space e text keep are ends = space_ends space e text are ends
behind_ends n (given ∷ givens) space e text keep are ends =
    given_ends given.space _ (flat_map given_characters givens)
    (space ++ e ∷ text) keep.0.space keep.0.some_space

all_of_each : (p : Name → Bool) (names : List Name) → Each (λ x. p x ≡ true) names
    → list_all p names ≡ true
all_of_each p [] are = refl
all_of_each p (x ∷ names) are = and_from (p x) (list_all p names) are.0 (all_of_each p names are.1)

given_text : (space name before after items tail : List ℕ) (quote : ℕ)
    → (space ++ ((name ++ (before ++ 61 ∷ (after ++ quote ∷ []))) ++ (items ++ quote ∷ []))) ++ tail
    ≡ space ++ (name ++ (before ++ 61 ∷ (after ++ quote ∷ (items ++ quote ∷ tail))))
given_text space name before after items tail quote = simp append_assoc

tag_text : (name givens space tail : List ℕ) → (name ++ (givens ++ space)) ++ tail
    ≡ name ++ (givens ++ (space ++ tail))
tag_text name givens space tail = simp append_assoc

-- an element may begin, or the rule that forbids it isn't below n
abbrev pub Allows : ℕ → Option ℕ → Type 0
Allows n None = Unit {0}
Allows n (Some rule) = n ≤ rule

-- the tag with one attribute more
abbrev with : StartTag → Attribute → StartTag
with tag a = record { name = tag.name; attributes = tag.attributes ++ a ∷ [] }

module _ (n begun : ℕ) (frames : List Frame) where
  abbrev here : Place → State
  here place = state NothingAhead place begun frames

  tag_white : (tag : StartTag) (spaced : Bool) (w : ℕ) → is_white w ≡ true
      → step (here (AtTag tag spaced)) w ≡ Ok (here (AtTag tag true))
  unfolding step tag_step
  tag_white tag spaced w e = if_true (is_white w) _ _ e

  -- white space in a tag, of which there is some
  tag_space : (tag : StartTag) (spaced : Bool) (space tail : List ℕ) → 0 < length space
      → AreWhite space → RunsFrom n begun frames (AtTag tag true) tail
      → RunsFrom n begun frames (AtTag tag spaced) (space ++ tail)
  tag_space tag spaced [] tail some are ends = absurd (omega arith)
  tag_space tag spaced (w ∷ space) tail some are ends =
      goes n (here (AtTag tag spaced)) (here (AtTag tag true)) w (space ++ tail)
      (tag_white tag spaced w are.0)
      (whites_stay n (here (AtTag tag true)) (tag_white tag true) space tail are.1 ends)

  -- any white space before the end of a tag
  tag_last : (tag : StartTag) (spaced : Bool) (space tail : List ℕ) → AreWhite space
      → ((last : Bool) → RunsFrom n begun frames (AtTag tag last) tail)
      → RunsFrom n begun frames (AtTag tag spaced) (space ++ tail)
  tag_last tag spaced [] tail are ends = ends spaced
  tag_last tag spaced (w ∷ space) tail are ends =
      goes n (here (AtTag tag spaced)) (here (AtTag tag true)) w (space ++ tail)
      (tag_white tag spaced w are.0)
      (whites_stay n (here (AtTag tag true)) (tag_white tag true) space tail are.1 (ends true))

  -- the name of an attribute
  attribute_begun : (tag : StartTag) (c : ℕ) → is_name_start c ≡ true
      → step (here (AtTag tag true)) c ≡ Ok (here (AtAttributeName tag (First (c ∷ []))))
  unfolding step tag_step
  attribute_begun tag c starts =
      if_false (is_white c) _ _ (starts_no_white c starts)
      ∙ (if_false (c == 62) _ _ (starts_apart c 62 starts end_marks.greater)
      ∙ (if_false (c == 47) _ _ (starts_apart c 47 starts end_marks.slash)
      ∙ if_true (is_name_start c) _ _ starts))

  attribute_more : (tag : StartTag) (reading last : Reading) (more tail : List ℕ)
      → ReadsOn reading more last → RunsFrom n begun frames (AtAttributeName tag last) tail
      → RunsFrom n begun frames (AtAttributeName tag reading) (more ++ tail)
  unfolding step attribute_name_step
  attribute_more tag reading last [] tail follows ends =
      subst (λ r. RunsFrom n begun frames (AtAttributeName tag r) tail) (sym follows) ends
  attribute_more tag reading last (c ∷ more) tail follows ends =
      let s = here (AtAttributeName tag reading) in
      goes n s (here (AtAttributeName tag follows.0)) c (more ++ tail)
      (ap (λ o. attribute_name_or o (whole_name reading) s tag c) follows.1)
      (attribute_more tag follows.0 last more tail follows.2 ends)

  named_white : (tag : StartTag) (name : Name) (w : ℕ) → is_white w ≡ true
      → step (here (AtNamed tag name)) w ≡ Ok (here (AtNamed tag name))
  unfolding step named_step
  named_white tag name w e = if_true (is_white w) _ _ e

  named_equals : (tag : StartTag) (name : Name)
      → step (here (AtNamed tag name)) 61 ≡ Ok (here (AtEquals tag name))
  unfolding step named_step is_white
  named_equals tag name = refl

  -- what a name that ends there is followed by
  name_end : (tag : StartTag) (last : Reading) (name : Name) (c : ℕ) → whole_name last ≡ Some name
      → EndsName c
      → step (here (AtAttributeName tag last)) c
      ≡ behind_name (here (AtAttributeName tag last)) tag name c
  unfolding step attribute_name_step
  name_end tag last name c whole ends =
      let s = here (AtAttributeName tag last) in
      ap (λ o. attribute_name_or o (whole_name last) s tag c) (next_none last name c whole ends)
      ∙ ap (λ o. attribute_name_or None o s tag c) whole

  is_new : (tag : StartTag) (last : Reading) (name : Name) (place : Place) (text : List ℕ)
      → (5 < n → is_given tag name ≡ false) → RunsFrom n begun frames place text
      → After n (attribute_named (here (AtAttributeName tag last)) tag name place) text
  is_new tag last name place text new ends =
      at_test n text (is_given tag name) _ _
      (λ e. not_under n 5 (λ less. both_ways _ (new less) e)) (λ e. ends)

  -- white space and `=` behind an attribute's name
  equals_runs : (tag : StartTag) (last : Reading) (name : Name) (before tail : List ℕ)
      → whole_name last ≡ Some name → (5 < n → is_given tag name ≡ false) → AreWhite before
      → RunsFrom n begun frames (AtEquals tag name) tail
      → RunsFrom n begun frames (AtAttributeName tag last) (before ++ 61 ∷ tail)
  unfolding behind_name is_white
  equals_runs tag last name [] tail whole new are ends =
      subst (λ a. After n a tail) (sym (name_end tag last name 61 whole end_marks.equals))
      (is_new tag last name (AtEquals tag name) tail new ends)
  equals_runs tag last name (w ∷ before) tail whole new are ends =
      subst (λ a. After n a (before ++ 61 ∷ tail))
      (sym (name_end tag last name w whole (white_ends w are.0) ∙ if_true (is_white w) _ _ are.0))
      (is_new tag last name (AtNamed tag name) (before ++ 61 ∷ tail) new
      (whites_stay n (here (AtNamed tag name)) (named_white tag name) before (61 ∷ tail) are.1
      (goes n (here (AtNamed tag name)) (here (AtEquals tag name)) 61 tail
      (named_equals tag name) ends)))

  equals_white : (tag : StartTag) (name : Name) (w : ℕ) → is_white w ≡ true
      → step (here (AtEquals tag name)) w ≡ Ok (here (AtEquals tag name))
  unfolding step equals_step
  equals_white tag name w e = if_true (is_white w) _ _ e

  equals_quote : (tag : StartTag) (name : Name) (q : ℕ) → is_quote q ≡ true
      → step (here (AtEquals tag name)) q ≡ Ok (here (AtValue (value_begun tag name q)))
  unfolding step equals_step
  equals_quote tag name q e =
      if_false (is_white q) _ _ (quote_no_white q e) ∙ if_true (is_quote q) _ _ e

  -- the quote behind a value
  sure : (d : Option (List ℕ)) (attributes : List Attribute)
      → have_same (same_expanded (bindings_of attributes)) (names_of attributes) ≡ false
      → has_sure_clash d attributes ≡ false
  sure None attributes none = refl
  sure (Some prefix) attributes none = none

  value_end : (v : OpenValue) (tail : List ℕ)
      → may_close (declares v.name) (fixed_value v.name) v.text ≡ true
      → (5 < n → has_sure_clash (declares v.name) (with_value v).attributes ≡ false)
      → RunsFrom n begun frames (AtTag (with_value v) false) tail
      → RunsFrom n begun frames (AtValue v) (v.quote ∷ tail)
  unfolding step value_step
  value_end v tail may apart ends =
      subst (λ a. After n a tail) (sym (if_true (v.quote == v.quote) _ _ (same_is v.quote)
      ∙ if_true (may_close (declares v.name) (fixed_value v.name) v.text) _ _ may))
      (at_test n tail (has_sure_clash (declares v.name) (with_value v).attributes) _ _
      (λ e. not_under n 5 (λ less. both_ways _ (apart less) e)) (λ e. ends))

  -- an attribute
  given_runs : (scope : List Binding) (tag : StartTag) (spaced : Bool) (given : Given)
      (behind : List Attribute) (tail : List ℕ) → GivenKeeps n given
      → (5 < n → AreDifferent scope (tag.attributes ++ attribute_of given ∷ behind))
      → RunsFrom n begun frames (AtTag (with tag (attribute_of given)) false) tail
      → RunsFrom n begun frames (AtTag tag spaced) (given_characters given ++ tail)
  given_runs scope tag spaced given behind tail keeps differ ends =
      let name = given.name in
      let items = flat_map item_characters given.value in
      let read = name_read name keeps.name in
      let closing = items ++ given.quote ∷ tail in
      let opening = given.after ++ given.quote ∷ closing in
      let text : given_characters given ++ tail
      ≡ given.space ++ (read.first ∷ (read.more ++ (given.before ++ 61 ∷ opening))) =
      given_text given.space (name_characters name) given.before given.after items tail given.quote
      ∙ ap (λ l. given.space ++ (l ++ (given.before ++ 61 ∷ opening))) read.is
      in
      subst (λ l. RunsFrom n begun frames (AtTag tag spaced) l) (sym text)
      (tag_space tag spaced given.space
      (read.first ∷ (read.more ++ (given.before ++ 61 ∷ opening))) keeps.some_space keeps.space
      (goes n (here (AtTag tag true))
      (here (AtAttributeName tag (First (read.first ∷ [])))) read.first
      (read.more ++ (given.before ++ 61 ∷ opening)) (attribute_begun tag read.first read.starts)
      (attribute_more tag (First (read.first ∷ [])) read.last read.more
      (given.before ++ 61 ∷ opening) read.follows
      (equals_runs tag read.last name given.before opening read.whole
      (λ less. name_is_new scope tag (attribute_of given) behind (differ less)) keeps.before
      (whites_stay n (here (AtEquals tag name)) (equals_white tag name) given.after
      (given.quote ∷ closing) keeps.after
      (goes n (here (AtEquals tag name))
      (here (AtValue (value_begun tag name given.quote))) given.quote closing
      (equals_quote tag name given.quote keeps.quote)
      (value_runs n begun frames tag name given.quote given.value
      (given.quote ∷ tail) keeps.quote keeps.value keeps.binds
      (λ last. value_end (value n begun frames tag name given.quote (value_of given.value) last)
      tail
      (closes (declares name) given.value keeps.binds)
      (λ less. sure (declares name) (tag.attributes ++ attribute_of given ∷ [])
      (none_sure scope (tag.attributes ++ attribute_of given ∷ []) behind
      (subst (AreDifferent scope)
      (sym (append_assoc tag.attributes (attribute_of given ∷ []) behind)) (differ less))))
      ends))))))))

  -- the attributes of a tag
  givens_run : (scope : List Binding) (tag : StartTag) (spaced : Bool) (givens : List Given)
      (tail : List ℕ) → Each (GivenKeeps n) givens
      → (5 < n → AreDifferent scope (tag.attributes ++ map attribute_of givens))
      → ((last : Bool) → RunsFrom n begun frames
      (AtTag (record { name = tag.name; attributes = tag.attributes ++ map attribute_of givens })
      last) tail)
      → RunsFrom n begun frames (AtTag tag spaced) (flat_map given_characters givens ++ tail)
  givens_run scope tag spaced [] tail keep differ ends =
      subst (λ l. RunsFrom n begun frames
      (AtTag (record { name = tag.name; attributes = l }) spaced) tail)
      (append-nil tag.attributes) (ends spaced)
  givens_run scope tag spaced (given ∷ givens) tail keep differ ends =
      let a = attribute_of given in
      let joined : (tag.attributes ++ a ∷ []) ++ map attribute_of givens
      ≡ tag.attributes ++ a ∷ map attribute_of givens =
      append_assoc tag.attributes (a ∷ []) (map attribute_of givens) in
      subst (λ l. RunsFrom n begun frames (AtTag tag spaced) l)
      (sym (append_assoc (given_characters given) (flat_map given_characters givens) tail))
      (given_runs scope tag spaced given (map attribute_of givens)
      (flat_map given_characters givens ++ tail) keep.0 differ
      (givens_run scope (with tag a) false givens tail keep.1
      (λ less. subst (AreDifferent scope) (sym joined) (differ less))
      (λ last. subst (λ l. RunsFrom n begun frames
      (AtTag (record { name = tag.name; attributes = l }) last) tail)
      (sym joined) (ends last))))

  -- the name of a tag
  tag_more : (reading last : Reading) (more tail : List ℕ) → ReadsOn reading more last
      → RunsFrom n begun frames (AtTagName last) tail
      → RunsFrom n begun frames (AtTagName reading) (more ++ tail)
  unfolding step tag_name_step
  tag_more reading last [] tail follows ends =
      subst (λ r. RunsFrom n begun frames (AtTagName r) tail) (sym follows) ends
  tag_more reading last (c ∷ more) tail follows ends =
      let s = here (AtTagName reading) in
      goes n s (here (AtTagName follows.0)) c (more ++ tail)
      (ap (λ o. tag_name_or o (whole_name reading) s c) follows.1)
      (tag_more follows.0 last more tail follows.2 ends)

  tag_named : (last : Reading) (name : Name) (text : List ℕ) → whole_name last ≡ Some name
      → EndsFirst text → RunsFrom n begun frames (AtTag (tag_of name) false) text
      → RunsFrom n begun frames (AtTagName last) text
  unfolding step tag_name_step tag_step
  tag_named last name [] whole ending ends = absurd ending
  tag_named last name (c ∷ text) whole ending ends =
      let s = here (AtTagName last) in
      subst (λ a. After n a text)
      (sym (ap (λ o. tag_name_or o (whole_name last) s c) (next_none last name c whole ending)
      ∙ ap (λ o. tag_name_or None o s c) whole))
      ends

  -- an element may begin
  begins : (o : Option ℕ) (s : State) (c : ℕ) (text : List ℕ) → Allows n o
      → Ends n (run step (record {
        ahead = NothingAhead;
        place = AtTagName
            (First (c ∷ []));
        begun = s.begun;
        frames = s.frames;
      }) text)
      → After n (begin_by o s c) text
  begins None s c text allows ends = ends
  begins (Some rule) s c text allows ends = allows

  -- a tag up to the character that ends it
  pub tag_runs : (ahead : Ahead) (tag : Tag) (e : ℕ) (tail : List ℕ)
      → TagKeeps n (scope_of frames) tag → Allows n (may_begin begun frames) → EndsName e
      → ((last : Bool) → RunsFrom n begun frames
      (AtTag (record { name = tag.name; attributes = attributes_of tag }) last) (e ∷ tail))
      → Ends n (run step (state ahead AtOpened begun frames) (tag_characters tag ++ e ∷ tail))
  unfolding step opened_step
  tag_runs ahead tag e tail keeps allows ending ends =
      let read = name_read tag.name keeps.name in
      let givens = flat_map given_characters tag.attributes in
      let rest = givens ++ (tag.space ++ e ∷ tail) in
      let s = state ahead AtOpened begun frames in
      let text : tag_characters tag ++ e ∷ tail ≡ read.first ∷ (read.more ++ rest) =
      tag_text (name_characters tag.name) givens tag.space (e ∷ tail) ∙ ap (λ l. l ++ rest) read.is
      in
      subst (λ l. Ends n (run step s l)) (sym text)
      (subst (λ a. After n a (read.more ++ rest))
      (sym (if_true (is_name_start read.first) _ _ read.starts))
      (begins (may_begin begun frames) s read.first (read.more ++ rest) allows
      (tag_more (First (read.first ∷ [])) read.last read.more rest read.follows
      (tag_named read.last tag.name rest read.whole
      (behind_ends n tag.attributes tag.space e tail keeps.given keeps.space ending)
      (givens_run (scope_of frames) (tag_of tag.name) false tag.attributes
      (tag.space ++ e ∷ tail) keeps.given keeps.differ
      (λ last. tag_last (record { name = tag.name; attributes = attributes_of tag }) last tag.space
      (e ∷ tail) keeps.space ends))))))

  -- the tag may end
  tag_ends : (s : State) (tag : Tag) (next : State) (tail : List ℕ) → s.frames ≡ frames
      → TagKeeps n (scope_of frames) tag → Ends n (run step next tail)
      → After n (if_ends s (record { name = tag.name; attributes = attributes_of tag }) next) tail
  tag_ends s tag next tail is keeps ends =
      let start : StartTag = record { name = tag.name; attributes = attributes_of tag } in
      subst (λ l. After n (if have_clash (scope_of l) start.attributes then Err 5
      else (if all_found (scope_of l) start then Ok next else Err 7)) tail) (sym is)
      (at_test n tail (have_clash (scope_of frames) start.attributes) _ _
      (λ e. not_under n 5 (λ less. both_ways _ (keeps.differ less).expanded e))
      (λ e. at_test n tail (all_found (scope_of frames) start) _ _ (λ f. ends)
      (λ f. not_under n 7 (λ less. both_ways _ f
      (all_of_each (λ name. is_found (scope_in start.attributes (scope_of frames)) name)
      (start.name ∷ names_of start.attributes) (keeps.declared less))))))

  -- behind a start tag
  pub entered_runs : (ahead : Ahead) (tag : Tag) (tail : List ℕ) → TagKeeps n (scope_of frames) tag
      → Allows n (may_begin begun frames)
      → Ends n (run step (entered (here AtOpened)
      (record { name = tag.name; attributes = attributes_of tag })) tail)
      → Ends n (run step (state ahead AtOpened begun frames) (tag_characters tag ++ 62 ∷ tail))
  unfolding step tag_step is_white
  entered_runs ahead tag tail keeps allows ends =
      let start : StartTag = record { name = tag.name; attributes = attributes_of tag } in
      tag_runs ahead tag 62 tail keeps allows end_marks.greater
      (λ last. tag_ends (here (AtTag start last)) tag
      (entered (here AtOpened) start) tail refl keeps ends)

  -- behind one that closes itself
  pub passed_runs : (ahead : Ahead) (tag : Tag) (tail : List ℕ) → TagKeeps n (scope_of frames) tag
      → Allows n (may_begin begun frames) → Ends n (run step (passed (here AtOpened)) tail)
      → Ends n (run step (state ahead AtOpened begun frames) (tag_characters tag ++ 47 ∷ 62 ∷ tail))
  unfolding step tag_step slash_step is_white
  passed_runs ahead tag tail keeps allows ends =
      let start : StartTag = record { name = tag.name; attributes = attributes_of tag } in
      tag_runs ahead tag 47 (62 ∷ tail) keeps allows end_marks.slash
      (λ last. tag_ends (here (AtTag start last)) tag (here (AtSlash start))
      (62 ∷ tail) refl keeps ends)
