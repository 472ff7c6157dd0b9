-- A start tag can be completed from any place in it: with a declaration for each prefix that it does
-- not declare, and then `/>`.
use Rattle.std.proofs.Common.{◌≡◌, ℕ, suc, ◌<◌, ◌≤◌, ◌⊎◌, ◌==◌, Bool, true, false, List, [], ◌∷◌}
use Rattle.std.proofs.Common.{◌++◌}
use Rattle.std.proofs.Common.{Option, Some, None, refl, ap, sym, subst, ◌∙◌, arith, inl, inr}
use Rattle.std.proofs.Common.{append_assoc}
use Rattle.std.proofs.lemmas.Bool.{cases_Bool, cond_both, eqb-true}
use Rattle.std.specs.List.{cons_option}
use Rattle.dfdl_layers.specs.Tellers.{Each}
use Rattle.dfdl_layers.proofs.Runs.{each-map}
use Rattle.dfdl_markup.specs.Grammar.{is_white, is_quote, Name, Plain, Prefixed, name_characters}
use Rattle.dfdl_markup.specs.Grammar.{Tag}
use Rattle.dfdl_markup.specs.Values.{Binding, bound_to, bindings_of, found, is_found}
use Rattle.dfdl_markup.specs.Values.{is_some_text, xmlns_prefix, same_name, same_expanded}
use Rattle.dfdl_markup.specs.Values.{names_of, scope_in}
use Rattle.dfdl_markup.specs.Rules.{IsPart, IsName, AreDifferent, AreDeclared, TagKeeps}
use Rattle.dfdl_markup.specs.Machine.{StartTag, OpenValue, Place, AtTag, AtEquals, AtValue, Frame}
use Rattle.dfdl_markup.specs.Machine.{Ahead}
use Rattle.dfdl_markup.specs.Machine.{scope_of, wanted, begun_by, value_begun, fixed_value}
use Rattle.dfdl_markup.proofs.Rest.{WroteTag, Close, From, brackets_at}
use Rattle.dfdl_markup.proofs.Sound.{SoundFrames, SoundRoots, SoundTag, MayBegin}
use Rattle.dfdl_markup.proofs.Sound.{KeepsFixed, SoundValue, Sound}
use Rattle.dfdl_markup.proofs.Answers.{Good, Live}
use Rattle.dfdl_markup.proofs.Closing.{good_low, each_append, good_of_name, Closing, close_all}
use Rattle.dfdl_markup.proofs.Closing.{may_deep}
use Rattle.dfdl_markup.proofs.Closing.{grow_single}
use Rattle.dfdl_markup.proofs.Moves.{at}
use Rattle.dfdl_markup.proofs.ReferenceForms.{standing}
use Rattle.dfdl_markup.proofs.ReferenceSteps.{only_standing}
use Rattle.dfdl_markup.proofs.TagNamespaces.{none_same, wider_pair, is_found_kept, found_kept}
use Rattle.dfdl_markup.proofs.TagNamespaces.{found_added}
use Rattle.dfdl_markup.proofs.TagValues.{each_push, with_attribute}
use Rattle.dfdl_markup.proofs.TagSound.{names_push, bindings_push}
use Rattle.dfdl_markup.proofs.TagSteps.{Reaches, reaches_on, tag_white, equals_quote}
use Rattle.dfdl_markup.proofs.TagEnds.{ValueEnd, value_ends, value_reaches, value_sound, good_quote}
use Rattle.dfdl_markup.proofs.TagNames.{xmlns_declares, xmlns_part, declaration_new}

-- a tag that was written so keeps the rules below n
pub tag_keeps : (n : ℕ) (frames : List Frame) (tag : StartTag) (t : Tag) → WroteTag n tag t
    → (5 < n → AreDifferent (scope_of frames) tag.attributes)
    → (7 < n → AreDeclared (scope_of frames) tag.name tag.attributes)
    → TagKeeps n (scope_of frames) t
tag_keeps n frames tag t wrote differ declared = record {
  name = wrote.named;
  given = wrote.given;
  space = wrote.space;
  differ = λ less. subst (AreDifferent (scope_of frames)) (sym wrote.attributes) (differ less);
  declared = λ less.
      subst (AreDeclared (scope_of frames) t.name) (sym wrote.attributes)
      (subst (λ name. AreDeclared (scope_of frames) name tag.attributes) (sym wrote.name)
      (declared less));
}

-- one that declares all of its own prefixes keeps the rules in any scope
pub own_different : (frames : List Frame) (tag : StartTag) → SoundTag tag
    → Each (λ name. is_found (bindings_of tag.attributes) name ≡ true) (names_of tag.attributes)
    → AreDifferent (scope_of frames) tag.attributes
own_different frames tag sound own = record {
  written = sound.written;
  expanded =
      none_same (λ name. is_found (bindings_of tag.attributes) name ≡ true)
      (same_expanded (bindings_of tag.attributes)) same_name
      (same_expanded (scope_in tag.attributes (scope_of frames)))
      (λ x y fx fy e w. wider_pair (bindings_of tag.attributes) (scope_of frames) x y fx fy e w)
      (names_of tag.attributes) own sound.expanded sound.written;
}

pub own_declared : (frames : List Frame) (tag : StartTag)
    → Each (λ name. is_found (bindings_of tag.attributes) name ≡ true)
    (tag.name ∷ names_of tag.attributes)
    → AreDeclared (scope_of frames) tag.name tag.attributes
own_declared frames tag own =
    each-map (λ name. is_found (bindings_of tag.attributes) name ≡ true)
    (λ name. is_found (scope_in tag.attributes (scope_of frames)) name ≡ true)
    (λ name is. is_found_kept (bindings_of tag.attributes) (scope_of frames) name is)
    (tag.name ∷ names_of tag.attributes) own

pub roots_behind : (begun : ℕ) (frames : List Frame) → SoundRoots begun frames → MayBegin begun
    frames
    → SoundRoots (begun_by begun frames) frames
roots_behind begun [] roots may =
    cond_both (begun == 0) None (Some 10) (λ (o : Option ℕ). o ≡ None → suc begun ≤ 1)
    (λ is empty. omega (arith, eqb-true begun 0 is)) (λ is_not empty. absurd (cc)) may
roots_behind begun (frame ∷ frames) roots may = roots

-- what closes all behind a tag that closes itself
pub behind_tag : (begun : ℕ) (frames : List Frame) → SoundFrames frames → SoundRoots begun frames
    → MayBegin begun frames → Closing (begun_by begun frames) frames 0
behind_tag begun frames sound roots may =
    close_all (begun_by begun frames) frames 0 sound (roots_behind begun frames roots may)

-- which prefixes are found, or are among those that are still to be declared

abbrev pub Among : List ℕ → List (List ℕ) → Type 0
Among p [] = ⊥
Among p (q ∷ prefixes) = (p ≡ q) ⊎ Among p prefixes

abbrev pub Covered : List Binding → List (List ℕ) → Name → Type 0
Covered bindings prefixes (Plain part) = Unit {0}
Covered bindings prefixes (Prefixed p part) =
    (is_some_text (found bindings p) ≡ true) ⊎ Among p prefixes

-- the prefixes of names
abbrev pub prefixes_of : List Name → List (List ℕ)
prefixes_of [] = []
prefixes_of (Plain part ∷ names) = prefixes_of names
prefixes_of (Prefixed p part ∷ names) = p ∷ prefixes_of names

prefix_parts : (names : List Name) → Each IsName names → Each IsPart (prefixes_of names)
prefix_parts [] named = tt
prefix_parts (Plain part ∷ names) named = prefix_parts names named.1
prefix_parts (Prefixed p part ∷ names) named = (named.0.0, prefix_parts names named.1)

all_covered : (bindings : List Binding) (all : List (List ℕ)) (names : List Name)
    → ((p : List ℕ) → Among p (prefixes_of names) → Among p all) → Each (Covered bindings all) names
all_covered bindings all [] among = tt
all_covered bindings all (Plain part ∷ names) among = (tt, all_covered bindings all names among)
all_covered bindings all (Prefixed p part ∷ names) among = (
  inr (among p (inl refl)),
  all_covered bindings all names (λ q is. among q (inr is)),
)

covered_none : (bindings : List Binding) (name : Name) → Covered bindings [] name
    → is_found bindings name ≡ true
covered_none bindings (Plain part) covered = refl
covered_none bindings (Prefixed p part) (inl is) = is
covered_none bindings (Prefixed p part) (inr is) = absurd is

covered_skip : (bindings : List Binding) (p : List ℕ) (prefixes : List (List ℕ))
    → is_some_text (found bindings p) ≡ true → (name : Name)
    → Covered bindings (p ∷ prefixes) name → Covered bindings prefixes name
covered_skip bindings p prefixes some (Plain part) covered = tt
covered_skip bindings p prefixes some (Prefixed q part) (inl is) = inl is
covered_skip bindings p prefixes some (Prefixed q part) (inr (inl same)) =
    inl (ap (λ l. is_some_text (found bindings l)) same ∙ some)
covered_skip bindings p prefixes some (Prefixed q part) (inr (inr among)) = inr among

covered_kept : (bindings more : List Binding) (prefixes : List (List ℕ)) (name : Name)
    → Covered bindings prefixes name → Covered (bindings ++ more) prefixes name
covered_kept bindings more prefixes (Plain part) covered = tt
covered_kept bindings more prefixes (Prefixed p part) (inl is) = inl (found_kept bindings more p is)
covered_kept bindings more prefixes (Prefixed p part) (inr among) = inr among

-- what is covered behind the declaration of a prefix

module _ (tag : StartTag) (p : List ℕ) (prefixes : List (List ℕ)) (value : List ℕ) where
  bindings_more : bindings_of (with_attribute tag (Prefixed xmlns_prefix p) value).attributes
      ≡ bindings_of tag.attributes ++ record { prefix = p; namespace = value } ∷ []
  bindings_more =
      bindings_push tag (Prefixed xmlns_prefix p) value
      ∙ ap (λ o. bindings_of tag.attributes ++ cons_option (bound_to value o) []) (xmlns_declares p)

  name_more : (name : Name) → Covered (bindings_of tag.attributes) (p ∷ prefixes) name
      → Covered (bindings_of (with_attribute tag (Prefixed xmlns_prefix p) value).attributes)
      prefixes name
  name_more name covered =
      subst (λ bindings. Covered bindings prefixes name) (sym bindings_more)
      (covered_skip (bindings_of tag.attributes ++ record { prefix = p; namespace = value } ∷ []) p
      prefixes (found_added (bindings_of tag.attributes) (record { prefix = p; namespace = value }))
      name
      (covered_kept (bindings_of tag.attributes) (record { prefix = p; namespace = value } ∷ [])
      (p ∷ prefixes) name covered))

  xmlns_more : Covered (bindings_of tag.attributes) (p ∷ prefixes) (Prefixed xmlns_prefix [])
      → Covered (bindings_of (with_attribute tag (Prefixed xmlns_prefix p) value).attributes)
      prefixes
      (Prefixed xmlns_prefix [])
  xmlns_more covered = name_more (Prefixed xmlns_prefix []) covered

  covered_more : Covered (bindings_of tag.attributes) (p ∷ prefixes) (Prefixed xmlns_prefix [])
      → Each (Covered (bindings_of tag.attributes) (p ∷ prefixes))
      (tag.name ∷ names_of tag.attributes)
      → Each (Covered (bindings_of (with_attribute tag (Prefixed xmlns_prefix p) value).attributes)
      prefixes)
      (tag.name ∷ names_of (with_attribute tag (Prefixed xmlns_prefix p) value).attributes)
  covered_more xmlns covered =
      subst (λ names. Each (Covered
      (bindings_of (with_attribute tag (Prefixed xmlns_prefix p) value).attributes) prefixes)
      (tag.name ∷ names)) (sym (names_push tag (Prefixed xmlns_prefix p) value))
      (each_push (Covered (bindings_of
      (with_attribute tag (Prefixed xmlns_prefix p) value).attributes) prefixes)
      (tag.name ∷ names_of tag.attributes) (Prefixed xmlns_prefix p)
      (each-map (Covered (bindings_of tag.attributes) (p ∷ prefixes))
      (Covered (bindings_of (with_attribute tag (Prefixed xmlns_prefix p) value).attributes)
      prefixes)
      name_more (tag.name ∷ names_of tag.attributes) covered)
      (xmlns_more xmlns))

-- an attribute behind a tag, up to its value

attribute_reaches : (tag : StartTag) (name : Name) → IsName name
    → Reaches (AtTag tag true) (AtEquals tag name) (name_characters name ++ 61 ∷ [])
attribute_reaches tag name named n want raw (t, wrote, is, some) = (
  [],
  [],
  tt,
  tt,
  named,
  record {
    t = t;
    wrote = wrote;
    some_space = some refl;
    is = ap (λ l. l ++ (name_characters name ++ 61 ∷ [])) is;
  },
)

space_white : is_white 32 ≡ true
unfolding is_white
space_white = refl

pub double_quotes : is_quote 34 ≡ true
unfolding is_quote
double_quotes = refl

declaration_reaches : (tag : StartTag) (spaced : Bool) (p : List ℕ) → IsPart p
    → Reaches (AtTag tag spaced) (AtValue (value_begun tag (Prefixed xmlns_prefix p) 34))
    (32 ∷ (name_characters (Prefixed xmlns_prefix p) ++ 61 ∷ 34 ∷ []))
declaration_reaches tag spaced p part =
    reaches_on (AtTag tag spaced) (AtTag tag true)
    (AtValue (value_begun tag (Prefixed xmlns_prefix p) 34))
    (32 ∷ []) (name_characters (Prefixed xmlns_prefix p) ++ 61 ∷ 34 ∷ [])
    (tag_white tag spaced 32 space_white)
    (subst (Reaches (AtTag tag true) (AtValue (value_begun tag (Prefixed xmlns_prefix p) 34)))
    (append_assoc (name_characters (Prefixed xmlns_prefix p)) (61 ∷ []) (34 ∷ []))
    (reaches_on (AtTag tag true) (AtEquals tag (Prefixed xmlns_prefix p))
    (AtValue (value_begun tag (Prefixed xmlns_prefix p) 34))
    (name_characters (Prefixed xmlns_prefix p) ++ 61 ∷ []) (34 ∷ [])
    (attribute_reaches tag (Prefixed xmlns_prefix p) (xmlns_part, part))
    (equals_quote tag (Prefixed xmlns_prefix p) 34 double_quotes)))

pub keeps_nothing : (o : Option (List ℕ)) → KeepsFixed o []
keeps_nothing None = tt
keeps_nothing (Some fixed) = refl

-- along some characters to a place from which the document can be ended

module _ (begun : ℕ) (frames : List Frame) where
  pub from_over : (n : ℕ) (p q : Place) (piece text : List ℕ) → brackets_at p ≡ brackets_at q
      → Reaches p q piece → From n (standing q begun frames) text
      → From n (standing p begun frames) (piece ++ text)
  from_over n p q piece text same reaches from = record {
    whole = λ raw wrote.
        subst (λ before. Close n begun frames before (raw ++ (piece ++ text))) (sym same)
        (subst (Close n begun frames (brackets_at q)) (append_assoc raw piece text)
        (from.whole (raw ++ piece) (reaches n (wanted frames) raw wrote)));
  }

  pub live_over : (p q : Place) (piece : List ℕ) → brackets_at p ≡ brackets_at q → Each Good piece
      → Reaches p q piece → Live (standing q begun frames) → Live (standing p begun frames)
  live_over p q piece same good reaches live = record {
    more = piece ++ live.more;
    good = each_append Good piece live.more good live.good;
    from = λ n. from_over n p q piece live.more same reaches (live.from n);
  }

  -- `/>` behind a tag, and what comes behind it
  pub slash_from : (n : ℕ) (tag : StartTag) (spaced : Bool) (rest : List ℕ) → MayBegin begun frames
      → (5 < n → AreDifferent (scope_of frames) tag.attributes)
      → (7 < n → AreDeclared (scope_of frames) tag.name tag.attributes)
      → Close n (begun_by begun frames) frames 0 rest
      → From n (standing (AtTag tag spaced) begun frames) (47 ∷ 62 ∷ rest)
  slash_from n tag spaced rest may differ declared close = record {
    whole = λ raw wrote.
        subst (λ l. Close n begun frames 0 (l ++ 47 ∷ 62 ∷ rest)) (sym wrote.2)
        (grow_single n begun frames 0 wrote.0 rest
        (tag_keeps n frames tag wrote.0 wrote.1 differ declared)
        (λ less. may_deep begun frames may) close);
  }

  module _ (sound_frames : SoundFrames frames) (roots : SoundRoots begun frames)
      (may : MayBegin begun frames) where
    -- a tag that declares all of its own prefixes
    live_declared : (tag : StartTag) (spaced : Bool) → SoundTag tag
        → Each (λ name. is_found (bindings_of tag.attributes) name ≡ true)
        (tag.name ∷ names_of tag.attributes)
        → Live (standing (AtTag tag spaced) begun frames)
    live_declared tag spaced sound own =
        let closing = behind_tag begun frames sound_frames roots may in
        record {
          more = 47 ∷ 62 ∷ closing.0;
          good = (
            good_low 47 (omega arith) (omega arith),
            (good_low 62 (omega arith) (omega arith), closing.1),
          );
          from = λ n. slash_from n tag spaced closing.0 may
              (λ less. own_different frames tag sound own.1)
              (λ less. own_declared frames tag own) (closing.2 n);
        }

    -- a declaration of a prefix behind a tag, and what ends the document behind it
    declared_live : (tag : StartTag) (spaced : Bool) (p : List ℕ) → SoundTag tag → IsPart p
        → is_some_text (found (bindings_of tag.attributes) p) ≡ false
        → ((value : List ℕ) → SoundTag (with_attribute tag (Prefixed xmlns_prefix p) value)
        → Live (standing (AtTag (with_attribute tag (Prefixed xmlns_prefix p) value) false) begun
        frames))
        → Live (standing (AtTag tag spaced) begun frames)
    declared_live tag spaced p sound part none others =
        live_over (AtTag tag spaced) (AtValue v)
        (32 ∷ (name_characters name ++ 61 ∷ 34 ∷ [])) refl (
          good_low 32 (omega arith) (omega arith),
          each_append Good (name_characters name)
              (61 ∷ 34 ∷ []) (good_of_name name (xmlns_part, part)) (
                good_low 61 (omega arith) (omega arith),
                (good_low 34 (omega arith) (omega arith), tt),
              ),
        )
        (declaration_reaches tag spaced p part)
        (live_over (AtValue v) (AtTag (with_attribute tag name e.more) false) (e.more ++ 34 ∷ [])
        refl
        (each_append Good e.more (34 ∷ []) e.good (good_low 34 (omega arith) (omega arith), tt))
        (value_reaches v e)
        (others e.more (value_sound v (sound, (xmlns_part, part), declaration_new tag p sound none)
        e)))
      where
        name : Name
        name = Prefixed xmlns_prefix p

        v : OpenValue
        v = value_begun tag (Prefixed xmlns_prefix p) 34

        e : ValueEnd (value_begun tag (Prefixed xmlns_prefix p) 34)
        e = value_ends (value_begun tag (Prefixed xmlns_prefix p) 34) sound.binds
            (keeps_nothing (fixed_value (Prefixed xmlns_prefix p)))

    -- a tag, where these are the prefixes that may still have to be declared
    complete : (prefixes : List (List ℕ)) (tag : StartTag) (spaced : Bool) → SoundTag tag
        → Each IsPart prefixes
        → Covered (bindings_of tag.attributes) prefixes (Prefixed xmlns_prefix [])
        → Each (Covered (bindings_of tag.attributes) prefixes) (tag.name ∷ names_of tag.attributes)
        → Live (standing (AtTag tag spaced) begun frames)
    complete [] tag spaced sound parts xmlns covered =
        live_declared tag spaced sound
        (each-map (Covered (bindings_of tag.attributes) [])
        (λ name. is_found (bindings_of tag.attributes) name ≡ true)
        (λ name is. covered_none (bindings_of tag.attributes) name is)
        (tag.name ∷ names_of tag.attributes) covered)
    complete (p ∷ prefixes) tag spaced sound parts xmlns covered =
        elim (cases_Bool (is_some_text (found (bindings_of tag.attributes) p))) [
          | inl some ↦
              complete prefixes tag spaced sound parts.1
              (covered_skip (bindings_of tag.attributes) p prefixes some (Prefixed xmlns_prefix [])
              xmlns)
              (each-map (Covered (bindings_of tag.attributes) (p ∷ prefixes))
              (Covered (bindings_of tag.attributes) prefixes)
              (λ name is. covered_skip (bindings_of tag.attributes) p prefixes some name is)
              (tag.name ∷ names_of tag.attributes) covered)
          | inr none ↦
              declared_live tag spaced p sound parts.0 none
              (λ value sound_more.
              complete prefixes (with_attribute tag (Prefixed xmlns_prefix p) value) false
              sound_more
              parts.1 (xmlns_more tag p prefixes value xmlns)
              (covered_more tag p prefixes value xmlns covered))
        ]

    -- from behind a tag or an attribute the document can be ended
    pub tag_lives : (tag : StartTag) (spaced : Bool) → SoundTag tag
        → Live (standing (AtTag tag spaced) begun frames)
    tag_lives tag spaced sound =
        complete (xmlns_prefix ∷ prefixes_of (tag.name ∷ names_of tag.attributes)) tag spaced sound
        (xmlns_part, prefix_parts (tag.name ∷ names_of tag.attributes) (sound.name, sound.names))
        (inr (inl refl))
        (all_covered (bindings_of tag.attributes)
        (xmlns_prefix ∷ prefixes_of (tag.name ∷ names_of tag.attributes))
        (tag.name ∷ names_of tag.attributes) (λ p among. inr among))

    -- and from within a value
    pub value_lives : (v : OpenValue) → SoundValue v → Live (standing (AtValue v) begun frames)
    value_lives v sound =
        let e : ValueEnd v = value_ends v sound.0.0.binds sound.2 in
        live_over (AtValue v) (AtTag (with_attribute v.tag v.name (v.text ++ e.more)) false)
        (e.more ++ v.quote ∷ []) refl
        (each_append Good e.more (v.quote ∷ []) e.good (good_quote v.quote sound.1, tt))
        (value_reaches v e)
        (tag_lives (with_attribute v.tag v.name (v.text ++ e.more)) false (value_sound v sound.0 e))

-- from any of the states there
module _ (ahead : Ahead) (begun : ℕ) (frames : List Frame) where
  pub tag_live : (tag : StartTag) (spaced : Bool) → Sound (at ahead (AtTag tag spaced) begun frames)
      → Live (at ahead (AtTag tag spaced) begun frames)
  tag_live tag spaced sound =
      only_standing Live ahead (AtTag tag spaced) begun frames refl sound
      (λ s. tag_lives begun frames s.frames s.roots s.place.1 tag spaced s.place.0)

  pub value_live : (v : OpenValue) → Sound (at ahead (AtValue v) begun frames)
      → Live (at ahead (AtValue v) begun frames)
  value_live v sound =
      only_standing Live ahead (AtValue v) begun frames refl sound
      (λ s. value_lives begun frames s.frames s.roots s.place.1 v s.place.0)
