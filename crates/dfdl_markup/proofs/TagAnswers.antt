-- Answers of the steps behind a start tag's name or an attribute, within its name, and behind `/`.
use Rattle.std.proofs.Common.{◌≡◌, ℕ, suc, ◌<◌, ◌==◌, ◌&&◌, Bool, true, false, List, [], ◌∷◌, ◌++◌}
use Rattle.std.proofs.Common.{Option, Some, None, Result, Ok, Err, refl, ap, sym, subst, ◌∙◌, arith}
use Rattle.std.proofs.Common.{append_assoc, if◌then◌else◌}
use Rattle.std.proofs.lemmas.Bool.{cond_both, eqb-true, and_parts}
use Rattle.std.specs.List.{list_all}
use Rattle.dfdl_layers.specs.Tellers.{Each}
use Rattle.dfdl_xml_chars.specs.Characters.{is_name_start}
use Rattle.dfdl_markup.specs.Grammar.{is_white, Name, tag_characters}
use Rattle.dfdl_markup.specs.Values.{names_of, is_found, scope_in}
use Rattle.dfdl_markup.specs.Rules.{AreDifferent, AreDeclared}
use Rattle.dfdl_markup.specs.Machine.{Reading, First, name_next, whole_name, StartTag, Place}
use Rattle.dfdl_markup.specs.Machine.{AtTagName, AtTag, AtAttributeName, AtSlash, Ahead}
use Rattle.dfdl_markup.specs.Machine.{NothingAhead, Frame}
use Rattle.dfdl_markup.specs.Machine.{State, stand, scope_of, wanted, have_clash, all_found}
use Rattle.dfdl_markup.specs.Machine.{if_ends}
use Rattle.dfdl_markup.specs.Machine.{begun_by, frame_of, entered, passed, tag_step, tag_of}
use Rattle.dfdl_markup.specs.Machine.{tag_name_or}
use Rattle.dfdl_markup.specs.Machine.{tag_name_step, slash_step}
use Rattle.dfdl_markup.proofs.Rest.{Wrote, Close, From, brackets_at}
use Rattle.dfdl_markup.proofs.Sound.{SoundFrames, SoundRoots, SoundTag, MayBegin, Sound}
use Rattle.dfdl_markup.proofs.Answers.{Leads, Told, Live, Answer}
use Rattle.dfdl_markup.proofs.Closing.{good_low, close_all, may_deep, grow_single, grow_nested}
use Rattle.dfdl_markup.proofs.Moves.{at, malformed, reads_on, content_at, answer_if}
use Rattle.dfdl_markup.proofs.ReferenceForms.{standing}
use Rattle.dfdl_markup.proofs.ReferenceSteps.{only_standing}
use Rattle.dfdl_markup.proofs.NamesRead.{next_name, read_name}
use Rattle.dfdl_markup.proofs.TagSteps.{Reaches, tag_named, tag_white, tag_slash, tag_attribute}
use Rattle.dfdl_markup.proofs.TagSteps.{tag_name_reaches}
use Rattle.dfdl_markup.proofs.TagLive.{tag_keeps, roots_behind, behind_tag, slash_from}
use Rattle.dfdl_markup.proofs.TagPlaces.{sound_bare}

-- a state from which one can go on as from another answers as that one does
pub answer_by : (s t : State) (c : ℕ) (r : Result State ℕ)
    → ((n : ℕ) (text : List ℕ) → From n t text → From n s text)
    → Answer t c r → Answer s c r
answer_by s t c (Ok u) over leads = record {
  sound = leads.sound;
  back = λ n text from. over n (c ∷ text) (leads.back n text from);
}
answer_by s t c (Err m) over told = (
  told.0,
  told.1,
  λ less. (
      let here = told.2 less in
      record { more = here.more; good = here.good; from = over m (c ∷ here.more) here.from }),
)

all_each : {A : Type 0} (test : A → Bool) (items : List A) → list_all test items ≡ true
    → Each (λ a. test a ≡ true) items
all_each test [] all = tt
all_each test (a ∷ items) all =
    let parts = and_parts (test a) (list_all test items) all in
    (parts.0, all_each test items parts.1)

begun_one : (begun : ℕ) (frames : List Frame) → SoundRoots begun frames → MayBegin begun frames
    → begun_by begun frames ≡ 1
begun_one begun [] roots may =
    cond_both (begun == 0) None (Some 10) (λ (o : Option ℕ). o ≡ None → suc begun ≡ 1)
    (λ is empty. ap suc (eqb-true begun 0 is)) (λ is_not empty. absurd (cc)) may
begun_one begun (frame ∷ frames) roots may = roots

module _ (begun : ℕ) (frames : List Frame) where
  -- from a place to one that was reached by nothing more
  standing_over : (p q : Place) → brackets_at p ≡ brackets_at q
      → ((n : ℕ) (want raw : List ℕ) → Wrote n want p raw → Wrote n want q raw)
      → (n : ℕ) (text : List ℕ) → From n (standing q begun frames) text
      → From n (standing p begun frames) text
  standing_over p q same over n text from = record {
    whole = λ raw wrote.
        subst (λ before. Close n begun frames before (raw ++ text)) (sym same)
        (from.whole raw (over n (wanted frames) raw wrote));
  }

  -- `>` behind a tag, and what comes behind it
  nested_from : (n : ℕ) (tag : StartTag) (spaced : Bool) (rest : List ℕ) → MayBegin begun frames
      → (5 < n → AreDifferent (scope_of frames) tag.attributes)
      → (7 < n → AreDeclared (scope_of frames) tag.name tag.attributes)
      → Close n (begun_by begun frames) (frame_of frames tag ∷ frames) 0 rest
      → From n (standing (AtTag tag spaced) begun frames) (62 ∷ rest)
  nested_from n tag spaced rest may differ declared close = record {
    whole = λ raw wrote.
        subst (λ l. Close n begun frames 0 (l ++ 62 ∷ rest)) (sym wrote.2)
        (grow_nested n begun frames 0 tag wrote.0 rest wrote.1.name wrote.1.attributes
        (tag_keeps n frames tag wrote.0 wrote.1 differ declared)
        (λ less. may_deep begun frames may) close);
  }

  module _ (sound_frames : SoundFrames frames) (roots : SoundRoots begun frames)
      (may : MayBegin begun frames) where
    frames_with : (tag : StartTag) → SoundTag tag → SoundFrames (frame_of frames tag ∷ frames)
    frames_with tag sound = ((sound.name, sound_frames.0), may_deep begun frames may)

    tag_differs : (tag : StartTag) → SoundTag tag
        → have_clash (scope_of frames) tag.attributes ≡ false
        → AreDifferent (scope_of frames) tag.attributes
    tag_differs tag sound clash = record { written = sound.written; expanded = clash }

    tag_declared : (tag : StartTag) → all_found (scope_of frames) tag ≡ true
        → AreDeclared (scope_of frames) tag.name tag.attributes
    tag_declared tag found =
        all_each (λ name. is_found (scope_in tag.attributes (scope_of frames)) name)
        (tag.name ∷ names_of tag.attributes) found

    -- the end of a tag, by what goes on there in spite of the rules from n on
    if_ends_answers : (tag : StartTag) (spaced : Bool) (c : ℕ) (next : State) → SoundTag tag
        → ((n : ℕ) → (5 < n → AreDifferent (scope_of frames) tag.attributes)
        → (7 < n → AreDeclared (scope_of frames) tag.name tag.attributes)
        → Told n (standing (AtTag tag spaced) begun frames) c)
        → (have_clash (scope_of frames) tag.attributes ≡ false
        → all_found (scope_of frames) tag ≡ true
        → Leads (standing (AtTag tag spaced) begun frames) c next)
        → Answer (standing (AtTag tag spaced) begun frames) c
        (if_ends (standing (AtTag tag spaced) begun frames) tag next)
    if_ends_answers tag spaced c next sound told leads =
        answer_if (standing (AtTag tag spaced) begun frames) c
        (have_clash (scope_of frames) tag.attributes) (Err 5)
        (if all_found (scope_of frames) tag then Ok next else Err 7)
        (λ clash. (
          omega arith,
          omega arith,
          λ less. told 5 (λ none. absurd (omega arith)) (λ none. absurd (omega arith)),
        ))
        (λ apart. answer_if (standing (AtTag tag spaced) begun frames) c
        (all_found (scope_of frames) tag) (Ok next) (Err 7) (λ found. leads apart found)
        (λ unfound. (
          omega arith,
          omega arith,
          λ less. told 7 (λ some. tag_differs tag sound apart) (λ none. absurd (omega arith)),
        )))

    greater_answers : (tag : StartTag) (spaced : Bool) → SoundTag tag
        → Answer (standing (AtTag tag spaced) begun frames) 62
        (if_ends (standing (AtTag tag spaced) begun frames) tag
        (entered (standing (AtTag tag spaced) begun frames) tag))
    greater_answers tag spaced sound =
        if_ends_answers tag spaced 62 (entered (standing (AtTag tag spaced) begun frames) tag) sound
        (λ n differ declared. (
        let closing =
        close_all (begun_by begun frames) (frame_of frames tag ∷ frames) 0 (frames_with tag sound)
        (begun_one begun frames roots may) in
        record {
          more = closing.0;
          good = closing.1;
          from = nested_from n tag spaced closing.0 may differ declared (closing.2 n);
        }))
        (λ apart found. record {
          sound = record {
            frames = frames_with tag sound;
            roots = begun_one begun frames roots may;
            ahead = refl;
            place = omega arith;
          };
          back = λ n text from. nested_from n tag spaced text may
              (λ less. tag_differs tag sound apart) (λ less. tag_declared tag found)
              (from.whole [] refl);
        })

    slash_answers_at : (tag : StartTag) (spaced : Bool) → SoundTag tag
        → Answer (standing (AtTag tag spaced) begun frames) 47
        (if_ends (standing (AtTag tag spaced) begun frames) tag
        (stand (standing (AtTag tag spaced) begun frames) (AtSlash tag)))
    slash_answers_at tag spaced sound =
        if_ends_answers tag spaced 47 (standing (AtSlash tag) begun frames) sound
        (λ n differ declared. (
        let closing = behind_tag begun frames sound_frames roots may in
        record {
          more = 62 ∷ closing.0;
          good = (good_low 62 (omega arith) (omega arith), closing.1);
          from = slash_from begun frames n tag spaced closing.0 may differ declared (closing.2 n);
        }))
        (λ apart found.
        reads_on NothingAhead (AtTag tag spaced) (AtSlash tag) begun frames 47
        (record { frames = sound_frames; roots = roots; ahead = refl; place = (sound, may) }) refl
        refl
        (sound, may, apart, found)
        (λ n raw wrote. tag_slash tag spaced n (wanted frames) raw wrote))

-- `c` is the character that was tested
pub answer_at : (s : State) (c d : ℕ) (r : Result State ℕ) → (c == d) ≡ true → Answer s d r
    → Answer s c r
answer_at s c d r is answer = subst (λ e. Answer s e r) (sym (eqb-true c d is)) answer

begins_attribute : (tag : StartTag) (spaced : Bool) (c : ℕ) → spaced ≡ true → is_name_start c ≡ true
    → Reaches (AtTag tag spaced) (AtAttributeName tag (First (c ∷ []))) (c ∷ [])
begins_attribute tag spaced c is starts =
    subst (λ b. Reaches (AtTag tag b) (AtAttributeName tag (First (c ∷ []))) (c ∷ [])) (sym is)
    (tag_attribute tag c starts)

tag_answers_at : (begun : ℕ) (frames : List Frame) (tag : StartTag) (spaced : Bool) (c : ℕ)
    → Sound (standing (AtTag tag spaced) begun frames)
    → Answer (standing (AtTag tag spaced) begun frames) c
    (tag_step (standing (AtTag tag spaced) begun frames) tag spaced c)
unfolding tag_step
tag_answers_at begun frames tag spaced c sound =
    answer_if s c (is_white c) (Ok (standing (AtTag tag true) begun frames))
    (if c == 62 then if_ends s tag (entered s tag)
    else (if c == 47 then if_ends s tag (standing (AtSlash tag) begun frames)
    else (if spaced && is_name_start c then Ok
    (standing (AtAttributeName tag (First (c ∷ []))) begun frames)
    else Err 3)))
    (λ white. reads_on NothingAhead (AtTag tag spaced) (AtTag tag true) begun frames c sound refl
    refl
    sound.place (λ n raw wrote. tag_white tag spaced c white n (wanted frames) raw wrote))
    (λ not_white. answer_if s c (c == 62) (if_ends s tag (entered s tag))
    (if c == 47 then if_ends s tag (standing (AtSlash tag) begun frames)
    else (if spaced && is_name_start c then Ok
    (standing (AtAttributeName tag (First (c ∷ []))) begun frames)
    else Err 3))
    (λ is. answer_at s c 62 (if_ends s tag (entered s tag)) is
    (greater_answers begun frames sound.frames sound.roots sound.place.1 tag spaced sound.place.0))
    (λ is_not. answer_if s c (c == 47) (if_ends s tag (standing (AtSlash tag) begun frames))
    (if spaced && is_name_start c then Ok
    (standing (AtAttributeName tag (First (c ∷ []))) begun frames)
    else Err 3)
    (λ is. answer_at s c 47 (if_ends s tag (standing (AtSlash tag) begun frames)) is
    (slash_answers_at begun frames sound.frames sound.roots sound.place.1 tag spaced sound.place.0))
    (λ other. answer_if s c (spaced && is_name_start c)
    (Ok (standing (AtAttributeName tag (First (c ∷ []))) begun frames)) (Err 3)
    (λ begins. (
    let parts = and_parts spaced (is_name_start c) begins in
    reads_on NothingAhead (AtTag tag spaced) (AtAttributeName tag (First (c ∷ []))) begun frames c
    sound
    refl refl (sound.place.0, (parts.1, tt), sound.place.1)
    (λ n raw wrote. begins_attribute tag spaced c parts.0 parts.1 n (wanted frames) raw wrote)))
    (λ malformed_there. malformed s c))))
  where
    s : State
    s = standing (AtTag tag spaced) begun frames

same_tag_step : (p q : Place) (begun : ℕ) (frames : List Frame) (tag : StartTag) (spaced : Bool)
    (c : ℕ)
    → tag_step (standing p begun frames) tag spaced c ≡ tag_step (standing q begun frames) tag
    spaced c
unfolding tag_step
same_tag_step p q begun frames tag spaced c = refl

sound_at_tag : (begun : ℕ) (frames : List Frame) (p : Place) (tag : StartTag)
    → Sound (standing p begun frames) → SoundTag tag → MayBegin begun frames
    → Sound (standing (AtTag tag false) begun frames)
sound_at_tag begun frames p tag sound sound_tag may =
    record { frames = sound.frames; roots = sound.roots; ahead = refl; place = (sound_tag, may) }

tag_name_by : (begun : ℕ) (frames : List Frame) (reading : Reading) (c : ℕ) (o : Option Reading)
    (w : Option Name) → name_next reading c ≡ o → whole_name reading ≡ w
    → Sound (standing (AtTagName reading) begun frames)
    → Answer (standing (AtTagName reading) begun frames) c
    (tag_name_or o w (standing (AtTagName reading) begun frames) c)
tag_name_by begun frames reading c (Some next) w goes ends sound =
    reads_on NothingAhead (AtTagName reading) (AtTagName next) begun frames c sound refl refl
    ((next_name reading c next goes).is sound.place.0, sound.place.1)
    (λ n raw wrote. tag_name_reaches reading next c goes n (wanted frames) raw wrote)
tag_name_by begun frames reading c None (Some name) goes ends sound =
    subst (Answer (standing (AtTagName reading) begun frames) c)
    (same_tag_step (AtTag (tag_of name) false) (AtTagName reading) begun frames (tag_of name) false
    c)
    (answer_by (standing (AtTagName reading) begun frames)
    (standing (AtTag (tag_of name) false) begun frames) c
    (tag_step (standing (AtTag (tag_of name) false) begun frames) (tag_of name) false c)
    (standing_over begun frames (AtTagName reading) (AtTag (tag_of name) false) refl
    (tag_named reading name ends))
    (tag_answers_at begun frames (tag_of name) false c
    (sound_at_tag begun frames (AtTagName reading) (tag_of name) sound
    (sound_bare name ((read_name reading name ends).is sound.place.0)) sound.place.1)))
tag_name_by begun frames reading c None None goes ends sound =
    malformed (standing (AtTagName reading) begun frames) c

tag_name_answers_at : (begun : ℕ) (frames : List Frame) (reading : Reading) (c : ℕ)
    → Sound (standing (AtTagName reading) begun frames)
    → Answer (standing (AtTagName reading) begun frames) c
    (tag_name_step (standing (AtTagName reading) begun frames) reading c)
unfolding tag_name_step
tag_name_answers_at begun frames reading c sound =
    tag_name_by begun frames reading c (name_next reading c) (whole_name reading) refl refl sound

-- `>` behind the `/` of a tag
slash_passes : (begun : ℕ) (frames : List Frame) (tag : StartTag) (n : ℕ) (text : List ℕ)
    → Sound (standing (AtSlash tag) begun frames)
    → Close n (begun_by begun frames) frames 0 text
    → From n (standing (AtSlash tag) begun frames) (62 ∷ text)
slash_passes begun frames tag n text sound close = record {
  whole = λ raw wrote.
      subst (λ l. Close n begun frames 0 l)
      (sym (ap (λ l. l ++ 62 ∷ text) wrote.2
      ∙ ap (λ l. 60 ∷ l) (append_assoc (tag_characters wrote.0) (47 ∷ []) (62 ∷ text))))
      (grow_single n begun frames 0 wrote.0 text
      (tag_keeps n frames tag wrote.0 wrote.1
      (λ less. tag_differs begun frames sound.frames sound.roots sound.place.1 tag sound.place.0
      sound.place.2)
      (λ less. tag_declared begun frames sound.frames sound.roots sound.place.1 tag sound.place.3))
      (λ less. may_deep begun frames sound.place.1) close);
}

slash_answers_there : (begun : ℕ) (frames : List Frame) (tag : StartTag) (c : ℕ)
    → Sound (standing (AtSlash tag) begun frames)
    → Answer (standing (AtSlash tag) begun frames) c
    (slash_step (standing (AtSlash tag) begun frames) c)
unfolding slash_step
slash_answers_there begun frames tag c sound =
    answer_if (standing (AtSlash tag) begun frames) c (c == 62)
    (Ok (passed (standing (AtSlash tag) begun frames))) (Err 3)
    (λ is. answer_at (standing (AtSlash tag) begun frames) c 62
    (Ok (passed (standing (AtSlash tag) begun frames))) is
    (record {
      sound = record {
        frames = sound.frames;
        roots = roots_behind begun frames sound.roots sound.place.1;
        ahead = refl;
        place = content_at (begun_by begun frames) frames;
      };
      back = λ n text from. slash_passes begun frames tag n text sound (from.whole [] refl);
    }))
    (λ is_not. malformed (standing (AtSlash tag) begun frames) c)

slash_lives : (begun : ℕ) (frames : List Frame) (tag : StartTag)
    → Sound (standing (AtSlash tag) begun frames) → Live (standing (AtSlash tag) begun frames)
slash_lives begun frames tag sound =
    let closing = behind_tag begun frames sound.frames sound.roots sound.place.1 in
    record {
      more = 62 ∷ closing.0;
      good = (good_low 62 (omega arith) (omega arith), closing.1);
      from = λ n. slash_passes begun frames tag n closing.0 sound (closing.2 n);
    }

-- from any of the states there
module _ (ahead : Ahead) (begun : ℕ) (frames : List Frame) where
  pub tag_answers : (tag : StartTag) (spaced : Bool) (c : ℕ)
      → Sound (at ahead (AtTag tag spaced) begun frames)
      → Answer (at ahead (AtTag tag spaced) begun frames) c
      (tag_step (at ahead (AtTag tag spaced) begun frames) tag spaced c)
  tag_answers tag spaced c sound =
      only_standing (λ s. Answer s c (tag_step s tag spaced c)) ahead (AtTag tag spaced) begun
      frames refl
      sound (tag_answers_at begun frames tag spaced c)

  pub tag_name_answers : (reading : Reading) (c : ℕ)
      → Sound (at ahead (AtTagName reading) begun frames)
      → Answer (at ahead (AtTagName reading) begun frames) c
      (tag_name_step (at ahead (AtTagName reading) begun frames) reading c)
  tag_name_answers reading c sound =
      only_standing (λ s. Answer s c (tag_name_step s reading c)) ahead (AtTagName reading) begun
      frames refl
      sound (tag_name_answers_at begun frames reading c)

  pub slash_answers : (tag : StartTag) (c : ℕ) → Sound (at ahead (AtSlash tag) begun frames)
      → Answer (at ahead (AtSlash tag) begun frames) c
      (slash_step (at ahead (AtSlash tag) begun frames) c)
  slash_answers tag c sound =
      only_standing (λ s. Answer s c (slash_step s c)) ahead (AtSlash tag) begun frames refl sound
      (slash_answers_there begun frames tag c)

  pub slash_live : (tag : StartTag) → Sound (at ahead (AtSlash tag) begun frames)
      → Live (at ahead (AtSlash tag) begun frames)
  slash_live tag sound =
      only_standing Live ahead (AtSlash tag) begun frames refl sound (slash_lives begun frames tag)
