-- Answers of the steps in an attribute of a start tag: in its name, behind it, and in its value.
use Rattle.std.proofs.Common.{◌≡◌, ℕ, ◌==◌, true, false, List, [], ◌∷◌, ◌++◌}
use Rattle.std.proofs.Common.{Option, Some, None, Ok, Err, refl, arith}
use Rattle.std.proofs.Common.{if◌then◌else◌}
use Rattle.dfdl_layers.specs.Tellers.{Each}
use Rattle.dfdl_markup.specs.Grammar.{is_white, is_quote, Name}
use Rattle.dfdl_markup.specs.Machine.{Reading, name_next, whole_name, StartTag, Place}
use Rattle.dfdl_markup.specs.Machine.{AtTag, AtAttributeName, AtNamed, AtEquals, AtValue}
use Rattle.dfdl_markup.specs.Machine.{Ahead, NothingAhead, Frame, State, wanted, begun_by, is_given}
use Rattle.dfdl_markup.specs.Machine.{attribute_named, behind_name, attribute_name_or}
use Rattle.dfdl_markup.specs.Machine.{attribute_name_step, named_step, value_begun, equals_step}
use Rattle.dfdl_markup.specs.Machine.{fixed_value}
use Rattle.dfdl_markup.proofs.Rest.{From, brackets_at}
use Rattle.dfdl_markup.proofs.Sound.{SoundTag, MayBegin, Sound}
use Rattle.dfdl_markup.proofs.Answers.{Good, Leads, Told, Answer}
use Rattle.dfdl_markup.proofs.Closing.{good_low, each_append, Closing}
use Rattle.dfdl_markup.proofs.Moves.{at, malformed, reads_on, answer_if}
use Rattle.dfdl_markup.proofs.ReferenceForms.{standing}
use Rattle.dfdl_markup.proofs.ReferenceSteps.{only_standing}
use Rattle.dfdl_markup.proofs.NamesRead.{next_name, read_name}
use Rattle.dfdl_markup.proofs.TagValues.{with_attribute}
use Rattle.dfdl_markup.proofs.TagSteps.{Reaches, reaches_on, attribute_name_reaches}
use Rattle.dfdl_markup.proofs.TagSteps.{attribute_white, attribute_equals}
use Rattle.dfdl_markup.proofs.TagSteps.{named_white, named_equals, equals_white, equals_quote}
use Rattle.dfdl_markup.proofs.TagEnds.{ValueEnd, value_ends, value_reaches}
use Rattle.dfdl_markup.proofs.TagLive.{behind_tag, from_over, slash_from, keeps_nothing}
use Rattle.dfdl_markup.proofs.TagLive.{double_quotes}
use Rattle.dfdl_markup.proofs.TagAnswers.{answer_at}

-- what is told at a place that is gone on from by more characters
pub told_over : (n : ℕ) (begun : ℕ) (frames : List Frame) (p q : Place) (c : ℕ)
    (piece rest : List ℕ)
    → brackets_at p ≡ brackets_at q → Each Good piece → Each Good rest → Reaches p q (c ∷ piece)
    → From n (standing q begun frames) rest → Told n (standing p begun frames) c
told_over n begun frames p q c piece rest same good others reaches from = record {
  more = piece ++ rest;
  good = each_append Good piece rest good others;
  from = from_over begun frames n p q (c ∷ piece) rest same reaches from;
}

module _ (begun : ℕ) (frames : List Frame) where
  -- behind the `=` of an attribute that was given the document can be ended, but for rule 5
  given_from : (tag : StartTag) (name : Name) → SoundTag tag → MayBegin begun frames
      → Closing (begun_by begun frames) frames 0
      → (more : List ℕ) × Each Good more × From 5 (standing (AtEquals tag name) begun frames) more
  given_from tag name sound may closing =
      let e : ValueEnd (value_begun tag name 34) =
      value_ends (value_begun tag name 34) sound.binds (keeps_nothing (fixed_value name)) in (
        34 ∷ ((e.more ++ 34 ∷ []) ++ 47 ∷ 62 ∷ closing.0),
        (
          good_low 34 (omega arith) (omega arith),
          each_append Good (e.more ++ 34 ∷ []) (47 ∷ 62 ∷ closing.0)
              (each_append Good e.more (34 ∷ []) e.good
              (good_low 34 (omega arith) (omega arith), tt)) (
                good_low 47 (omega arith) (omega arith),
                (good_low 62 (omega arith) (omega arith), closing.1),
              ),
        ),
        from_over begun frames 5 (AtEquals tag name) (AtValue (value_begun tag name 34)) (34 ∷ [])
            ((e.more ++ 34 ∷ []) ++ 47 ∷ 62 ∷ closing.0) refl
            (equals_quote tag name 34 double_quotes)
            (from_over begun frames 5 (AtValue (value_begun tag name 34))
            (AtTag (with_attribute tag name e.more) false) (e.more ++ 34 ∷ []) (47 ∷ 62 ∷ closing.0)
            refl (value_reaches (value_begun tag name 34) e)
            (slash_from begun frames 5 (with_attribute tag name e.more) false closing.0 may
            (λ less. absurd (omega arith)) (λ less. absurd (omega arith)) (closing.2 5))),
      )

  -- behind an attribute's name

  named_by : (tag : StartTag) (reading : Reading) (name : Name) (c : ℕ) (place : Place)
      → whole_name reading ≡ Some name → Sound (standing (AtAttributeName tag reading) begun frames)
      → ((fresh : is_given tag name ≡ false)
      → Leads (standing (AtAttributeName tag reading) begun frames) c (standing place begun frames))
      → Told 5 (standing (AtAttributeName tag reading) begun frames) c
      → Answer (standing (AtAttributeName tag reading) begun frames) c
      (attribute_named (standing (AtAttributeName tag reading) begun frames) tag name place)
  named_by tag reading name c place ends sound leads told =
      answer_if (standing (AtAttributeName tag reading) begun frames) c (is_given tag name) (Err 5)
      (Ok (standing place begun frames)) (λ given. (omega arith, omega arith, λ less. told)) leads

  named_to_white : (tag : StartTag) (reading : Reading) (name : Name) (c : ℕ)
      → whole_name reading ≡ Some name → Sound (standing (AtAttributeName tag reading) begun frames)
      → is_white c ≡ true
      → Answer (standing (AtAttributeName tag reading) begun frames) c
      (attribute_named (standing (AtAttributeName tag reading) begun frames) tag name
      (AtNamed tag name))
  named_to_white tag reading name c ends sound white =
      named_by tag reading name c (AtNamed tag name) ends sound
      (λ fresh. reads_on NothingAhead (AtAttributeName tag reading) (AtNamed tag name) begun frames
      c sound
      refl refl (
        (sound.place.0, (read_name reading name ends).is sound.place.1, fresh),
        sound.place.2,
      )
      (λ n raw wrote. attribute_white tag reading name c ends white n (wanted frames) raw wrote))
      (let rest = given_from tag name sound.place.0 sound.place.2
      (behind_tag begun frames sound.frames sound.roots sound.place.2) in
      told_over 5 begun frames (AtAttributeName tag reading) (AtEquals tag name) c (61 ∷ []) rest.0
      refl
      (good_low 61 (omega arith) (omega arith), tt) rest.1
      (reaches_on (AtAttributeName tag reading) (AtNamed tag name) (AtEquals tag name) (c ∷ [])
      (61 ∷ [])
      (attribute_white tag reading name c ends white) (named_equals tag name)) rest.2)

  named_to_equals : (tag : StartTag) (reading : Reading) (name : Name)
      → whole_name reading ≡ Some name → Sound (standing (AtAttributeName tag reading) begun frames)
      → Answer (standing (AtAttributeName tag reading) begun frames) 61
      (attribute_named (standing (AtAttributeName tag reading) begun frames) tag name
      (AtEquals tag name))
  named_to_equals tag reading name ends sound =
      named_by tag reading name 61 (AtEquals tag name) ends sound
      (λ fresh. reads_on NothingAhead (AtAttributeName tag reading) (AtEquals tag name) begun frames
      61 sound
      refl refl (
        (sound.place.0, (read_name reading name ends).is sound.place.1, fresh),
        sound.place.2,
      )
      (λ n raw wrote. attribute_equals tag reading name ends n (wanted frames) raw wrote))
      (let rest = given_from tag name sound.place.0 sound.place.2
      (behind_tag begun frames sound.frames sound.roots sound.place.2) in
      told_over 5 begun frames (AtAttributeName tag reading) (AtEquals tag name) 61 [] rest.0 refl
      tt
      rest.1 (attribute_equals tag reading name ends) rest.2)

  behind_name_answers : (tag : StartTag) (reading : Reading) (name : Name) (c : ℕ)
      → whole_name reading ≡ Some name → Sound (standing (AtAttributeName tag reading) begun frames)
      → Answer (standing (AtAttributeName tag reading) begun frames) c
      (behind_name (standing (AtAttributeName tag reading) begun frames) tag name c)
  unfolding behind_name
  behind_name_answers tag reading name c ends sound =
      answer_if s c (is_white c) (attribute_named s tag name (AtNamed tag name))
      (if c == 61 then attribute_named s tag name (AtEquals tag name) else Err 3)
      (λ white. named_to_white tag reading name c ends sound white)
      (λ not_white. answer_if s c (c == 61) (attribute_named s tag name (AtEquals tag name)) (Err 3)
      (λ is. answer_at s c 61 (attribute_named s tag name (AtEquals tag name)) is
      (named_to_equals tag reading name ends sound))
      (λ is_not. malformed s c))
    where
      s : State
      s = standing (AtAttributeName tag reading) begun frames

  attribute_name_by : (tag : StartTag) (reading : Reading) (c : ℕ) (o : Option Reading)
      (w : Option Name)
      → name_next reading c ≡ o → whole_name reading ≡ w
      → Sound (standing (AtAttributeName tag reading) begun frames)
      → Answer (standing (AtAttributeName tag reading) begun frames) c
      (attribute_name_or o w (standing (AtAttributeName tag reading) begun frames) tag c)
  attribute_name_by tag reading c (Some next) w goes ends sound =
      reads_on NothingAhead (AtAttributeName tag reading) (AtAttributeName tag next) begun frames c
      sound
      refl refl (sound.place.0, (next_name reading c next goes).is sound.place.1, sound.place.2)
      (λ n raw wrote. attribute_name_reaches tag reading next c goes n (wanted frames) raw wrote)
  attribute_name_by tag reading c None (Some name) goes ends sound =
      behind_name_answers tag reading name c ends sound
  attribute_name_by tag reading c None None goes ends sound =
      malformed (standing (AtAttributeName tag reading) begun frames) c

  attribute_name_at : (tag : StartTag) (reading : Reading) (c : ℕ)
      → Sound (standing (AtAttributeName tag reading) begun frames)
      → Answer (standing (AtAttributeName tag reading) begun frames) c
      (attribute_name_step (standing (AtAttributeName tag reading) begun frames) tag reading c)
  unfolding attribute_name_step
  attribute_name_at tag reading c sound =
      attribute_name_by tag reading c (name_next reading c) (whole_name reading) refl refl sound

  named_at : (tag : StartTag) (name : Name) (c : ℕ)
      → Sound (standing (AtNamed tag name) begun frames)
      → Answer (standing (AtNamed tag name) begun frames) c
      (named_step (standing (AtNamed tag name) begun frames) tag name c)
  unfolding named_step
  named_at tag name c sound =
      answer_if s c (is_white c) (Ok (standing (AtNamed tag name) begun frames))
      (if c == 61 then Ok (standing (AtEquals tag name) begun frames) else Err 3)
      (λ white. reads_on NothingAhead (AtNamed tag name) (AtNamed tag name) begun frames c sound
      refl refl
      sound.place (λ n raw wrote. named_white tag name c white n (wanted frames) raw wrote))
      (λ not_white. answer_if s c (c == 61) (Ok (standing (AtEquals tag name) begun frames)) (Err 3)
      (λ is. answer_at s c 61 (Ok (standing (AtEquals tag name) begun frames)) is
      (reads_on NothingAhead (AtNamed tag name) (AtEquals tag name) begun frames 61 sound refl refl
      sound.place (λ n raw wrote. named_equals tag name n (wanted frames) raw wrote)))
      (λ is_not. malformed s c))
    where
      s : State
      s = standing (AtNamed tag name) begun frames

  equals_at : (tag : StartTag) (name : Name) (c : ℕ)
      → Sound (standing (AtEquals tag name) begun frames)
      → Answer (standing (AtEquals tag name) begun frames) c
      (equals_step (standing (AtEquals tag name) begun frames) tag name c)
  unfolding equals_step
  equals_at tag name c sound =
      answer_if s c (is_white c) (Ok (standing (AtEquals tag name) begun frames))
      (if is_quote c then Ok (standing (AtValue (value_begun tag name c)) begun frames) else Err 3)
      (λ white. reads_on NothingAhead (AtEquals tag name) (AtEquals tag name) begun frames c sound
      refl refl
      sound.place (λ n raw wrote. equals_white tag name c white n (wanted frames) raw wrote))
      (λ not_white. answer_if s c (is_quote c)
      (Ok (standing (AtValue (value_begun tag name c)) begun frames)) (Err 3)
      (λ quotes. reads_on NothingAhead (AtEquals tag name) (AtValue (value_begun tag name c)) begun
      frames c
      sound refl refl ((sound.place.0, quotes, keeps_nothing (fixed_value name)), sound.place.1)
      (λ n raw wrote. equals_quote tag name c quotes n (wanted frames) raw wrote))
      (λ is_not. malformed s c))
    where
      s : State
      s = standing (AtEquals tag name) begun frames

-- from any of the states there
module _ (ahead : Ahead) (begun : ℕ) (frames : List Frame) where
  pub attribute_name_answers : (tag : StartTag) (reading : Reading) (c : ℕ)
      → Sound (at ahead (AtAttributeName tag reading) begun frames)
      → Answer (at ahead (AtAttributeName tag reading) begun frames) c
      (attribute_name_step (at ahead (AtAttributeName tag reading) begun frames) tag reading c)
  attribute_name_answers tag reading c sound =
      only_standing (λ s. Answer s c (attribute_name_step s tag reading c)) ahead
      (AtAttributeName tag reading) begun frames refl sound
      (attribute_name_at begun frames tag reading c)

  pub named_answers : (tag : StartTag) (name : Name) (c : ℕ)
      → Sound (at ahead (AtNamed tag name) begun frames)
      → Answer (at ahead (AtNamed tag name) begun frames) c
      (named_step (at ahead (AtNamed tag name) begun frames) tag name c)
  named_answers tag name c sound =
      only_standing (λ s. Answer s c (named_step s tag name c)) ahead (AtNamed tag name) begun
      frames refl
      sound (named_at begun frames tag name c)

  pub equals_answers : (tag : StartTag) (name : Name) (c : ℕ)
      → Sound (at ahead (AtEquals tag name) begun frames)
      → Answer (at ahead (AtEquals tag name) begun frames) c
      (equals_step (at ahead (AtEquals tag name) begun frames) tag name c)
  equals_answers tag name c sound =
      only_standing (λ s. Answer s c (equals_step s tag name c)) ahead (AtEquals tag name) begun
      frames refl
      sound (equals_at begun frames tag name c)
