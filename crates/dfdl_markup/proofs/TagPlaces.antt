-- From each place in a start tag the document can be ended.
use Rattle.std.proofs.Common.{◌≡◌, ℕ, false, List, [], ◌∷◌, ◌++◌}
use Rattle.std.proofs.Common.{Some, refl, ap, sym, subst, ◌∙◌, arith, append_assoc}
use Rattle.std.proofs.lemmas.List.{append-nil}
use Rattle.dfdl_markup.specs.Grammar.{Name, Plain, Prefixed, name_characters}
use Rattle.dfdl_markup.specs.Values.{names_of}
use Rattle.dfdl_markup.specs.Rules.{IsName}
use Rattle.dfdl_markup.specs.Machine.{Reading, First, Colon, Second, whole_name, StartTag}
use Rattle.dfdl_markup.specs.Machine.{AtTagName, AtTag, AtAttributeName, AtNamed, AtEquals, AtValue}
use Rattle.dfdl_markup.specs.Machine.{Ahead, Frame, tag_of, value_begun, fixed_value}
use Rattle.dfdl_markup.proofs.Rest.{reading_characters, IsReading, Wrote}
use Rattle.dfdl_markup.proofs.Sound.{SoundFrames, SoundRoots, SoundTag, MayBegin, SoundName, Sound}
use Rattle.dfdl_markup.proofs.Answers.{Good, Live}
use Rattle.dfdl_markup.proofs.Closing.{good_low, each_append}
use Rattle.dfdl_markup.proofs.Moves.{at}
use Rattle.dfdl_markup.proofs.ReferenceForms.{standing}
use Rattle.dfdl_markup.proofs.ReferenceSteps.{only_standing}
use Rattle.dfdl_markup.proofs.TagFixed.{letters, letters_plain}
use Rattle.dfdl_markup.proofs.TagSteps.{Reaches, tag_named, named_equals}
use Rattle.dfdl_markup.proofs.TagSteps.{equals_quote, wrote_as}
use Rattle.dfdl_markup.proofs.TagEnds.{good_plain}
use Rattle.dfdl_markup.proofs.TagLive.{live_over, tag_lives, value_lives, keeps_nothing}
use Rattle.dfdl_markup.proofs.TagLive.{double_quotes}
use Rattle.dfdl_markup.proofs.TagNew.{letter_starts, longest, longest_some, long_new, Lengthened}
use Rattle.dfdl_markup.proofs.TagNew.{lengthen}

-- a tag without attributes
pub sound_bare : (name : Name) → IsName name → SoundTag (tag_of name)
sound_bare name named =
    record { name = named; names = tt; written = refl; expanded = refl; binds = tt }

pub name_ended : (reading : Reading) (name : Name) → whole_name reading ≡ Some name
    → Reaches (AtTagName reading) (AtTag (tag_of name) false) []
name_ended reading name ends n want raw wrote =
    subst (Wrote n want (AtTag (tag_of name) false)) (sym (append-nil raw))
    (tag_named reading name ends n want raw wrote)

name_lettered : (prefix : List ℕ)
    → Reaches (AtTagName (Colon prefix)) (AtTag (tag_of (Prefixed prefix (97 ∷ []))) false)
    (97 ∷ [])
name_lettered prefix n want raw wrote =
    tag_named (Second prefix (97 ∷ [])) (Prefixed prefix (97 ∷ [])) refl n want (raw ++ 97 ∷ []) (
      ap (λ l. l ++ 97 ∷ []) wrote.0 ∙ ap (λ l. 60 ∷ l) (append_assoc prefix (58 ∷ []) (97 ∷ [])),
      (wrote.1, (letter_starts, tt)),
    )

lengthened : (tag : StartTag) (reading : Reading) (k : ℕ) (l : Lengthened reading k)
    → Reaches (AtAttributeName tag reading) (AtEquals tag l.name) (letters k ++ 61 ∷ [])
lengthened tag reading k l n want raw wrote = (
  [],
  [],
  tt,
  tt,
  l.named,
  wrote_as n tag (reading_characters reading) (name_characters l.name ++ 61 ∷ []) raw
      (letters k ++ 61 ∷ [])
      (sym (append_assoc (reading_characters reading) (letters k) (61 ∷ []))
      ∙ ap (λ m. m ++ 61 ∷ []) l.characters) wrote.0,
)

good_equals : Good 61
good_equals = good_low 61 (omega arith) (omega arith)

good_double : Good 34
good_double = good_low 34 (omega arith) (omega arith)

module _ (begun : ℕ) (frames : List Frame) (sound_frames : SoundFrames frames)
    (roots : SoundRoots begun frames) (may : MayBegin begun frames) where
  tag_name_lives : (reading : Reading) → IsReading reading
      → Live (standing (AtTagName reading) begun frames)
  tag_name_lives (First part) is =
      live_over begun frames (AtTagName (First part)) (AtTag (tag_of (Plain part)) false) [] refl tt
      (name_ended (First part) (Plain part) refl)
      (tag_lives begun frames sound_frames roots may (tag_of (Plain part)) false
      (sound_bare (Plain part) is))
  tag_name_lives (Colon prefix) is =
      live_over begun frames (AtTagName (Colon prefix))
      (AtTag (tag_of (Prefixed prefix (97 ∷ []))) false) (97 ∷ []) refl
      (good_low 97 (omega arith) (omega arith), tt) (name_lettered prefix)
      (tag_lives begun frames sound_frames roots may (tag_of (Prefixed prefix (97 ∷ []))) false
      (sound_bare (Prefixed prefix (97 ∷ [])) (is, (letter_starts, tt))))
  tag_name_lives (Second prefix part) is =
      live_over begun frames (AtTagName (Second prefix part))
      (AtTag (tag_of (Prefixed prefix part)) false) [] refl tt
      (name_ended (Second prefix part) (Prefixed prefix part) refl)
      (tag_lives begun frames sound_frames roots may (tag_of (Prefixed prefix part)) false
      (sound_bare (Prefixed prefix part) is))

  equals_lives : (tag : StartTag) (name : Name) → SoundName tag name
      → Live (standing (AtEquals tag name) begun frames)
  equals_lives tag name sound =
      live_over begun frames (AtEquals tag name) (AtValue (value_begun tag name 34)) (34 ∷ []) refl
      (good_double, tt) (equals_quote tag name 34 double_quotes)
      (value_lives begun frames sound_frames roots may (value_begun tag name 34)
      (sound, double_quotes, keeps_nothing (fixed_value name)))

  named_lives : (tag : StartTag) (name : Name) → SoundName tag name
      → Live (standing (AtNamed tag name) begun frames)
  named_lives tag name sound =
      live_over begun frames (AtNamed tag name) (AtEquals tag name) (61 ∷ []) refl (good_equals, tt)
      (named_equals tag name) (equals_lives tag name sound)

  attribute_name_lives : (tag : StartTag) (reading : Reading) → SoundTag tag → IsReading reading
      → Live (standing (AtAttributeName tag reading) begun frames)
  attribute_name_lives tag reading sound is =
      let l : Lengthened reading (longest (names_of tag.attributes)) =
      lengthen reading (longest (names_of tag.attributes))
      (longest_some (names_of tag.attributes)) is in
      live_over begun frames (AtAttributeName tag reading) (AtEquals tag l.name)
      (letters (longest (names_of tag.attributes)) ++ 61 ∷ []) refl
      (each_append Good (letters (longest (names_of tag.attributes))) (61 ∷ [])
      (good_plain (letters (longest (names_of tag.attributes)))
      (letters_plain (longest (names_of tag.attributes)))) (good_equals, tt))
      (lengthened tag reading (longest (names_of tag.attributes)) l)
      (equals_lives tag l.name (sound, l.named, long_new tag l.name l.long))

module _ (ahead : Ahead) (begun : ℕ) (frames : List Frame) where
  pub tag_name_live : (reading : Reading) → Sound (at ahead (AtTagName reading) begun frames)
      → Live (at ahead (AtTagName reading) begun frames)
  tag_name_live reading sound =
      only_standing Live ahead (AtTagName reading) begun frames refl sound
      (λ s. tag_name_lives begun frames s.frames s.roots s.place.1 reading s.place.0)

  pub attribute_name_live : (tag : StartTag) (reading : Reading)
      → Sound (at ahead (AtAttributeName tag reading) begun frames)
      → Live (at ahead (AtAttributeName tag reading) begun frames)
  attribute_name_live tag reading sound =
      only_standing Live ahead (AtAttributeName tag reading) begun frames refl sound
      (λ s. attribute_name_lives begun frames s.frames s.roots s.place.2 tag reading s.place.0
      s.place.1)

  pub named_live : (tag : StartTag) (name : Name) → Sound (at ahead (AtNamed tag name) begun frames)
      → Live (at ahead (AtNamed tag name) begun frames)
  named_live tag name sound =
      only_standing Live ahead (AtNamed tag name) begun frames refl sound
      (λ s. named_lives begun frames s.frames s.roots s.place.1 tag name s.place.0)

  pub equals_live : (tag : StartTag) (name : Name)
      → Sound (at ahead (AtEquals tag name) begun frames)
      → Live (at ahead (AtEquals tag name) begun frames)
  equals_live tag name sound =
      only_standing Live ahead (AtEquals tag name) begun frames refl sound
      (λ s. equals_lives begun frames s.frames s.roots s.place.1 tag name s.place.0)
