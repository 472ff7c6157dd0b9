-- References in a content and in values: what each step answers, and that some text ends the
-- document from each place.
use Rattle.std.proofs.Common.{ℕ, Bool, false, List, [], ◌∷◌, refl}
use Rattle.dfdl_markup.specs.Machine.{Within, InContent, InValue, AtReference, AtEntity, AtHash}
use Rattle.dfdl_markup.specs.Machine.{AtHexadecimal, AtNumber, Ahead, Frame, with_text}
use Rattle.dfdl_markup.specs.Machine.{reference_step, entity_step, hash_step, hexadecimal_step}
use Rattle.dfdl_markup.specs.Machine.{number_step}
use Rattle.dfdl_markup.proofs.Sound.{SoundWithin, SoundFrames, SoundRoots, Sound}
use Rattle.dfdl_markup.proofs.Answers.{Live, Answer}
use Rattle.dfdl_markup.proofs.Moves.{at}
use Rattle.dfdl_markup.proofs.TagLive.{value_lives}
use Rattle.dfdl_markup.proofs.ReferenceForms.{standing, place_behind}
use Rattle.dfdl_markup.proofs.ReferenceSteps.{only_standing, behind_within}
use Rattle.dfdl_markup.proofs.ReferenceAnswers.{reference_step_answers, entity_step_answers}
use Rattle.dfdl_markup.proofs.ReferenceAnswers.{hash_step_answers, hexadecimal_step_answers}
use Rattle.dfdl_markup.proofs.ReferenceAnswers.{number_step_answers, reference_lives, entity_lives}
use Rattle.dfdl_markup.proofs.ReferenceAnswers.{hash_lives, hexadecimal_lives, number_lives}
use Rattle.dfdl_markup.proofs.ReferenceAnswers.{behind_in_content}

-- behind a reference the document can be ended
behind : (begun : ℕ) (frames : List Frame) (within : Within) → SoundFrames frames
    → SoundRoots begun frames → SoundWithin within begun frames → (d : ℕ)
    → Live (standing (place_behind within d) begun frames)
behind begun frames InContent sound roots inside d = behind_in_content begun frames sound roots d
behind begun frames (InValue v) sound roots inside d =
    let place = behind_within begun frames (InValue v) d inside in
    value_lives begun frames sound roots place.1 (with_text v (d ∷ []) false) place.0

-- the answers, and that the document can be ended, from any of the states there
module _ (ahead : Ahead) (begun : ℕ) (frames : List Frame) (within : Within) where
  pub reference_answers : (c : ℕ) → Sound (at ahead (AtReference within) begun frames)
      → Answer (at ahead (AtReference within) begun frames) c
      (reference_step (at ahead (AtReference within) begun frames) within c)
  reference_answers c sound =
      only_standing (λ s. Answer s c (reference_step s within c)) ahead (AtReference within) begun
      frames refl sound (λ s. reference_step_answers begun frames within
      (behind begun frames within s.frames s.roots s.place) c s)

  pub entity_answers : (name : List ℕ) (c : ℕ) → Sound
      (at ahead (AtEntity within name) begun frames)
      → Answer (at ahead (AtEntity within name) begun frames) c
      (entity_step (at ahead (AtEntity within name) begun frames) within name c)
  entity_answers name c sound =
      only_standing (λ s. Answer s c (entity_step s within name c)) ahead
      (AtEntity within name) begun
      frames refl sound (λ s. entity_step_answers begun frames within
      (behind begun frames within s.frames s.roots s.place.0) name c s)

  pub hash_answers : (c : ℕ) → Sound (at ahead (AtHash within) begun frames)
      → Answer (at ahead (AtHash within) begun frames) c
      (hash_step (at ahead (AtHash within) begun frames) within c)
  hash_answers c sound =
      only_standing (λ s. Answer s c (hash_step s within c)) ahead (AtHash within) begun frames refl
      sound (λ s. hash_step_answers begun frames within
      (behind begun frames within s.frames s.roots s.place) c s)

  pub hexadecimal_answers : (c : ℕ) → Sound (at ahead (AtHexadecimal within) begun frames)
      → Answer (at ahead (AtHexadecimal within) begun frames) c
      (hexadecimal_step (at ahead (AtHexadecimal within) begun frames) within c)
  hexadecimal_answers c sound =
      only_standing (λ s. Answer s c (hexadecimal_step s within c)) ahead
      (AtHexadecimal within) begun
      frames refl sound (λ s. hexadecimal_step_answers begun frames within
      (behind begun frames within s.frames s.roots s.place) c s)

  pub number_answers : (hexadecimal : Bool) (value c : ℕ)
      → Sound (at ahead (AtNumber within hexadecimal value) begun frames)
      → Answer (at ahead (AtNumber within hexadecimal value) begun frames) c
      (number_step (at ahead (AtNumber within hexadecimal value) begun frames) within hexadecimal
      value c)
  number_answers hexadecimal value c sound =
      only_standing (λ s. Answer s c (number_step s within hexadecimal value c)) ahead
      (AtNumber within hexadecimal value) begun frames refl sound
      (λ s. number_step_answers begun frames within
      (behind begun frames within s.frames s.roots s.place.0) hexadecimal value c s)

  pub reference_live : Sound (at ahead (AtReference within) begun frames)
      → Live (at ahead (AtReference within) begun frames)
  reference_live sound =
      only_standing Live ahead (AtReference within) begun frames refl sound
      (λ s. reference_lives begun frames within
      (behind begun frames within s.frames s.roots s.place) s)

  pub entity_live : (name : List ℕ) → Sound (at ahead (AtEntity within name) begun frames)
      → Live (at ahead (AtEntity within name) begun frames)
  entity_live name sound =
      only_standing Live ahead (AtEntity within name) begun frames refl sound
      (λ s. entity_lives begun frames within
      (behind begun frames within s.frames s.roots s.place.0) name s)

  pub hash_live : Sound (at ahead (AtHash within) begun frames)
      → Live (at ahead (AtHash within) begun frames)
  hash_live sound =
      only_standing Live ahead (AtHash within) begun frames refl sound
      (λ s. hash_lives begun frames within (behind begun frames within s.frames s.roots s.place) s)

  pub hexadecimal_live : Sound (at ahead (AtHexadecimal within) begun frames)
      → Live (at ahead (AtHexadecimal within) begun frames)
  hexadecimal_live sound =
      only_standing Live ahead (AtHexadecimal within) begun frames refl sound
      (λ s. hexadecimal_lives begun frames within
      (behind begun frames within s.frames s.roots s.place) s)

  pub number_live : (hexadecimal : Bool) (value : ℕ)
      → Sound (at ahead (AtNumber within hexadecimal value) begun frames)
      → Live (at ahead (AtNumber within hexadecimal value) begun frames)
  number_live hexadecimal value sound =
      only_standing Live ahead (AtNumber within hexadecimal value) begun frames refl sound
      (λ s. number_lives begun frames within
      (behind begun frames within s.frames s.roots s.place.0) hexadecimal value s)
