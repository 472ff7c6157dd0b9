-- The machine reads the characters of documents, and tells at each that it refuses the rule that is
-- broken.
use Rattle.std.proofs.Common.{◌≡◌, ℕ, ◌<◌, List, [], ◌∷◌, refl, subst}
use Rattle.std.proofs.Common.{arith, Result, Ok, Err, nat_le, inl, inr}
use Rattle.std.proofs.lemmas.Bool.{cases_Bool}
use Rattle.std.proofs.lemmas.Bool.Decides.{nat_tests}
use Rattle.dfdl_markup.specs.Rules.{deepest}
use Rattle.std.specs.Char.{IsScalar}
use Rattle.dfdl_layers.specs.Tellers.{Each, IsTeller}
use Rattle.dfdl_layers.specs.Allowed.{GoodAllowed}
use Rattle.dfdl_xml_chars.specs.Characters.{is_allowed}
use Rattle.dfdl_xml_chars.specs.DocumentReading.{ReadsCharacters}
use Rattle.dfdl_markup.specs.Machine.{Ahead, Frame, Place, AtContent}
use Rattle.dfdl_markup.specs.Machine.{AtOpened, AtBang, AtDash, AtComment, AtSectionWord, AtSection}
use Rattle.dfdl_markup.specs.Machine.{AtQuestion, AtTarget, AtTargetEnd, AtInstruction, AtTagName}
use Rattle.dfdl_markup.specs.Machine.{AtTag, AtAttributeName, AtNamed, AtEquals, AtValue, AtSlash}
use Rattle.dfdl_markup.specs.Machine.{AtEndTag, AtEndName, AtEndSpace, AtReference, AtEntity, AtHash}
use Rattle.dfdl_markup.specs.Machine.{AtHexadecimal, AtNumber, AtDeclaration, AtSaidWord, AtSaid}
use Rattle.dfdl_markup.specs.Machine.{AtSaidEquals, AtSaidValue, AtDeclarationEnd, State, start, step}
use Rattle.dfdl_markup.specs.Machine.{step_at, accepts, beyond}
use Rattle.dfdl_markup.proofs.Rest.{Rest}
use Rattle.dfdl_markup.proofs.Sound.{Sound}
use Rattle.dfdl_markup.proofs.Answers.{Good, Answer, Leads, Told, Live}
use Rattle.dfdl_markup.proofs.Moves.{at}
use Rattle.dfdl_markup.proofs.ContentAnswers.{opened_answers, content_answers, content_live}
use Rattle.dfdl_markup.proofs.ContentAnswers.{content_done}
use Rattle.dfdl_markup.proofs.ContentComments.{bang_answers, dash_answers, comment_answers}
use Rattle.dfdl_markup.proofs.ContentComments.{opened_live, bang_live, dash_live, comment_live}
use Rattle.dfdl_markup.proofs.ContentSections.{section_word_answers, section_answers}
use Rattle.dfdl_markup.proofs.ContentSections.{section_word_live, section_live}
use Rattle.dfdl_markup.proofs.ContentInstructions.{question_answers, target_answers}
use Rattle.dfdl_markup.proofs.ContentInstructions.{target_end_answers, instruction_answers}
use Rattle.dfdl_markup.proofs.ContentInstructions.{question_live, target_live, target_end_live}
use Rattle.dfdl_markup.proofs.ContentInstructions.{instruction_live}
use Rattle.dfdl_markup.proofs.ContentEnds.{end_tag_answers, end_name_answers, end_space_answers}
use Rattle.dfdl_markup.proofs.ContentEnds.{end_tag_live, end_name_live, end_space_live}
use Rattle.dfdl_markup.proofs.TagAnswers.{tag_answers, tag_name_answers, slash_answers, slash_live}
use Rattle.dfdl_markup.proofs.TagAttributes.{attribute_name_answers, named_answers, equals_answers}
use Rattle.dfdl_markup.proofs.TagValueAnswers.{value_answers}
use Rattle.dfdl_markup.proofs.TagPlaces.{tag_name_live, attribute_name_live, named_live, equals_live}
use Rattle.dfdl_markup.proofs.TagLive.{tag_live, value_live}
use Rattle.dfdl_markup.proofs.ReferencePlaces.{reference_answers, entity_answers, hash_answers}
use Rattle.dfdl_markup.proofs.ReferencePlaces.{hexadecimal_answers, number_answers}
use Rattle.dfdl_markup.proofs.ReferencePlaces.{reference_live, entity_live, hash_live}
use Rattle.dfdl_markup.proofs.ReferencePlaces.{hexadecimal_live, number_live}
use Rattle.dfdl_markup.proofs.DeclarationAnswers.{declaration_answers, said_word_answers}
use Rattle.dfdl_markup.proofs.DeclarationAnswers.{said_answers, said_equals_answers}
use Rattle.dfdl_markup.proofs.DeclarationAnswers.{said_value_answers, declaration_end_answers}
use Rattle.dfdl_markup.proofs.DeclarationAnswers.{declaration_live, said_word_live, said_live}
use Rattle.dfdl_markup.proofs.DeclarationAnswers.{said_equals_live, said_value_live}
use Rattle.dfdl_markup.proofs.DeclarationAnswers.{declaration_end_live}
use Rattle.dfdl_markup.proofs.Foresight.{fits, does}
use Rattle.dfdl_markup.proofs.Runs.{document_keeps, document_full}

answers_at : (place : Place) (ahead : Ahead) (begun : ℕ) (frames : List Frame) (c : ℕ)
    → Sound (at ahead place begun frames)
    → Answer (at ahead place begun frames) c (step_at place (at ahead place begun frames) c)
answers_at (AtContent before) ahead begun frames c sound =
    content_answers ahead before begun frames c sound
answers_at AtOpened ahead begun frames c sound = opened_answers ahead begun frames c sound
answers_at AtBang ahead begun frames c sound = bang_answers ahead begun frames c sound
answers_at AtDash ahead begun frames c sound = dash_answers ahead begun frames c sound
answers_at (AtComment dashes) ahead begun frames c sound =
    comment_answers ahead dashes begun frames c sound
answers_at (AtSectionWord left) ahead begun frames c sound =
    section_word_answers ahead left begun frames c sound
answers_at (AtSection before) ahead begun frames c sound =
    section_answers ahead before begun frames c sound
answers_at AtQuestion ahead begun frames c sound =
    question_answers ahead begun frames c sound
answers_at (AtTarget target) ahead begun frames c sound =
    target_answers ahead target begun frames c sound
answers_at AtTargetEnd ahead begun frames c sound =
    target_end_answers ahead begun frames c sound
answers_at (AtInstruction mark) ahead begun frames c sound =
    instruction_answers ahead mark begun frames c sound
answers_at (AtTagName reading) ahead begun frames c sound =
    tag_name_answers ahead begun frames reading c sound
answers_at (AtTag tag spaced) ahead begun frames c sound =
    tag_answers ahead begun frames tag spaced c sound
answers_at (AtAttributeName tag reading) ahead begun frames c sound =
    attribute_name_answers ahead begun frames tag reading c sound
answers_at (AtNamed tag name) ahead begun frames c sound =
    named_answers ahead begun frames tag name c sound
answers_at (AtEquals tag name) ahead begun frames c sound =
    equals_answers ahead begun frames tag name c sound
answers_at (AtValue v) ahead begun frames c sound = value_answers ahead begun frames v c sound
answers_at (AtSlash tag) ahead begun frames c sound =
    slash_answers ahead begun frames tag c sound
answers_at AtEndTag ahead begun frames c sound =
    end_tag_answers ahead begun frames c sound
answers_at (AtEndName reading left) ahead begun frames c sound =
    end_name_answers ahead reading left begun frames c sound
answers_at AtEndSpace ahead begun frames c sound =
    end_space_answers ahead begun frames c sound
answers_at (AtReference within) ahead begun frames c sound =
    reference_answers ahead begun frames within c sound
answers_at (AtEntity within name) ahead begun frames c sound =
    entity_answers ahead begun frames within name c sound
answers_at (AtHash within) ahead begun frames c sound =
    hash_answers ahead begun frames within c sound
answers_at (AtHexadecimal within) ahead begun frames c sound =
    hexadecimal_answers ahead begun frames within c sound
answers_at (AtNumber within hexadecimal value) ahead begun frames c sound =
    number_answers ahead begun frames within hexadecimal value c sound
answers_at (AtDeclaration last spaced) ahead begun frames c sound =
    declaration_answers ahead begun frames last spaced c sound
answers_at (AtSaidWord said left) ahead begun frames c sound =
    said_word_answers ahead begun frames said left c sound
answers_at (AtSaid said) ahead begun frames c sound =
    said_answers ahead begun frames said c sound
answers_at (AtSaidEquals said) ahead begun frames c sound =
    said_equals_answers ahead begun frames said c sound
answers_at (AtSaidValue said quote read) ahead begun frames c sound =
    said_value_answers ahead begun frames said quote read c sound
answers_at AtDeclarationEnd ahead begun frames c sound =
    declaration_end_answers ahead begun frames c sound

lives_at : (place : Place) (ahead : Ahead) (begun : ℕ) (frames : List Frame)
    → Sound (at ahead place begun frames) → Live (at ahead place begun frames)
lives_at (AtContent before) ahead begun frames sound = content_live ahead before begun frames sound
lives_at AtOpened ahead begun frames sound = opened_live ahead begun frames sound
lives_at AtBang ahead begun frames sound = bang_live ahead begun frames sound
lives_at AtDash ahead begun frames sound = dash_live ahead begun frames sound
lives_at (AtComment dashes) ahead begun frames sound = comment_live ahead dashes begun frames sound
lives_at (AtSectionWord left) ahead begun frames sound =
    section_word_live ahead left begun frames sound
lives_at (AtSection before) ahead begun frames sound = section_live ahead before begun frames sound
lives_at AtQuestion ahead begun frames sound = question_live ahead begun frames sound
lives_at (AtTarget target) ahead begun frames sound = target_live ahead target begun frames sound
lives_at AtTargetEnd ahead begun frames sound = target_end_live ahead begun frames sound
lives_at (AtInstruction mark) ahead begun frames sound =
    instruction_live ahead mark begun frames sound
lives_at (AtTagName reading) ahead begun frames sound =
    tag_name_live ahead begun frames reading sound
lives_at (AtTag tag spaced) ahead begun frames sound = tag_live ahead begun frames tag spaced sound
lives_at (AtAttributeName tag reading) ahead begun frames sound =
    attribute_name_live ahead begun frames tag reading sound
lives_at (AtNamed tag name) ahead begun frames sound = named_live ahead begun frames tag name sound
lives_at (AtEquals tag name) ahead begun frames sound =
    equals_live ahead begun frames tag name sound
lives_at (AtValue v) ahead begun frames sound = value_live ahead begun frames v sound
lives_at (AtSlash tag) ahead begun frames sound = slash_live ahead begun frames tag sound
lives_at AtEndTag ahead begun frames sound = end_tag_live ahead begun frames sound
lives_at (AtEndName reading left) ahead begun frames sound =
    end_name_live ahead reading left begun frames sound
lives_at AtEndSpace ahead begun frames sound = end_space_live ahead begun frames sound
lives_at (AtReference within) ahead begun frames sound =
    reference_live ahead begun frames within sound
lives_at (AtEntity within name) ahead begun frames sound =
    entity_live ahead begun frames within name sound
lives_at (AtHash within) ahead begun frames sound =
    hash_live ahead begun frames within sound
lives_at (AtHexadecimal within) ahead begun frames sound =
    hexadecimal_live ahead begun frames within sound
lives_at (AtNumber within hexadecimal value) ahead begun frames sound =
    number_live ahead begun frames within hexadecimal value sound
lives_at (AtDeclaration last spaced) ahead begun frames sound =
    declaration_live ahead begun frames last spaced sound
lives_at (AtSaidWord said left) ahead begun frames sound =
    said_word_live ahead begun frames said left sound
lives_at (AtSaid said) ahead begun frames sound = said_live ahead begun frames said sound
lives_at (AtSaidEquals said) ahead begun frames sound =
    said_equals_live ahead begun frames said sound
lives_at (AtSaidValue said quote read) ahead begun frames sound =
    said_value_live ahead begun frames said quote read sound
lives_at AtDeclarationEnd ahead begun frames sound = declaration_end_live ahead begun frames sound

answers : (s : State) (c : ℕ) → Sound s → Answer s c (step s c)
unfolding step
answers s c sound = answers_at s.place s.ahead s.begun s.frames c sound

lives : (s : State) → Sound s → Live s
lives s sound = lives_at s.place s.ahead s.begun s.frames sound

leads_by : (s t : State) (c : ℕ) (o : Result State ℕ) → Answer s c o → o ≡ Ok t → Leads s c t
leads_by s t c (Ok u) answer is = let same : u ≡ t = cc in subst (λ v. Leads s c v) same answer
leads_by s t c (Err m) answer is = absurd cc

told_by : (s : State) (c m : ℕ) (o : Result State ℕ) → Answer s c o → o ≡ Err m → 3 < m → Told m s c
told_by s c m (Ok u) answer is more = absurd cc
told_by s c m (Err k) answer is more =
    let same : k ≡ m = cc in subst (λ v. Told v s c) same (answer.2 (omega (arith, same)))

begins : Sound start
unfolding start deepest
begins = record {
  frames = (tt, omega arith);
  roots = omega arith;
  ahead = (refl, refl, refl);
  place = refl;
}

-- the answer of a rule, or nothing where it is among those of the form
tells : (s : State) (c m : ℕ) → Sound s → Good c → step s c ≡ Err m
    → (more : List ℕ) × Each Good more × Rest m s (c ∷ more)
tells s c m sound good is = elim (cases_Bool (nat_le m 3)) [
  | inl few ↦ ([], tt, λ more. absurd (grind (arith, nat_tests, few)))
  | inr many ↦ (
      let told = told_by s c m (step s c) (answers s c sound) is (grind (arith, nat_tests, many)) in
      (told.more, told.good, λ more. told.from))
]

teller : IsTeller step start accepts 13 (GoodAllowed is_allowed IsScalar) Sound Rest
teller = record {
  begins = begins;
  goes = λ s t c sound is. (leads_by s t c (step s c) (answers s c sound) is).sound;
  back = λ n s t c text sound is rest more.
      (leads_by s t c (step s c) (answers s c sound) is).back n text (rest more);
  done = content_done;
  live = λ s sound. let live = lives s sound in (live.more, live.good, λ more. live.from 13);
  tells = tells;
  keeps = document_keeps;
  full = document_full;
}

-- the machine reads characters, tells each rule, and does what is said with those past ASCII
pub reads : ReadsCharacters step start accepts 13 Sound Rest beyond
reads = record {
  teller = teller;
  free = λ n s characters few more. absurd (omega arith);
  fits = fits;
  does = does;
}
