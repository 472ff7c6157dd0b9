-- What a character past ASCII does in a content, and in pieces of markup that have no attributes.
use Rattle.std.proofs.Common.{◌≡◌, ℕ, suc, ◌≤◌, ◌==◌, ◌&&◌, Bool, true, false, List, [], ◌∷◌, ◌++◌}
use Rattle.std.proofs.Common.{Option, Some, None, Result, Ok, Err, if◌then◌else◌, refl, sym, ap}
use Rattle.std.proofs.Common.{subst, ◌∙◌, arith, eq-eqb, ne_eqb}
use Rattle.std.proofs.lemmas.Bool.{cond_both, cond-true, cond-false, and_right}
use Rattle.dfdl_xml_chars.specs.Characters.{is_name_start, is_name_char, high_start_rows}
use Rattle.dfdl_xml_chars.specs.Characters.{high_name_rows}
use Rattle.dfdl_xml_chars.specs.Beyond.{All, Only, Does, GoesOn}
use Rattle.dfdl_xml_chars.proofs.Tables.{high_start, high_char}
use Rattle.dfdl_markup.specs.Grammar.{is_white, section_word}
use Rattle.dfdl_markup.specs.Rules.{brackets, is_xml}
use Rattle.dfdl_markup.specs.Machine.{State, Frame, Ahead, MarkAhead, DeclarationAhead}
use Rattle.dfdl_markup.specs.Machine.{NothingAhead, AtContent, AtBang, AtComment, AtSection}
use Rattle.dfdl_markup.specs.Machine.{AtQuestion, AtTarget, AtTargetEnd, AtInstruction, AtTagName}
use Rattle.dfdl_markup.specs.Machine.{AtEndTag, First, go, stand, marked, top_step, content_by}
use Rattle.dfdl_markup.specs.Machine.{content_step, may_begin, begin_by, inside, opened_step}
use Rattle.dfdl_markup.specs.Machine.{bang_step, dash_step, comment_step, section_word_step}
use Rattle.dfdl_markup.specs.Machine.{section_step, question_step, target_ended, target_step}
use Rattle.dfdl_markup.specs.Machine.{target_end_step, instruction_step, refuses, beyond_top}
use Rattle.dfdl_markup.specs.Machine.{beyond_content, beyond_opened, beyond_comment}
use Rattle.dfdl_markup.proofs.ReferenceEntities.{is_plain}
use Rattle.dfdl_markup.proofs.ForesightForms.{apart, not_white, does_only, does_never}
use Rattle.dfdl_markup.proofs.ForesightPieces.{plain_first}

section_plain : is_plain section_word ≡ true
unfolding section_word
section_plain = refl

module _ (s : State) (c : ℕ) (high : 128 ≤ c) where
  top_rest : (ahead : Ahead)
      → Does (beyond_top ahead) c (if c == 0xFEFF then marked s ahead else Err 10)
  top_rest MarkAhead = (
    λ is. (
      record {
        ahead = DeclarationAhead;
        place = AtContent 0;
        begun = s.begun;
        frames = s.frames;
      },
      cond-true (c == 0xFEFF) _ _ (eq-eqb c 0xFEFF is),
    ),
    λ other. cond-false (c == 0xFEFF) _ _ (ne_eqb c 0xFEFF other),
  )
  top_rest DeclarationAhead =
      cond_both (c == 0xFEFF) (Err 10) (Err 10) (λ (r : Result State ℕ). r ≡ Err 10) (λ _. refl)
      (λ _. refl)
  top_rest NothingAhead =
      cond_both (c == 0xFEFF) (Err 10) (Err 10) (λ (r : Result State ℕ). r ≡ Err 10) (λ _. refl)
      (λ _. refl)

  top_is : top_step s c ≡ (if c == 0xFEFF then marked s s.ahead else Err 10)
  top_is =
      cond-false (c == 60) _ _ (apart c 60 high (omega arith))
      ∙ cond-false (is_white c) _ _ (not_white c high)

  not_end : (before : ℕ) → (before == 2 && c == 62) ≡ false
  not_end before = and_right (before == 2) (c == 62) (apart c 62 high (omega arith))

  by_frames : (frames : List Frame) (before : ℕ)
      → Does (beyond_content frames s.ahead) c (content_by frames s before c)
  by_frames [] before = subst (λ r. Does (beyond_top s.ahead) c r) (sym top_is) (top_rest s.ahead)
  by_frames (frame ∷ frames) before = (
    stand s (AtContent (brackets before c)),
    cond-false (c == 60) _ _ (apart c 60 high (omega arith))
        ∙ (cond-false (c == 38) _ _ (apart c 38 high (omega arith))
        ∙ cond-false (before == 2 && c == 62) _ _ (not_end before)),
  )

  pub content_does : (before : ℕ) → Does (beyond_content s.frames s.ahead) c
      (content_step s before c)
  unfolding content_step
  content_does before = by_frames s.frames before

  no_markup : (if c == 47 then inside s.frames s AtEndTag
      else (if c == 33 then Ok (stand s AtBang) else
      (if c == 63 then Ok (go s AtQuestion) else Err 3)))
      ≡ Err 3
  no_markup =
      cond-false (c == 47) _ _ (apart c 47 high (omega arith))
      ∙ (cond-false (c == 33) _ _ (apart c 33 high (omega arith))
      ∙ cond-false (c == 63) _ _ (apart c 63 high (omega arith)))

  opened_by : (o : Option ℕ)
      → Does (beyond_opened o) c
      (if is_name_start c then begin_by o s c
      else (if c == 47 then inside s.frames s AtEndTag
      else (if c == 33 then Ok (stand s AtBang)
      else (if c == 63 then Ok (go s AtQuestion) else Err 3))))
  opened_by None =
      does_only high_start_rows 3 c
      (if is_name_start c then begin_by None s c
      else (if c == 47 then inside s.frames s AtEndTag
      else (if c == 33 then Ok (stand s AtBang)
      else (if c == 63 then Ok (go s AtQuestion) else Err 3)))) (is_name_start c)
      (high_start c high)
      (λ is. (stand s (AtTagName (First (c ∷ []))), cond-true (is_name_start c) _ _ is))
      (λ is. cond-false (is_name_start c) _ _ is ∙ no_markup)
  opened_by (Some rule) =
      does_never high_start_rows rule 3 c
      (if is_name_start c then begin_by (Some rule) s c
      else (if c == 47 then inside s.frames s AtEndTag
      else (if c == 33 then Ok (stand s AtBang)
      else (if c == 63 then Ok (go s AtQuestion) else Err 3)))) (is_name_start c)
      (high_start c high)
      (λ is. cond-true (is_name_start c) _ _ is)
      (λ is. cond-false (is_name_start c) _ _ is ∙ no_markup)

  pub opened_does : Does (beyond_opened (may_begin s.begun s.frames)) c (opened_step s c)
  unfolding opened_step
  opened_does = opened_by (may_begin s.begun s.frames)

  pub bang_does : bang_step s c ≡ Err 3
  unfolding bang_step
  bang_does =
      cond-false (c == 45) _ _ (apart c 45 high (omega arith))
      ∙ cond-false (c == 91) _ _ (apart c 91 high (omega arith))

  pub dash_does : dash_step s c ≡ Err 3
  unfolding dash_step
  dash_does = cond-false (c == 45) _ _ (apart c 45 high (omega arith))

  comment_by : (test : Bool) (dashes : ℕ)
      → Does (if test then refuses else All) c
      (if test then (if c == 62 then Ok (stand s (AtContent 0)) else Err 3)
      else (if c == 45 then Ok (stand s (AtComment (suc dashes)))
      else Ok (stand s (AtComment 0))))
  comment_by true dashes = cond-false (c == 62) _ _ (apart c 62 high (omega arith))
  comment_by false dashes =
      (stand s (AtComment 0), cond-false (c == 45) _ _ (apart c 45 high (omega arith)))

  pub comment_does : (dashes : ℕ) → Does (beyond_comment dashes) c (comment_step s dashes c)
  unfolding comment_step
  comment_does dashes = comment_by (dashes == 2) dashes

  pub section_word_does : (left : List ℕ) → (word : List ℕ) × (word ++ left ≡ section_word)
      → section_word_step s left c ≡ Err 3
  unfolding section_word_step
  section_word_does [] part = refl
  section_word_does (w ∷ left) part =
      cond-false (c == w) _ _
      (apart c w high (plain_first part.0 left w (ap is_plain part.1 ∙ section_plain)))

  pub section_does : (before : ℕ) → GoesOn (section_step s before c)
  unfolding section_step
  section_does before = (
    stand s (AtSection (brackets before c)),
    cond-false (before == 2 && c == 62) _ _
        (not_end before),
  )

  pub question_does : Does (Only high_start_rows 3) c (question_step s c)
  unfolding question_step
  question_does =
      does_only high_start_rows 3 c
      (if is_name_start c then Ok (go s (AtTarget (c ∷ []))) else Err 3) (is_name_start c)
      (high_start c high) (λ is. (go s (AtTarget (c ∷ [])), cond-true (is_name_start c) _ _ is))
      (λ is. cond-false (is_name_start c) _ _ is)

  pub target_does : (target : List ℕ) → Does (Only high_name_rows 3) c (target_step s target c)
  unfolding target_step
  target_does target =
      does_only high_name_rows 3 c
      (if is_name_char c then Ok (go s (AtTarget (target ++ c ∷ [])))
      else (if is_white c then target_ended s target
      else (if c == 63 then
      (if is_xml target then Err 3 else Ok (stand s AtTargetEnd)) else Err 3)))
      (is_name_char c) (high_char c high)
      (λ is. (go s (AtTarget (target ++ c ∷ [])), cond-true (is_name_char c) _ _ is))
      (λ is. cond-false (is_name_char c) _ _ is
      ∙ (cond-false (is_white c) _ _ (not_white c high)
      ∙ cond-false (c == 63) _ _ (apart c 63 high (omega arith))))

  pub target_end_does : target_end_step s c ≡ Err 3
  unfolding target_end_step
  target_end_does = cond-false (c == 62) _ _ (apart c 62 high (omega arith))

  pub instruction_does : (mark : Bool) → GoesOn (instruction_step s mark c)
  unfolding instruction_step
  instruction_does mark = (
    stand s (AtInstruction (c == 63)),
    cond-false (mark && c == 62) _ _ (and_right mark (c == 62) (apart c 62 high (omega arith))),
  )
