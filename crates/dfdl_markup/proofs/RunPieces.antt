-- The machine runs over comments, sections and processing instructions.
use Rattle.std.proofs.Common.{◌≡◌, ◌≢◌, ℕ, ◌==◌, ◌&&◌, Bool, true, false}
use Rattle.std.proofs.Common.{if◌then◌else◌, ◌⊎◌, List, [], ◌∷◌, ◌++◌, Result, Ok, refl, sym, ◌∙◌}
use Rattle.std.proofs.Common.{subst, inl, inr, arith, append_assoc}
use Rattle.std.proofs.lemmas.List.{append-nil}
use Rattle.std.proofs.lemmas.Bool.{cases_Bool, eqb-true, ne_eqb, and_left, and_right}
use Rattle.dfdl_layers.specs.Tellers.{Each, run}
use Rattle.dfdl_xml_chars.specs.Characters.{is_name_start, is_name_char}
use Rattle.dfdl_markup.specs.Grammar.{is_white, section_word}
use Rattle.dfdl_markup.specs.Rules.{IsCommentText, HasNoEnd, HasNoMark, IsInstructionText, is_xml}
use Rattle.dfdl_markup.specs.Rules.{IsTarget, brackets}
use Rattle.dfdl_markup.specs.Machine.{Place, AtContent, AtBang, AtComment}
use Rattle.dfdl_markup.specs.Machine.{AtSectionWord, AtSection, Ahead, NothingAhead, Frame, State}
use Rattle.dfdl_markup.specs.Machine.{step, bang_step, dash_step, comment_step}
use Rattle.dfdl_markup.specs.Machine.{section_word_step, section_step, AtQuestion, AtTarget}
use Rattle.dfdl_markup.specs.Machine.{AtTargetEnd, AtInstruction, question_step, target_step}
use Rattle.dfdl_markup.specs.Machine.{target_end_step, instruction_step}
use Rattle.dfdl_markup.proofs.RunNames.{white_ends, end_marks}
use Rattle.dfdl_markup.proofs.RunSteps.{Ends, state, RunsFrom, goes, if_true, if_false, same_is}

-- how many `-` stand right before
abbrev dashes : Bool → ℕ
dashes true = 1
dashes false = 0

module _ (n begun : ℕ) (frames : List Frame) where
  abbrev here : Place → State
  here place = state NothingAhead place begun frames

  abbrev to : Place → Result State ℕ
  to place = Ok (here place)

  counted : (b : Bool) → (if b then to (AtComment 1) else to (AtComment 0))
      ≡ to (AtComment (dashes b))
  counted true = refl
  counted false = refl

  comment_more : (dash : Bool) (c : ℕ) → (dash ≡ true → c ≢ 45)
      → step (here (AtComment (dashes dash))) c ≡ Ok (here (AtComment (dashes (c == 45))))
  unfolding step comment_step
  comment_more false c apart = counted (c == 45)
  comment_more true c apart = rw (ne_eqb c 45 (apart refl)) refl

  -- the text of a comment
  comment_text : (dash : Bool) (text tail : List ℕ) → IsCommentText dash text
      → RunsFrom n begun frames (AtComment 0) tail
      → RunsFrom n begun frames (AtComment (dashes dash)) (text ++ tail)
  comment_text dash [] tail is ends = rw is ends
  comment_text dash (c ∷ text) tail is ends =
      goes n (here (AtComment (dashes dash))) (here (AtComment (dashes (c == 45)))) c (text ++ tail)
      (comment_more dash c is.0) (comment_text (c == 45) text tail is.1 ends)

  pub comment_runs : (text tail : List ℕ) → IsCommentText false text
      → RunsFrom n begun frames (AtContent 0) tail
      → RunsFrom n begun frames AtBang (45 ∷ 45 ∷ (text ++ 45 ∷ 45 ∷ 62 ∷ tail))
  unfolding step bang_step dash_step comment_step
  comment_runs text tail is ends = comment_text false text (45 ∷ 45 ∷ 62 ∷ tail) is ends

  -- the word of a section
  section_word_runs : (w : ℕ) (left tail : List ℕ) → RunsFrom n begun frames (AtSection 0) tail
      → RunsFrom n begun frames (AtSectionWord (w ∷ left)) (w ∷ left ++ tail)
  unfolding step section_word_step
  section_word_runs w [] tail ends =
      goes n (here (AtSectionWord (w ∷ []))) (here (AtSection 0)) w tail
      (if_true (w == w) _ _ (same_is w)) ends
  section_word_runs w (v ∷ left) tail ends =
      goes n (here (AtSectionWord (w ∷ v ∷ left))) (here (AtSectionWord (v ∷ left))) w
      (v ∷ left ++ tail)
      (if_true (w == w) _ _ (same_is w)) (section_word_runs v left tail ends)

  -- its text
  section_more : (before c : ℕ) → (before ≡ 2 → c ≢ 62)
      → step (here (AtSection before)) c ≡ Ok (here (AtSection (brackets before c)))
  unfolding step section_step
  section_more before c apart =
      if_false (before == 2 && c == 62) _ _ (none (cases_Bool (before == 2)))
    where
      none : ((before == 2) ≡ true) ⊎ ((before == 2) ≡ false) → (before == 2 && c == 62) ≡ false
      none (inl e) = and_right (before == 2) (c == 62) (ne_eqb c 62 (apart (eqb-true before 2 e)))
      none (inr e) = and_left (before == 2) (c == 62) e

  section_end : (before : ℕ) (tail : List ℕ) → RunsFrom n begun frames (AtContent 0) tail
      → RunsFrom n begun frames (AtSection before) (93 ∷ 93 ∷ 62 ∷ tail)
  unfolding step section_step
  section_end before tail ends =
      goes n (here (AtSection before)) (here (AtSection (brackets before 93))) 93 (93 ∷ 62 ∷ tail)
      (section_more before 93 (λ e is. omega arith)) (second (cases_Bool (before == 0)))
    where
      second : ((before == 0) ≡ true) ⊎ ((before == 0) ≡ false)
          → RunsFrom n begun frames (AtSection (brackets before 93)) (93 ∷ 62 ∷ tail)
      second (inl e) = rw e ends
      second (inr e) = rw e ends

  section_text : (before : ℕ) (text tail : List ℕ) → HasNoEnd before text
      → RunsFrom n begun frames (AtContent 0) tail
      → RunsFrom n begun frames (AtSection before) (text ++ 93 ∷ 93 ∷ 62 ∷ tail)
  section_text before [] tail is ends = section_end before tail ends
  section_text before (c ∷ text) tail is ends =
      goes n (here (AtSection before)) (here (AtSection (brackets before c))) c
      (text ++ 93 ∷ 93 ∷ 62 ∷ tail)
      (section_more before c is.0) (section_text (brackets before c) text tail is.1 ends)

  pub section_runs : (text tail : List ℕ) → HasNoEnd 0 text
      → RunsFrom n begun frames (AtContent 0) tail
      → RunsFrom n begun frames (AtSectionWord section_word)
      (section_word ++ (text ++ 93 ∷ 93 ∷ 62 ∷ tail))
  unfolding section_word
  section_runs text tail is ends =
      section_word_runs 67 (68 ∷ 65 ∷ 84 ∷ 65 ∷ 91 ∷ []) (text ++ 93 ∷ 93 ∷ 62 ∷ tail)
      (section_text 0 text tail is ends)

  -- the text of a processing instruction behind its first white space
  instruction_more : (mark : Bool) (c : ℕ) → (mark ≡ true → c ≢ 62)
      → step (here (AtInstruction mark)) c ≡ Ok (here (AtInstruction (c == 63)))
  unfolding step instruction_step
  instruction_more false c apart = refl
  instruction_more true c apart = rw (ne_eqb c 62 (apart refl)) refl

  instruction_text : (mark : Bool) (text tail : List ℕ) → HasNoMark mark text
      → RunsFrom n begun frames (AtContent 0) tail
      → RunsFrom n begun frames (AtInstruction mark) (text ++ 63 ∷ 62 ∷ tail)
  unfolding step instruction_step
  instruction_text mark [] tail is ends =
      goes n (here (AtInstruction mark)) (here (AtInstruction true)) 63 (62 ∷ tail)
      (instruction_more mark 63 (λ e is. omega arith)) ends
  instruction_text mark (c ∷ text) tail is ends =
      goes n (here (AtInstruction mark)) (here (AtInstruction (c == 63))) c (text ++ 63 ∷ 62 ∷ tail)
      (instruction_more mark c is.0) (instruction_text (c == 63) text tail is.1 ends)

  -- a target, where the document may still be declared or not
  target_more : (ahead : Ahead) (target : List ℕ) (c : ℕ) → is_name_char c ≡ true
      → step (state ahead (AtTarget target) begun frames) c
      ≡ Ok (state ahead (AtTarget (target ++ c ∷ [])) begun frames)
  unfolding step target_step
  target_more ahead target c e = if_true (is_name_char c) _ _ e

  pub target_runs : (ahead : Ahead) (target more tail : List ℕ)
      → Each (λ c. is_name_char c ≡ true) more
      → Ends n (run step (state ahead (AtTarget (target ++ more)) begun frames) tail)
      → Ends n (run step (state ahead (AtTarget target) begun frames) (more ++ tail))
  target_runs ahead target [] tail are ends =
      subst (λ w. Ends n (run step (state ahead (AtTarget w) begun frames) tail))
      (append-nil target) ends
  target_runs ahead target (c ∷ more) tail are ends =
      goes n (state ahead (AtTarget target) begun frames)
      (state ahead (AtTarget (target ++ c ∷ [])) begun frames) c (more ++ tail)
      (target_more ahead target c are.0)
      (target_runs ahead (target ++ c ∷ []) more tail are.1
      (subst (λ w. Ends n (run step (state ahead (AtTarget w) begun frames) tail))
      (sym (append_assoc target (c ∷ []) more)) ends))

  -- what stands behind a target
  target_text : (ahead : Ahead) (target text tail : List ℕ) → is_xml target ≡ false
      → IsInstructionText text → RunsFrom n begun frames (AtContent 0) tail
      → Ends n (run step (state ahead (AtTarget target) begun frames) (text ++ 63 ∷ 62 ∷ tail))
  unfolding step target_step target_end_step is_white
  target_text ahead target [] tail no_xml is ends =
      goes n (state ahead (AtTarget target) begun frames) (here AtTargetEnd) 63 (62 ∷ tail)
      (if_false (is_name_char 63) _ _ end_marks.question.no_char
      ∙ if_false (is_xml target) _ _ no_xml)
      ends
  target_text ahead target (w ∷ text) tail no_xml is ends =
      goes n (state ahead (AtTarget target) begun frames) (here (AtInstruction false)) w
      (text ++ 63 ∷ 62 ∷ tail)
      (if_false (is_name_char w) _ _ (white_ends w is.0).no_char
      ∙ if_true (is_white w) _ _ is.0 ∙ if_false (is_xml target) _ _ no_xml)
      (instruction_text false text tail is.1 ends)

  pub instruction_runs : (ahead : Ahead) (target text tail : List ℕ) → IsTarget target
      → IsInstructionText text → RunsFrom n begun frames (AtContent 0) tail
      → Ends n (run step (state ahead AtQuestion begun frames) (target ++ (text ++ 63 ∷ 62 ∷ tail)))
  unfolding step question_step
  instruction_runs ahead [] text tail is_target is ends = absurd is_target.0
  instruction_runs ahead (c ∷ target) text tail is_target is ends =
      goes n (state ahead AtQuestion begun frames) (state ahead (AtTarget (c ∷ [])) begun frames) c
      (target ++ (text ++ 63 ∷ 62 ∷ tail)) (if_true (is_name_start c) _ _ is_target.0.0)
      (target_runs ahead (c ∷ []) target (text ++ 63 ∷ 62 ∷ tail) is_target.0.1
      (target_text ahead (c ∷ target) text tail is_target.1 is ends))
