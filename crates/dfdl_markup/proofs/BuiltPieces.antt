-- Comments, processing instructions, end tags and the begin of a section stay in the tree as it is.
use Rattle.std.proofs.Common.{◌≡◌, ◌≢◌, ℕ, ◌==◌, Bool, true, false, List, [], ◌∷◌, ◌++◌}
use Rattle.std.proofs.Common.{if◌then◌else◌, Some, Ok, refl, ap₂, sym, subst, ◌∙◌, append_assoc}
use Rattle.std.proofs.Common.{arith}
use Rattle.std.proofs.lemmas.List.{append-nil}
use Rattle.std.proofs.lemmas.Bool.{ne_eqb}
use Rattle.std.proofs.lemmas.Slice.Eq.{bytes_eq-Decides}
use Rattle.dfdl_layers.specs.Tellers.{Each}
use Rattle.dfdl_xml_chars.specs.Characters.{is_name_start, is_name_char, low_start_rows}
use Rattle.dfdl_xml_chars.specs.Characters.{high_start_rows}
use Rattle.dfdl_markup.specs.Grammar.{is_white, Name, name_characters, section_word}
use Rattle.dfdl_markup.specs.Values.{same_name}
use Rattle.dfdl_markup.specs.Rules.{IsCommentText, HasNoMark, IsInstructionText, is_xml, IsTarget}
use Rattle.dfdl_markup.specs.Rules.{IsName, AreWhite}
use Rattle.dfdl_markup.specs.Machine.{Reading, First, whole_name, Place, AtContent, AtOpened}
use Rattle.dfdl_markup.specs.Machine.{AtBang, AtDash, AtComment, AtSectionWord, AtSection}
use Rattle.dfdl_markup.specs.Machine.{AtQuestion, AtTarget, AtTargetEnd, AtInstruction, AtEndTag}
use Rattle.dfdl_markup.specs.Machine.{AtEndName, AtEndSpace, Ahead, NothingAhead, Frame, State}
use Rattle.dfdl_markup.specs.Machine.{step, opened_step, bang_step, dash_step, comment_step}
use Rattle.dfdl_markup.specs.Machine.{section_word_step, question_step, target_step}
use Rattle.dfdl_markup.specs.Machine.{target_end_step, instruction_step, end_tag_step}
use Rattle.dfdl_markup.specs.Machine.{end_name_step, end_name_or, end_next, end_space_step}
use Rattle.dfdl_markup.specs.Building.{Leaves, effect_at}
use Rattle.dfdl_markup.proofs.RunSteps.{state, if_false, same_is}
use Rattle.dfdl_markup.proofs.RunNames.{EndsName, white_ends, end_marks, NameRead, name_read}
use Rattle.dfdl_markup.proofs.RunNames.{next_none}
use Rattle.dfdl_markup.proofs.BuiltSteps.{MayBe, Through, through_nothing, through_one}
use Rattle.dfdl_markup.proofs.BuiltSteps.{through_more, through_both}
use Rattle.dfdl_markup.proofs.BuiltNames.{next_apart, white_apart, InName, name_through, OverWhite}
use Rattle.dfdl_markup.proofs.BuiltNames.{white_through}
use Rattle.dfdl_markup.proofs.BuiltReferences.{if_false_may, if_true_may}

-- the marks behind a `<` begin no name
no_start_33 : is_name_start 33 ≡ false
unfolding is_name_start low_start_rows high_start_rows
no_start_33 = refl

-- how many `-` stand right before
abbrev dashes : Bool → ℕ
dashes true = 1
dashes false = 0

module _ (begun : ℕ) (frames : List Frame) where
  abbrev here : Place → State
  here place = state NothingAhead place begun frames

  bang_may : (ahead : Ahead) → MayBe (step (state ahead AtOpened begun frames) 33) (here AtBang)
  unfolding step opened_step
  bang_may ahead = if_false_may (is_name_start 33) _ _ _ no_start_33 refl

  pub question_may : (ahead : Ahead)
      → MayBe (step (state ahead AtOpened begun frames) 63) (state ahead AtQuestion begun frames)
  unfolding step opened_step
  question_may ahead = if_false_may (is_name_start 63) _ _ _ end_marks.question.no_start refl

  counted : (b : Bool)
      → MayBe (if b then Ok (here (AtComment 1)) else Ok (here (AtComment 0)))
      (here (AtComment (dashes b)))
  counted true = refl
  counted false = refl

  comment_more : (dash : Bool) (c : ℕ) → (dash ≡ true → c ≢ 45)
      → MayBe (step (here (AtComment (dashes dash))) c) (here (AtComment (dashes (c == 45))))
  unfolding step comment_step
  comment_more false c apart = counted (c == 45)
  comment_more true c apart = rw (ne_eqb c 45 (apart refl)) refl

  comment_end : Through (here (AtComment 0)) (45 ∷ 45 ∷ 62 ∷ []) (here (AtContent 0))
  unfolding step comment_step
  comment_end =
      through_more (here (AtComment 0)) (here (AtComment 1)) (here (AtContent 0)) 45 (45 ∷ 62 ∷ [])
      refl refl
      (through_more (here (AtComment 1)) (here (AtComment 2)) (here (AtContent 0)) 45 (62 ∷ []) refl
      refl
      (through_one (here (AtComment 2)) (here (AtContent 0)) 62 refl refl))

  comment_text : (dash : Bool) (text : List ℕ) → IsCommentText dash text
      → Through (here (AtComment (dashes dash))) (text ++ 45 ∷ 45 ∷ 62 ∷ []) (here (AtContent 0))
  comment_text dash [] is =
      subst (λ d. Through (here (AtComment (dashes d))) (45 ∷ 45 ∷ 62 ∷ []) (here (AtContent 0)))
      (sym is) comment_end
  comment_text dash (c ∷ text) is =
      through_more (here (AtComment (dashes dash))) (here (AtComment (dashes (c == 45))))
      (here (AtContent 0)) c (text ++ 45 ∷ 45 ∷ 62 ∷ []) (comment_more dash c is.0) refl
      (comment_text (c == 45) text is.1)

  pub comment_through : (ahead : Ahead) (text : List ℕ) → IsCommentText false text
      → Through (state ahead AtOpened begun frames) (33 ∷ 45 ∷ 45 ∷ (text ++ 45 ∷ 45 ∷ 62 ∷ []))
      (here (AtContent 0))
  unfolding step bang_step dash_step
  comment_through ahead text is =
      through_more (state ahead AtOpened begun frames) (here AtBang) (here (AtContent 0)) 33
      (45 ∷ 45 ∷ (text ++ 45 ∷ 45 ∷ 62 ∷ [])) (bang_may ahead) refl
      (through_more (here AtBang) (here AtDash) (here (AtContent 0)) 45
      (45 ∷ (text ++ 45 ∷ 45 ∷ 62 ∷ [])) refl refl
      (through_more (here AtDash) (here (AtComment 0)) (here (AtContent 0)) 45
      (text ++ 45 ∷ 45 ∷ 62 ∷ []) refl refl (comment_text false text is)))

  -- the text of a processing instruction behind its first white space
  instruction_more : (mark : Bool) (c : ℕ) → (mark ≡ true → c ≢ 62)
      → MayBe (step (here (AtInstruction mark)) c) (here (AtInstruction (c == 63)))
  unfolding step instruction_step
  instruction_more false c apart = refl
  instruction_more true c apart = rw (ne_eqb c 62 (apart refl)) refl

  instruction_end : (mark : Bool) → Through (here (AtInstruction mark)) (63 ∷ 62 ∷ [])
      (here (AtContent 0))
  unfolding step instruction_step
  instruction_end mark =
      through_more (here (AtInstruction mark)) (here (AtInstruction true)) (here (AtContent 0)) 63
      (62 ∷ [])
      (instruction_more mark 63 (λ e is. omega arith)) refl
      (through_one (here (AtInstruction true)) (here (AtContent 0)) 62 refl refl)

  instruction_text : (mark : Bool) (text : List ℕ) → HasNoMark mark text
      → Through (here (AtInstruction mark)) (text ++ 63 ∷ 62 ∷ []) (here (AtContent 0))
  instruction_text mark [] is = instruction_end mark
  instruction_text mark (c ∷ text) is =
      through_more (here (AtInstruction mark)) (here (AtInstruction (c == 63))) (here (AtContent 0))
      c
      (text ++ 63 ∷ 62 ∷ []) (instruction_more mark c is.0) refl
      (instruction_text (c == 63) text is.1)

  abbrev target_at : Ahead → List ℕ → State
  target_at ahead target = state ahead (AtTarget target) begun frames

  target_more : (ahead : Ahead) (target : List ℕ) (c : ℕ) → is_name_char c ≡ true
      → MayBe (step (target_at ahead target) c) (target_at ahead (target ++ c ∷ []))
  unfolding step target_step
  target_more ahead target c e = if_true_may (is_name_char c) _ _ _ e refl

  pub target_through : (ahead : Ahead) (target more : List ℕ)
      → Each (λ c. is_name_char c ≡ true) more
      → Through (target_at ahead target) more (target_at ahead (target ++ more))
  target_through ahead target [] are =
      subst (λ w. Through (target_at ahead target) [] (target_at ahead w)) (sym (append-nil target))
      (through_nothing (target_at ahead target))
  target_through ahead target (c ∷ more) are =
      subst (λ w. Through (target_at ahead target) (c ∷ more) (target_at ahead w))
      (append_assoc target (c ∷ []) more)
      (through_more (target_at ahead target) (target_at ahead (target ++ c ∷ []))
      (target_at ahead ((target ++ c ∷ []) ++ more)) c more (target_more ahead target c are.0) refl
      (target_through ahead (target ++ c ∷ []) more are.1))

  -- what stands behind a target
  target_text : (ahead : Ahead) (target text : List ℕ) → is_xml target ≡ false
      → IsInstructionText text
      → Through (target_at ahead target) (text ++ 63 ∷ 62 ∷ []) (here (AtContent 0))
  unfolding step target_step target_end_step is_white
  target_text ahead target [] no_xml is =
      through_more (target_at ahead target) (here AtTargetEnd) (here (AtContent 0)) 63 (62 ∷ [])
      (if_false_may (is_name_char 63) _ _ _ end_marks.question.no_char
      (if_false_may (is_xml target) _ _ _ no_xml refl)) refl
      (through_one (here AtTargetEnd) (here (AtContent 0)) 62 refl refl)
  target_text ahead target (w ∷ text) no_xml is =
      through_more (target_at ahead target) (here (AtInstruction false)) (here (AtContent 0)) w
      (text ++ 63 ∷ 62 ∷ [])
      (if_false_may (is_name_char w) _ _ _ (white_ends w is.0).no_char
      (if_true_may (is_white w) _ _ _ is.0 (if_false_may (is_xml target) _ _ _ no_xml refl))) refl
      (instruction_text false text is.1)

  pub target_begun : (ahead : Ahead) (c : ℕ) → is_name_start c ≡ true
      → MayBe (step (state ahead AtQuestion begun frames) c) (target_at ahead (c ∷ []))
  unfolding step question_step
  target_begun ahead c is = if_true_may (is_name_start c) _ _ _ is refl

  pub instruction_through : (ahead : Ahead) (target text : List ℕ) → IsTarget target
      → IsInstructionText text
      → Through (state ahead AtOpened begun frames) (63 ∷ (target ++ (text ++ 63 ∷ 62 ∷ [])))
      (here (AtContent 0))
  instruction_through ahead [] text is_target is = absurd is_target.0
  instruction_through ahead (c ∷ target) text is_target is =
      through_more (state ahead AtOpened begun frames) (state ahead AtQuestion begun frames)
      (here (AtContent 0)) 63 (c ∷ (target ++ (text ++ 63 ∷ 62 ∷ []))) (question_may ahead) refl
      (through_more (state ahead AtQuestion begun frames) (target_at ahead (c ∷ []))
      (here (AtContent 0)) c
      (target ++ (text ++ 63 ∷ 62 ∷ [])) (target_begun ahead c is_target.0.0) refl
      (through_both (target_at ahead (c ∷ [])) (target_at ahead (c ∷ target)) (here (AtContent 0))
      target
      (text ++ 63 ∷ 62 ∷ []) (target_through ahead (c ∷ []) target is_target.0.1)
      (target_text ahead (c ∷ target) text is_target.1 is)))

module _ (begun : ℕ) (frame : Frame) (outer : List Frame) where
  abbrev inner : Place → State
  inner place = state NothingAhead place begun (frame ∷ outer)

  -- the word of a section
  word_through : (w : ℕ) (left : List ℕ)
      → Through (inner (AtSectionWord (w ∷ left))) (w ∷ left) (inner (AtSection 0))
  unfolding step section_word_step
  word_through w [] =
      through_one (inner (AtSectionWord (w ∷ []))) (inner (AtSection 0)) w
      (if_true_may (w == w) _ _ _ (same_is w) refl) refl
  word_through w (v ∷ left) =
      through_more (inner (AtSectionWord (w ∷ v ∷ left))) (inner (AtSectionWord (v ∷ left)))
      (inner (AtSection 0)) w (v ∷ left) (if_true_may (w == w) _ _ _ (same_is w) refl) refl
      (word_through v left)

  section_word_through : Through (inner (AtSectionWord section_word)) section_word
      (inner (AtSection 0))
  unfolding section_word
  section_word_through = word_through 67 (68 ∷ 65 ∷ 84 ∷ 65 ∷ 91 ∷ [])

  pub section_begun : (ahead : Ahead)
      → Through (state ahead AtOpened begun (frame ∷ outer)) (33 ∷ 91 ∷ section_word)
      (inner (AtSection 0))
  unfolding step bang_step
  section_begun ahead =
      through_more (state ahead AtOpened begun (frame ∷ outer)) (inner AtBang) (inner (AtSection 0))
      33
      (91 ∷ section_word) (bang_may begun (frame ∷ outer) ahead) refl
      (through_more (inner AtBang) (inner (AtSectionWord section_word)) (inner (AtSection 0)) 91
      section_word refl refl section_word_through)

  -- a place where the end tag may end
  pub record MayLeave (place : Place) : Type 0 where
    pub white : OverWhite (inner place) (inner AtEndSpace)
    pub greater : MayBe (step (inner place) 62) (state NothingAhead (AtContent 0) begun outer)
    pub leaves : effect_at place (inner place) 62 ≡ Leaves

  space_white : (place : Place) (c : ℕ) → is_white c ≡ true
      → MayBe (end_space_step (inner place) c) (inner AtEndSpace)
  unfolding end_space_step
  space_white place c is = if_true_may (is_white c) _ _ _ is refl

  space_greater : (place : Place)
      → MayBe (end_space_step (inner place) 62) (state NothingAhead (AtContent 0) begun outer)
  unfolding end_space_step is_white
  space_greater place = refl

  space_may_leave : MayLeave AtEndSpace
  unfolding step
  space_may_leave = record {
    white = record {
      goes = space_white AtEndSpace;
      stays = λ c is. if_false (c == 62) _ _ (white_apart c is);
    };
    greater = space_greater AtEndSpace;
    leaves = refl;
  }

  end_step : (last : Reading) (name : Name) (c : ℕ) → whole_name last ≡ Some name → EndsName c
      → step (inner (AtEndName last [])) c ≡ end_space_step (inner (AtEndName last [])) c
  unfolding step end_name_step
  end_step last name c whole ends =
      ap₂ (λ next o. end_name_or next o (inner (AtEndName last [])) [] c)
      (next_none last name c whole ends) whole

  name_may_leave : (last : Reading) (name : Name) → whole_name last ≡ Some name
      → MayLeave (AtEndName last [])
  name_may_leave last name whole = record {
    white = record {
      goes = λ c is. subst (λ a. MayBe a (inner AtEndSpace))
          (sym (end_step last name c whole (white_ends c is)))
          (space_white (AtEndName last []) c is);
      stays = λ c is. if_false (c == 62) _ _ (white_apart c is);
    };
    greater = subst (λ a. MayBe a (state NothingAhead (AtContent 0) begun outer))
        (sym (end_step last name 62 whole end_marks.greater)) (space_greater (AtEndName last []));
    leaves = refl;
  }

  end_name : InName (λ reading left. inner (AtEndName reading left))
  unfolding step end_name_step
  end_name = record {
    goes = λ reading next c left is.
        subst (λ o. MayBe (end_name_or o (whole_name reading) (inner (AtEndName reading (c ∷ left)))
        (c ∷ left) c)
        (inner (AtEndName next left))) (sym is) (if_true_may (c == c) _ _ _ (same_is c) refl);
    stays = λ reading next c left is. if_false (c == 62) _ _ (next_apart reading next c is);
  }

  -- an end tag up to a place where it may end
  pub record EndRead (characters : List ℕ) : Type 0 where
    pub place : Place
    pub leave : MayLeave place
    pub through : Through (inner AtOpened) characters (inner place)

  end_begun : MayBe (step (inner AtOpened) 47) (inner AtEndTag)
  unfolding step opened_step
  end_begun = if_false_may (is_name_start 47) _ _ _ end_marks.slash.no_start refl

  first_may : (c : ℕ) (left : List ℕ) → is_name_start c ≡ true
      → c ∷ left ≡ name_characters frame.name
      → MayBe (step (inner AtEndTag) c) (inner (AtEndName (First (c ∷ [])) left))
  unfolding step end_tag_step
  first_may c left is want =
      if_true_may (is_name_start c) _ _ _ is
      (subst (λ w. MayBe (end_next (inner AtEndTag) (First (c ∷ [])) w c)
      (inner (AtEndName (First (c ∷ [])) left)))
      want (if_true_may (c == c) _ _ _ (same_is c) refl))

  name_to : (end : Name) (read : NameRead end) → name_characters end ≡ name_characters frame.name
      → Through (inner AtEndTag) (name_characters end) (inner (AtEndName read.last []))
  name_to end read same =
      subst (λ w. Through (inner AtEndTag) w (inner (AtEndName read.last []))) (sym read.is)
      (through_more (inner AtEndTag) (inner (AtEndName (First (read.first ∷ [])) read.more))
      (inner (AtEndName read.last [])) read.first read.more
      (first_may read.first read.more read.starts (sym read.is ∙ same)) refl
      (name_through (λ reading left. inner (AtEndName reading left)) end_name
      (First (read.first ∷ []))
      read.last read.more read.follows))

  record SpaceRead (from : Place) (space : List ℕ) : Type 0 where
    place : Place
    leave : MayLeave place
    through : Through (inner from) space (inner place)

  end_space : (place : Place) (space : List ℕ) → MayLeave place → AreWhite space
      → SpaceRead place space
  end_space place [] leave white =
      record { place = place; leave = leave; through = through_nothing (inner place) }
  end_space place (c ∷ space) leave white = record {
    place = AtEndSpace;
    leave = space_may_leave;
    through = through_more (inner place) (inner AtEndSpace) (inner AtEndSpace) c space
        (leave.white.goes c white.0) (leave.white.stays c white.0)
        (white_through (inner AtEndSpace) space_may_leave.white space white.1);
  }

  pub end_read : (end : Name) (space : List ℕ) → IsName end → AreWhite space
      → same_name end frame.name ≡ true → EndRead (47 ∷ (name_characters end ++ space))
  end_read end space is white same =
      let read : NameRead end = name_read end is in
      let alike : name_characters end ≡ name_characters frame.name =
      (bytes_eq-Decides (name_characters end) (name_characters frame.name)).0 same in
      let behind : SpaceRead (AtEndName read.last []) space =
      end_space (AtEndName read.last []) space (name_may_leave read.last end read.whole) white in
      record {
        place = behind.place;
        leave = behind.leave;
        through = through_more (inner AtOpened) (inner AtEndTag) (inner behind.place) 47
            (name_characters end ++ space) end_begun refl
            (through_both (inner AtEndTag) (inner (AtEndName read.last [])) (inner behind.place)
            (name_characters end) space (name_to end read alike) behind.through);
      }
