-- The machine runs over contents.
use Rattle.std.proofs.Common.{◌≡◌, ◌≢◌, ℕ, suc, ◌+◌, ◌==◌, ◌<◌, ◌&&◌, ◌⊎◌, true, false}
use Rattle.std.proofs.Common.{if◌then◌else◌, List, [], ◌∷◌, ◌++◌, length, Some, None, Ok}
use Rattle.std.proofs.Common.{Err, not, refl, sym, ◌∙◌, subst, inl, inr, arith, append_assoc}
use Rattle.std.proofs.Common.{nat_lt}
use Rattle.std.proofs.lemmas.Bool.{cases_Bool, eqb-true, eqb-false, ne_eqb, and_parts, and_left}
use Rattle.std.proofs.lemmas.Bool.{and_right, both_ways, not-true, lt-ltb}
use Rattle.dfdl_layers.specs.Tellers.{run}
use Rattle.dfdl_xml_chars.specs.Characters.{is_name_start, low_start_rows, high_start_rows}
use Rattle.dfdl_markup.specs.Grammar.{is_white, Name, name_characters, Reference}
use Rattle.dfdl_markup.specs.Grammar.{reference_characters, Tag, tag_characters, Content, Nothing}
use Rattle.dfdl_markup.specs.Grammar.{Character, Referring, Comment, Instruction, Section, Single}
use Rattle.dfdl_markup.specs.Grammar.{Nested, section_word, spelling}
use Rattle.dfdl_markup.specs.Rules.{is_text, brackets, deepest, attributes_of}
use Rattle.dfdl_markup.specs.Rules.{ContentKeeps, roots, ReferenceKeeps}
use Rattle.dfdl_markup.specs.Machine.{StartTag, InContent, AtContent, AtOpened, AtBang}
use Rattle.dfdl_markup.specs.Machine.{AtQuestion, AtSectionWord, Ahead, MarkAhead}
use Rattle.dfdl_markup.specs.Machine.{DeclarationAhead, NothingAhead, Frame, step, marked}
use Rattle.dfdl_markup.specs.Machine.{content_step, scope_of, may_begin, opened_step, bang_step}
use Rattle.dfdl_markup.specs.Machine.{begun_by, frame_of}
use Rattle.dfdl_markup.proofs.RunEnds.{closing_runs}
use Rattle.dfdl_markup.proofs.RunNames.{white_is}
use Rattle.dfdl_markup.proofs.RunPieces.{comment_runs, section_runs, instruction_runs}
use Rattle.dfdl_markup.proofs.RunReferences.{reference_runs}
use Rattle.dfdl_markup.proofs.RunSteps.{Ends, After, state, RunsFrom, goes, not_under, if_true}
use Rattle.dfdl_markup.proofs.RunSteps.{if_false, at_test}
use Rattle.dfdl_markup.proofs.RunTags.{Allows, entered_runs, passed_runs}
use Rattle.dfdl_markup.proofs.RunValues.{reference_text}

-- a character that stands for itself is neither of these
record IsPlain (c : ℕ) : Type 0 where
  no_less : (c == 60) ≡ false
  no_ampersand : (c == 38) ≡ false

plain_is : (c : ℕ) → is_text c ≡ true → IsPlain c
unfolding is_text
plain_is c is =
    let parts = and_parts (not (c == 60)) (not (c == 38)) is in
    record { no_less = not-true (c == 60) parts.0; no_ampersand = not-true (c == 38) parts.1 }

bang_no_start : is_name_start 33 ≡ false
unfolding is_name_start low_start_rows high_start_rows
bang_no_start = refl

question_no_start : is_name_start 63 ≡ false
unfolding is_name_start low_start_rows high_start_rows
question_no_start = refl

white_no_bracket : (before c : ℕ) → is_white c ≡ true → brackets before c ≡ 0
white_no_bracket before c is = white_is (λ d. brackets before d ≡ 0) c refl refl refl refl is

-- how many roots are begun behind a content
abbrev pub total : List Frame → ℕ → Content → ℕ
total [] begun content = begun + roots content
total (frame ∷ frames) begun content = begun

-- outside of the root there is just one, where that is a rule
abbrev pub HasRoot : ℕ → List Frame → ℕ → Content → Type 0
HasRoot n [] begun content = 10 < n → begun + roots content ≡ 1
HasRoot n (frame ∷ frames) begun content = Unit {0}

-- an element may begin before the rest of a content
allows_root : (n begun more : ℕ) → (10 < n → begun + suc more ≡ 1) → Allows n (may_begin begun [])
allows_root n begun more one = by (cases_Bool (begun == 0))
  where
    by : ((begun == 0) ≡ true) ⊎ ((begun == 0) ≡ false) → Allows n (may_begin begun [])
    by (inl e) = subst (Allows n) (sym (if_true (begun == 0) None (Some 10) e)) tt
    by (inr e) =
        subst (Allows n) (sym (if_false (begun == 0) None (Some 10) e))
        (not_under n 10 (λ less. eqb-false begun 0 e (omega (arith, one less))))

allows_inner : (n begun : ℕ) (frame : Frame) (frames : List Frame)
    → (11 < n → suc (length frames) < deepest) → Allows n (may_begin begun (frame ∷ frames))
allows_inner n begun frame frames shallow = by (cases_Bool (nat_lt (suc (length frames)) deepest))
  where
    by : (nat_lt (suc (length frames)) deepest ≡ true)
        ⊎ (nat_lt (suc (length frames)) deepest ≡ false)
        → Allows n (may_begin begun (frame ∷ frames))
    by (inl e) = subst (Allows n)
        (sym (if_true (nat_lt (suc (length frames)) deepest) None (Some 11) e)) tt
    by (inr e) =
        subst (Allows n) (sym (if_false (nat_lt (suc (length frames)) deepest) None (Some 11) e))
        (not_under n 11 (λ less. both_ways _ e
        (lt-ltb (suc (length frames)) deepest (shallow less))))

-- what an element in a content owes: it may begin, and the rest has its root
record Begins (n : ℕ) (frames : List Frame) (begun : ℕ) (all next : Content) : Type 0 where
  allows : Allows n (may_begin begun frames)
  root : HasRoot n frames (begun_by begun frames) next
  same : total frames (begun_by begun frames) next ≡ total frames begun all

begins_single : (n : ℕ) (frames : List Frame) (begun : ℕ) (tag : Tag) (next : Content)
    → HasRoot n frames begun (Single tag next) → (11 < n → length frames < deepest)
    → Begins n frames begun (Single tag next) next
begins_single n [] begun tag next root shallow = record {
  allows = allows_root n begun (roots next) root;
  root = λ less. omega (arith, root less);
  same = omega arith;
}
begins_single n (frame ∷ frames) begun tag next root shallow = record {
  allows = allows_inner n begun frame frames shallow;
  root = tt;
  same = refl;
}

begins_nested : (n : ℕ) (frames : List Frame) (begun : ℕ) (tag : Tag) (inner : Content) (end : Name)
    (space : List ℕ) (next : Content)
    → HasRoot n frames begun (Nested tag inner end space next) → (11 < n → length frames < deepest)
    → Begins n frames begun (Nested tag inner end space next) next
begins_nested n [] begun tag inner end space next root shallow = record {
  allows = allows_root n begun (roots next) root;
  root = λ less. omega (arith, root less);
  same = omega arith;
}
begins_nested n (frame ∷ frames) begun tag inner end space next root shallow = record {
  allows = allows_inner n begun frame frames shallow;
  root = tt;
  same = refl;
}

-- the rest of a content behind a piece that is no element
record Carries (n : ℕ) (frames : List Frame) (begun : ℕ) (all next : Content) : Type 0 where
  root : HasRoot n frames begun next
  same : total frames begun next ≡ total frames begun all

carries : (n : ℕ) (frames : List Frame) (begun : ℕ) (all next : Content) → roots all ≡ roots next
    → HasRoot n frames begun all → Carries n frames begun all next
carries n [] begun all next same root = record {
  root = λ less. omega (arith, root less);
  same = omega arith;
}
carries n (frame ∷ frames) begun all next same root = record { root = tt; same = refl }

none_more : (frames : List Frame) (begun : ℕ) → total frames begun Nothing ≡ begun
none_more [] begun = omega arith
none_more (frame ∷ frames) begun = refl

instruction_text : (target text next tail : List ℕ)
    → (target ++ (text ++ next)) ++ tail ≡ target ++ (text ++ (next ++ tail))
instruction_text target text next tail = simp append_assoc

nested_text : (tag inner end space next tail : List ℕ)
    → (tag ++ 62 ∷ (inner ++ 60 ∷ 47 ∷ (end ++ (space ++ 62 ∷ next)))) ++ tail
    ≡ tag ++ 62 ∷ (inner ++ 60 ∷ 47 ∷ (end ++ (space ++ 62 ∷ (next ++ tail))))
nested_text tag inner end space next tail = simp append_assoc

module _ (n : ℕ) where
  -- with another count of roots that is the same
  carried : (frames : List Frame) (tail : List ℕ) {m k : ℕ} → m ≡ k
      → ((ahead : Ahead) (before : ℕ)
      → Ends n (run step (state ahead (AtContent before) k frames) tail))
      → (ahead : Ahead) (before : ℕ)
      → Ends n (run step (state ahead (AtContent before) m frames) tail)
  carried frames tail same ends ahead before =
      subst (λ r. Ends n (run step (state ahead (AtContent before) r frames) tail)) (sym same)
      (ends ahead before)

  -- `<`
  less_runs : (ahead : Ahead) (begun : ℕ) (frames : List Frame) (before : ℕ) (text : List ℕ)
      → ((ahead : Ahead) → Ends n (run step (state ahead AtOpened begun frames) text))
      → Ends n (run step (state ahead (AtContent before) begun frames) (60 ∷ text))
  unfolding step content_step
  less_runs ahead begun [] before text ends = ends ahead
  less_runs ahead begun (frame ∷ frames) before text ends = ends NothingAhead

  -- outside of the root
  top_other : (ahead : Ahead) (begun before c : ℕ) (text : List ℕ) → (10 < n → is_white c ≡ true)
      → is_white c ≡ false
      → ((ahead : Ahead) → brackets before c ≡ 0
      → Ends n (run step (state ahead (AtContent 0) begun []) text))
      → After n (if c == 0xFEFF then marked
      (state ahead (AtContent before) begun []) ahead else Err 10) text
  top_other ahead begun before c text white no_white ends =
      at_test n text (c == 0xFEFF) _ _
      (λ e. by ahead (subst (λ d. brackets before d ≡ 0) (sym (eqb-true c 0xFEFF e)) refl))
      (λ e. not_under n 10 (λ less. both_ways _ no_white (white less)))
    where
      by : (a : Ahead) → brackets before c ≡ 0
          → After n (marked (state ahead (AtContent before) begun []) a) text
      by MarkAhead none = ends DeclarationAhead none
      by DeclarationAhead none = not_under n 10 (λ less. both_ways _ no_white (white less))
      by NothingAhead none = not_under n 10 (λ less. both_ways _ no_white (white less))

  top_runs : (ahead : Ahead) (begun before c : ℕ) (text : List ℕ) → is_text c ≡ true
      → (10 < n → is_white c ≡ true)
      → ((ahead : Ahead) → brackets before c ≡ 0
      → Ends n (run step (state ahead (AtContent 0) begun []) text))
      → Ends n (run step (state ahead (AtContent before) begun []) (c ∷ text))
  unfolding step content_step
  top_runs ahead begun before c text is white ends =
      subst (λ a. After n a text) (sym (if_false (c == 60) _ _ (plain_is c is).no_less))
      (at_test n text (is_white c) _ _
      (λ e. ends NothingAhead (white_no_bracket before c e))
      (λ e. top_other ahead begun before c text white e ends))

  -- inside of it
  inner_runs : (ahead : Ahead) (begun : ℕ) (frame : Frame) (frames : List Frame) (before c : ℕ)
      → is_text c ≡ true → (before ≡ 2 → c ≢ 62)
      → step (state ahead (AtContent before) begun (frame ∷ frames)) c
      ≡ Ok (state NothingAhead (AtContent (brackets before c)) begun (frame ∷ frames))
  unfolding step content_step
  inner_runs ahead begun frame frames before c is apart =
      if_false (c == 60) _ _ (plain_is c is).no_less
      ∙ (if_false (c == 38) _ _ (plain_is c is).no_ampersand
      ∙ if_false (before == 2 && c == 62) _ _ (none (cases_Bool (before == 2))))
    where
      none : ((before == 2) ≡ true) ⊎ ((before == 2) ≡ false) → (before == 2 && c == 62) ≡ false
      none (inl e) = and_right (before == 2) (c == 62) (ne_eqb c 62 (apart (eqb-true before 2 e)))
      none (inr e) = and_left (before == 2) (c == 62) e

  referring_runs : (ahead : Ahead) (begun : ℕ) (frames : List Frame) (before : ℕ)
      (reference : Reference) (tail : List ℕ) → ReferenceKeeps n reference
      → (10 < n → 0 < length frames) → RunsFrom n begun frames (AtContent 0) tail
      → Ends n (run step (state ahead (AtContent before) begun frames)
      (reference_characters reference ++ tail))
  unfolding step content_step is_white
  referring_runs ahead begun [] before reference tail keeps inside ends =
      not_under n 10 (λ less. absurd (omega (arith, inside less)))
  referring_runs ahead begun (frame ∷ frames) before reference tail keeps inside ends =
      subst (λ l. Ends n (run step (state ahead (AtContent before) begun (frame ∷ frames)) l))
      (sym (reference_text reference tail))
      (reference_runs n begun (frame ∷ frames) InContent reference tail keeps ends)

  opened_bang : (ahead : Ahead) (begun : ℕ) (frames : List Frame) (text : List ℕ)
      → RunsFrom n begun frames AtBang text
      → Ends n (run step (state ahead AtOpened begun frames) (33 ∷ text))
  unfolding step opened_step
  opened_bang ahead begun frames text ends =
      subst (λ a. After n a text) (sym (if_false (is_name_start 33) _ _ bang_no_start)) ends

  opened_question : (ahead : Ahead) (begun : ℕ) (frames : List Frame) (text : List ℕ)
      → Ends n (run step (state ahead AtQuestion begun frames) text)
      → Ends n (run step (state ahead AtOpened begun frames) (63 ∷ text))
  unfolding step opened_step
  opened_question ahead begun frames text ends =
      subst (λ a. After n a text) (sym (if_false (is_name_start 63) _ _ question_no_start)) ends

  bang_section : (begun : ℕ) (frames : List Frame) (text : List ℕ) → 0 < length frames
      → RunsFrom n begun frames (AtSectionWord section_word) text
      → RunsFrom n begun frames AtBang (91 ∷ text)
  unfolding step bang_step
  bang_section begun [] text inside ends = absurd (omega arith)
  bang_section begun (frame ∷ frames) text inside ends = ends

  -- a content, and what follows it
  pub content_runs : (content : Content) (ahead : Ahead) (begun : ℕ) (frames : List Frame)
      (before : ℕ)
      (tail : List ℕ) → ContentKeeps n (length frames) (scope_of frames) before content
      → HasRoot n frames begun content
      → ((ahead : Ahead) (before : ℕ)
      → Ends n (run step (state ahead (AtContent before) (total frames begun content) frames) tail))
      → Ends n (run step (state ahead (AtContent before) begun frames) (spelling content ++ tail))
  content_runs Nothing ahead begun frames before tail keeps root ends =
      subst (λ m. Ends n (run step (state ahead (AtContent before) m frames) tail))
      (none_more frames begun)
      (ends ahead before)
  content_runs (Character c next) ahead begun [] before tail keeps root ends =
      top_runs ahead begun before c (spelling next ++ tail) keeps.0 (λ less. keeps.2 less refl)
      (λ a none. content_runs next a begun [] 0 tail
      (subst (λ b. ContentKeeps n 0 (scope_of []) b next) none keeps.3) root ends)
  content_runs (Character c next) ahead begun (frame ∷ frames) before tail keeps root ends =
      goes n (state ahead (AtContent before) begun (frame ∷ frames))
      (state NothingAhead (AtContent (brackets before c)) begun (frame ∷ frames)) c
      (spelling next ++ tail)
      (inner_runs ahead begun frame frames before c keeps.0 keeps.1)
      (content_runs next NothingAhead begun (frame ∷ frames)
      (brackets before c) tail keeps.3 tt ends)
  content_runs (Referring reference next) ahead begun frames before tail keeps root ends =
      let rest = carries n frames begun (Referring reference next) next refl root in
      subst (λ l. Ends n (run step (state ahead (AtContent before) begun frames) l))
      (sym (append_assoc (reference_characters reference) (spelling next) tail))
      (referring_runs ahead begun frames before reference (spelling next ++ tail) keeps.0 keeps.1
      (content_runs next NothingAhead begun frames 0 tail keeps.2 rest.root
      (carried frames tail rest.same ends)))
  content_runs (Comment text next) ahead begun frames before tail keeps root ends =
      let rest = carries n frames begun (Comment text next) next refl root in
      let behind = text ++ 45 ∷ 45 ∷ 62 ∷ (spelling next ++ tail) in
      subst (λ l. Ends n (run step (state ahead (AtContent before) begun frames)
      (60 ∷ 33 ∷ 45 ∷ 45 ∷ l)))
      (sym (append_assoc text (45 ∷ 45 ∷ 62 ∷ spelling next) tail))
      (less_runs ahead begun frames before (33 ∷ 45 ∷ 45 ∷ behind)
      (λ a. opened_bang a begun frames (45 ∷ 45 ∷ behind)
      (comment_runs n begun frames text (spelling next ++ tail) keeps.0
      (content_runs next NothingAhead begun frames 0 tail keeps.1 rest.root
      (carried frames tail rest.same ends)))))
  content_runs (Instruction target text next) ahead begun frames before tail keeps root ends =
      let rest = carries n frames begun (Instruction target text next) next refl root in
      subst (λ l. Ends n (run step (state ahead (AtContent before) begun frames) (60 ∷ 63 ∷ l)))
      (sym (instruction_text target text (63 ∷ 62 ∷ spelling next) tail))
      (less_runs ahead begun frames before
      (63 ∷ (target ++ (text ++ 63 ∷ 62 ∷ (spelling next ++ tail))))
      (λ a. opened_question a begun frames (target ++ (text ++ 63 ∷ 62 ∷ (spelling next ++ tail)))
      (instruction_runs n begun frames a target text (spelling next ++ tail) keeps.0 keeps.1
      (content_runs next NothingAhead begun frames 0 tail keeps.2 rest.root
      (carried frames tail rest.same ends)))))
  content_runs (Section text next) ahead begun frames before tail keeps root ends =
      let rest = carries n frames begun (Section text next) next refl root in
      let behind = section_word ++ (text ++ 93 ∷ 93 ∷ 62 ∷ (spelling next ++ tail)) in
      subst (λ l. Ends n (run step (state ahead (AtContent before) begun frames)
      (60 ∷ 33 ∷ 91 ∷ l)))
      (sym (instruction_text section_word text (93 ∷ 93 ∷ 62 ∷ spelling next) tail))
      (less_runs ahead begun frames before (33 ∷ 91 ∷ behind)
      (λ a. opened_bang a begun frames (91 ∷ behind) (bang_section begun frames behind keeps.0
      (section_runs n begun frames text (spelling next ++ tail) keeps.1
      (content_runs next NothingAhead begun frames 0 tail keeps.2 rest.root
      (carried frames tail rest.same ends))))))
  content_runs (Single tag next) ahead begun frames before tail keeps root ends =
      let rest = begins_single n frames begun tag next root keeps.1 in
      subst (λ l. Ends n (run step (state ahead (AtContent before) begun frames) (60 ∷ l)))
      (sym (append_assoc (tag_characters tag) (47 ∷ 62 ∷ spelling next) tail))
      (less_runs ahead begun frames before (tag_characters tag ++ 47 ∷ 62 ∷ (spelling next ++ tail))
      (λ a. passed_runs n begun frames a tag (spelling next ++ tail) keeps.0 rest.allows
      (content_runs next NothingAhead (begun_by begun frames) frames 0 tail keeps.2 rest.root
      (carried frames tail rest.same ends))))
  content_runs (Nested tag inner end space next) ahead begun frames before tail keeps root ends =
      let rest = begins_nested n frames begun tag inner end space next root keeps.1 in
      let start : StartTag = record { name = tag.name; attributes = attributes_of tag } in
      let last = spelling next ++ tail in
      let ending = 60 ∷ 47 ∷ (name_characters end ++ (space ++ 62 ∷ last)) in
      subst (λ l. Ends n (run step (state ahead (AtContent before) begun frames) (60 ∷ l)))
      (sym (nested_text (tag_characters tag) (spelling inner) (name_characters end) space
      (spelling next) tail))
      (less_runs ahead begun frames before (tag_characters tag ++ 62 ∷ (spelling inner ++ ending))
      (λ a. entered_runs n begun frames a tag (spelling inner ++ ending) keeps.0 rest.allows
      (content_runs inner NothingAhead (begun_by begun frames)
      (frame_of frames start ∷ frames) 0 ending keeps.2 tt
      (λ b at_end. closing_runs n (begun_by begun frames)
      (frame_of frames start) frames b at_end end space last keeps.3 keeps.4 keeps.5
      (content_runs next NothingAhead (begun_by begun frames) frames 0 tail keeps.6 rest.root
      (carried frames tail rest.same ends))))))
