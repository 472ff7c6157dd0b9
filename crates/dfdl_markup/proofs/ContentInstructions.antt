-- What is owed in processing instructions.
use Rattle.std.proofs.Common.{◌≡◌, ◌≢◌, ℕ, ◌==◌, ◌&&◌, Bool, true, false, List, [], ◌∷◌, ◌++◌, None}
use Rattle.std.proofs.Common.{refl, ap, sym, subst, ◌∙◌, arith, append_assoc, inl, inr}
use Rattle.std.proofs.lemmas.Bool.{eqb-true, cases_eq, and_parts}
use Rattle.std.proofs.lemmas.Bool.Decides.{nat_tests}
use Rattle.std.proofs.lemmas.Slice.Eq.{bytes_eq-Decides}
use Rattle.std.specs.Str.{bytes_eq}
use Rattle.dfdl_xml_chars.specs.Characters.{is_name_start, is_name_char, low_start_rows}
use Rattle.dfdl_xml_chars.specs.Characters.{low_name_rows}
use Rattle.dfdl_markup.specs.Grammar.{is_white, xml_word}
use Rattle.dfdl_markup.specs.Rules.{IsPart, IsInstructionText, HasNoMark, is_xml}
use Rattle.dfdl_markup.specs.Machine.{Ahead, MarkAhead, DeclarationAhead, NothingAhead, AtQuestion}
use Rattle.dfdl_markup.specs.Machine.{AtTarget, AtTargetEnd, AtInstruction, AtDeclaration, Frame}
use Rattle.dfdl_markup.specs.Machine.{wanted, may_declare, target_ended, question_step, target_step}
use Rattle.dfdl_markup.specs.Machine.{target_end_step, instruction_step}
use Rattle.dfdl_markup.proofs.Rest.{mark_behind, WroteNone, Wrote, Close}
use Rattle.dfdl_markup.proofs.Sound.{SoundAhead, Sound}
use Rattle.dfdl_markup.proofs.Answers.{Answer, Live, Leads}
use Rattle.dfdl_markup.proofs.Closing.{close_all, start_a, grow_instruction, good_text, moves_on}
use Rattle.dfdl_markup.proofs.Moves.{at, malformed, reads_on, reads_ahead, reads_piece, live_piece}
use Rattle.dfdl_markup.proofs.Moves.{answer_if}
use Rattle.dfdl_markup.proofs.NamesRead.{part_on}

-- the text of an instruction

-- one more character that isn't its end
pub mark_on : (mark : Bool) (text : List ℕ) (c : ℕ) → HasNoMark mark text
    → (mark_behind mark text ≡ true → c ≢ 62) → HasNoMark mark (text ++ c ∷ [])
mark_on mark [] c is not = (not, tt)
mark_on mark (d ∷ text) c is not = (is.0, mark_on (d == 63) text c is.1 not)

pub mark_behind_on : (mark : Bool) (text : List ℕ) (c : ℕ)
    → mark_behind mark (text ++ c ∷ []) ≡ (c == 63)
mark_behind_on mark [] c = refl
mark_behind_on mark (d ∷ text) c = mark_behind_on (d == 63) text c

mark_front : (mark : Bool) (front rest : List ℕ) → HasNoMark mark (front ++ rest)
    → HasNoMark mark front
mark_front mark [] rest is = tt
mark_front mark (c ∷ front) rest is = (is.0, mark_front (c == 63) front rest is.1)

-- a `?`, or none
abbrev mark_of : Bool → List ℕ
mark_of true = 63 ∷ []
mark_of false = []

-- a text with a `?` at its end, and those before it
record EndsInMark (mark : Bool) (text : List ℕ) : Type 0 where
  pub front : List ℕ
  pub is : mark_of mark ++ text ≡ front ++ 63 ∷ []

mark_ended : (mark : Bool) (text : List ℕ) → mark_behind mark text ≡ true → EndsInMark mark text
mark_ended mark [] marked =
    record { front = []; is = ap (λ m. mark_of m ++ []) marked }
mark_ended mark (c ∷ text) marked = elim (cases_eq c 63) [
  | inl is ↦ closing is (ap (λ d. d == 63) is) (mark_ended (c == 63) text marked)
  | inr not ↦ other (not_mark not) (mark_ended (c == 63) text marked)
]
  where
    not_mark : c ≢ 63 → (c == 63) ≡ false
    not_mark different = grind arith

    other : (c == 63) ≡ false → EndsInMark (c == 63) text → EndsInMark mark (c ∷ text)
    other none ends = record {
      front = mark_of mark ++ c ∷ ends.front;
      is =
          ap (λ l. mark_of mark ++ c ∷ l) (sym (ap (λ m. mark_of m ++ text) none) ∙ ends.is)
          ∙ sym (append_assoc (mark_of mark) (c ∷ ends.front) (63 ∷ []));
    }

    closing : c ≡ 63 → (c == 63) ≡ true → EndsInMark (c == 63) text → EndsInMark mark (c ∷ text)
    closing is some ends = record {
      front = mark_of mark ++ ends.front;
      is =
          ap (λ d. mark_of mark ++ d ∷ text) is
          ∙ (ap (λ l. mark_of mark ++ l) (sym (ap (λ m. mark_of m ++ text) some) ∙ ends.is)
          ∙ sym (append_assoc (mark_of mark) ends.front (63 ∷ [])));
    }

-- the instruction ends behind its text
instruction_ends : (n begun : ℕ) (frames : List Frame) (raw target text ending rest : List ℕ)
    → IsPart target → is_xml target ≡ false → IsInstructionText text
    → raw ++ ending ≡ 60 ∷ 63 ∷ (target ++ (text ++ 63 ∷ 62 ∷ []))
    → Close n begun frames 0 rest → Close n begun frames 0 (raw ++ (ending ++ rest))
instruction_ends n begun frames raw target text ending rest part other is all close =
    subst (Close n begun frames 0) (sym same)
    (grow_instruction n begun frames 0 target text rest (part, other) is close)
  where
    same : raw ++ (ending ++ rest) ≡ 60 ∷ 63 ∷ (target ++ (text ++ 63 ∷ 62 ∷ rest))
    same =
        sym (append_assoc raw ending rest)
        ∙ (ap (λ l. l ++ rest) all
        ∙ ap (λ l. 60 ∷ 63 ∷ l)
        (append_assoc target (text ++ 63 ∷ 62 ∷ []) rest
        ∙ ap (λ l. target ++ l) (append_assoc text (63 ∷ 62 ∷ []) rest)))

-- behind `<?`

pub question_answers : (ahead : Ahead) (begun : ℕ) (frames : List Frame) (c : ℕ)
    → Sound (at ahead AtQuestion begun frames)
    → Answer (at ahead AtQuestion begun frames) c
    (question_step (at ahead AtQuestion begun frames) c)
unfolding question_step
question_answers ahead begun frames c sound =
    answer_if (at ahead AtQuestion begun frames) c (is_name_start c) _ _
    (λ is. reads_ahead ahead AtQuestion (AtTarget (c ∷ [])) begun frames c sound refl refl refl
    (is, tt)
    (λ n raw wrote. (ap (λ l. l ++ c ∷ []) wrote, (is, tt)))) (λ not. malformed _ c)

-- in a target

-- the declaration may come here
declares_itself : (ahead : Ahead) (target : List ℕ) (begun : ℕ) (frames : List Frame) (c : ℕ)
    → Sound (at ahead (AtTarget target) begun frames) → may_declare ahead ≡ true
    → target ≡ xml_word → is_white c ≡ true
    → Leads (at ahead (AtTarget target) begun frames) c
    (at ahead (AtDeclaration None true) begun frames)
declares_itself ahead target begun frames c sound may is white = record {
  sound = record {
    frames = sound.frames;
    roots = sound.roots;
    ahead = sound_ahead ahead may sound.ahead;
    place = tt;
  };
  back = moves_on (at ahead (AtTarget target) begun frames) (AtDeclaration None true) c refl
      (λ n raw wrote. (
        c ∷ [],
        WroteNone (c ∷ []) (same raw wrote.0),
        (white, tt),
        λ spaced. omega arith,
      ));
}
  where
    same : (raw : List ℕ) → raw ≡ 60 ∷ 63 ∷ target
        → raw ++ c ∷ [] ≡ 60 ∷ 63 ∷ (xml_word ++ c ∷ [])
    same raw whole = ap (λ l. l ++ c ∷ []) (whole ∙ ap (λ l. 60 ∷ 63 ∷ l) is)

    sound_ahead : (ahead : Ahead) → may_declare ahead ≡ true
        → SoundAhead ahead (AtTarget target) begun frames
        → SoundAhead ahead (AtDeclaration None true) begun frames
    sound_ahead MarkAhead may sound = (refl, sound.1, sound.2)
    sound_ahead DeclarationAhead may sound = (refl, sound.1, sound.2)
    sound_ahead NothingAhead may sound = absurd (cc)

-- its end by white space
ended_answers : (ahead : Ahead) (target : List ℕ) (begun : ℕ) (frames : List Frame) (c : ℕ)
    → Sound (at ahead (AtTarget target) begun frames) → is_white c ≡ true
    → Answer (at ahead (AtTarget target) begun frames) c
    (target_ended (at ahead (AtTarget target) begun frames) target)
ended_answers ahead target begun frames c sound white =
    answer_if (at ahead (AtTarget target) begun frames) c (is_xml target) _ _
    (λ is. answer_if (at ahead (AtTarget target) begun frames) c
    (may_declare ahead && bytes_eq target xml_word) _ _
    (λ both. let parts = and_parts (may_declare ahead) (bytes_eq target xml_word) both in
    declares_itself ahead target begun frames c sound parts.0
    ((bytes_eq-Decides target xml_word).0 parts.1) white) (λ not. malformed _ c))
    (λ other. reads_on ahead (AtTarget target) (AtInstruction false) begun frames c sound refl refl
    tt
    (λ n raw wrote. (
      target,
      c ∷ [],
      wrote.1,
      other,
      (c, [], refl, white, tt, refl),
      ap (λ l. l ++ c ∷ []) wrote.0,
    )))

pub target_answers : (ahead : Ahead) (target : List ℕ) (begun : ℕ) (frames : List Frame) (c : ℕ)
    → Sound (at ahead (AtTarget target) begun frames)
    → Answer (at ahead (AtTarget target) begun frames) c
    (target_step (at ahead (AtTarget target) begun frames) target c)
unfolding target_step
target_answers ahead target begun frames c sound =
    answer_if (at ahead (AtTarget target) begun frames) c (is_name_char c) _ _
    (λ is. reads_ahead ahead (AtTarget target) (AtTarget (target ++ c ∷ [])) begun frames c sound
    refl refl refl
    (part_on target c sound.place is)
    (λ n raw wrote. (ap (λ l. l ++ c ∷ []) wrote.0, part_on target c wrote.1 is)))
    (λ no_char. answer_if (at ahead (AtTarget target) begun frames) c (is_white c) _ _
    (λ white. ended_answers ahead target begun frames c sound white)
    (λ not_white. answer_if (at ahead (AtTarget target) begun frames) c (c == 63) _ _
    (λ mark. answer_if (at ahead (AtTarget target) begun frames) c (is_xml target) _ _
    (λ is. malformed _ c)
    (λ other. reads_on ahead (AtTarget target) AtTargetEnd begun frames c sound refl refl tt
    (λ n raw wrote. (
      target,
      wrote.1,
      ap (λ l. l ++ c ∷ []) wrote.0 ∙ ap (λ d. 60 ∷ 63 ∷ (target ++ d ∷ [])) (eqb-true c 63 mark),
      other,
    ))))
    (λ none. malformed _ c)))

-- behind a target

target_ends : (n begun : ℕ) (frames : List Frame) (raw rest : List ℕ) (c : ℕ) → c ≡ 62
    → Wrote n (wanted frames) AtTargetEnd raw → Close n begun frames 0 rest
    → Close n begun frames 0 (raw ++ c ∷ rest)
target_ends n begun frames raw rest c is wrote close =
    instruction_ends n begun frames raw wrote.0 [] (c ∷ []) rest wrote.1 wrote.3 tt
    (ap (λ l. l ++ c ∷ []) wrote.2
    ∙ ap (λ l. 60 ∷ 63 ∷ l)
    (append_assoc wrote.0 (63 ∷ []) (c ∷ []) ∙ ap (λ d. wrote.0 ++ 63 ∷ d ∷ []) is)) close

pub target_end_answers : (ahead : Ahead) (begun : ℕ) (frames : List Frame) (c : ℕ)
    → Sound (at ahead AtTargetEnd begun frames)
    → Answer (at ahead AtTargetEnd begun frames) c
    (target_end_step (at ahead AtTargetEnd begun frames) c)
unfolding target_end_step
target_end_answers ahead begun frames c sound =
    answer_if (at ahead AtTargetEnd begun frames) c (c == 62) _ _
    (λ is. reads_piece ahead AtTargetEnd begun frames c sound
    (λ n raw rest wrote close. target_ends n begun frames raw rest c
    (eqb-true c 62 is) wrote close))
    (λ not. malformed _ c)

-- in the text

-- it ends behind what was read but for a `?` at its end
text_ends : (n begun : ℕ) (frames : List Frame) (raw rest : List ℕ) (c : ℕ) → c ≡ 62
    → Wrote n (wanted frames) (AtInstruction true) raw → Close n begun frames 0 rest
    → Close n begun frames 0 (raw ++ c ∷ rest)
text_ends n begun frames raw rest c is wrote close =
    let w = wrote.4.0 in
    let ends = mark_ended false wrote.4.1 wrote.4.5 in
    instruction_ends n begun frames raw wrote.0 (w ∷ ends.front) (c ∷ []) rest wrote.2 wrote.3
    (wrote.4.3, mark_front false ends.front (63 ∷ []) (subst (HasNoMark false) ends.is wrote.4.4))
    (ap (λ l. l ++ c ∷ []) wrote.5
    ∙ ap (λ l. 60 ∷ 63 ∷ l)
    (append_assoc wrote.0 wrote.1 (c ∷ [])
    ∙ ap (λ l. wrote.0 ++ l)
    (ap (λ l. l ++ c ∷ []) (wrote.4.2 ∙ ap (λ l. w ∷ l) ends.is)
    ∙ ap (λ l. w ∷ l)
    (append_assoc ends.front (63 ∷ []) (c ∷ []) ∙ ap (λ d. ends.front ++ 63 ∷ d ∷ []) is)))) close

pub instruction_answers : (ahead : Ahead) (mark : Bool) (begun : ℕ) (frames : List Frame) (c : ℕ)
    → Sound (at ahead (AtInstruction mark) begun frames)
    → Answer (at ahead (AtInstruction mark) begun frames) c
    (instruction_step (at ahead (AtInstruction mark) begun frames) mark c)
unfolding instruction_step
instruction_answers ahead mark begun frames c sound =
    answer_if (at ahead (AtInstruction mark) begun frames) c (mark && c == 62) _ _
    (λ is. let parts = and_parts mark (c == 62) is in
    reads_piece ahead (AtInstruction mark) begun frames c sound
    (λ n raw rest wrote close.
    text_ends n begun frames raw rest c (eqb-true c 62 parts.1)
    (subst (λ m. Wrote n (wanted frames) (AtInstruction m) raw) parts.0 wrote) close))
    (λ not. reads_on ahead (AtInstruction mark) (AtInstruction (c == 63)) begun frames c sound refl
    refl tt
    (λ n raw wrote. (
      wrote.0,
      wrote.1 ++ c ∷ [],
      wrote.2,
      wrote.3,
      (
        wrote.4.0,
        wrote.4.1 ++ c ∷ [],
        ap (λ l. l ++ c ∷ []) wrote.4.2,
        wrote.4.3,
        mark_on false wrote.4.1 c wrote.4.4 (λ marked end. no_end (sym wrote.4.5 ∙ marked) end not),
        mark_behind_on false wrote.4.1 c,
      ),
      ap (λ l. l ++ c ∷ []) wrote.5 ∙ ap (λ l. 60 ∷ 63 ∷ l) (append_assoc wrote.0 wrote.1 (c ∷ [])),
    )))
  where
    no_end : mark ≡ true → c ≡ 62 → (mark && c == 62) ≡ false → ⊥
    no_end marked end not = grind (arith, nat_tests)

-- what goes on from there

a_goes_on : is_name_char 97 ≡ true
unfolding is_name_char low_name_rows low_start_rows
a_goes_on = refl

-- no target that ends in `a` is `xml`
not_xml : (target : List ℕ) → is_xml (target ++ 97 ∷ []) ≡ false
unfolding is_xml
not_xml [] = refl
not_xml (x ∷ []) = refl
not_xml (x ∷ m ∷ []) = grind (arith, nat_tests)
not_xml (x ∷ m ∷ l ∷ []) = refl
not_xml (x ∷ m ∷ l ∷ d ∷ target) = refl

pub question_live : (ahead : Ahead) (begun : ℕ) (frames : List Frame)
    → Sound (at ahead AtQuestion begun frames) → Live (at ahead AtQuestion begun frames)
question_live ahead begun frames sound =
    live_piece ahead AtQuestion begun frames (97 ∷ 63 ∷ 62 ∷ [])
    (good_text (97 ∷ 63 ∷ 62 ∷ []) refl)
    (close_all begun frames 0 sound.frames sound.roots)
    (λ n raw rest wrote close.
    instruction_ends n begun frames raw (97 ∷ []) [] (97 ∷ 63 ∷ 62 ∷ []) rest (start_a, tt)
    (not_xml []) tt (ap (λ l. l ++ 97 ∷ 63 ∷ 62 ∷ []) wrote) close)

pub target_live : (ahead : Ahead) (target : List ℕ) (begun : ℕ) (frames : List Frame)
    → Sound (at ahead (AtTarget target) begun frames)
    → Live (at ahead (AtTarget target) begun frames)
target_live ahead target begun frames sound =
    live_piece ahead (AtTarget target) begun frames (97 ∷ 63 ∷ 62 ∷ [])
    (good_text (97 ∷ 63 ∷ 62 ∷ []) refl)
    (close_all begun frames 0 sound.frames sound.roots)
    (λ n raw rest wrote close.
    instruction_ends n begun frames raw (target ++ 97 ∷ []) [] (97 ∷ 63 ∷ 62 ∷ []) rest
    (part_on target 97 sound.place a_goes_on) (not_xml target) tt
    (ap (λ l. l ++ 97 ∷ 63 ∷ 62 ∷ []) wrote.0
    ∙ ap (λ l. 60 ∷ 63 ∷ l) (sym (append_assoc target (97 ∷ []) (63 ∷ 62 ∷ [])))) close)

pub target_end_live : (ahead : Ahead) (begun : ℕ) (frames : List Frame)
    → Sound (at ahead AtTargetEnd begun frames) → Live (at ahead AtTargetEnd begun frames)
target_end_live ahead begun frames sound =
    live_piece ahead AtTargetEnd begun frames (62 ∷ []) (good_text (62 ∷ []) refl)
    (close_all begun frames 0 sound.frames sound.roots)
    (λ n raw rest wrote close. target_ends n begun frames raw rest 62 refl wrote close)

pub instruction_live : (ahead : Ahead) (mark : Bool) (begun : ℕ) (frames : List Frame)
    → Sound (at ahead (AtInstruction mark) begun frames)
    → Live (at ahead (AtInstruction mark) begun frames)
instruction_live ahead mark begun frames sound =
    live_piece ahead (AtInstruction mark) begun frames (63 ∷ 62 ∷ [])
    (good_text (63 ∷ 62 ∷ []) refl)
    (close_all begun frames 0 sound.frames sound.roots)
    (λ n raw rest wrote close.
    instruction_ends n begun frames raw wrote.0 wrote.1 (63 ∷ 62 ∷ []) rest wrote.2 wrote.3
    (subst IsInstructionText (sym wrote.4.2) (wrote.4.3, wrote.4.4))
    (ap (λ l. l ++ 63 ∷ 62 ∷ []) wrote.5
    ∙ ap (λ l. 60 ∷ 63 ∷ l) (append_assoc wrote.0 wrote.1 (63 ∷ 62 ∷ []))) close)
