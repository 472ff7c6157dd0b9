-- What is owed in CDATA sections.
use Rattle.std.proofs.Common.{◌≡◌, ◌≢◌, ℕ, zero, suc, ◌==◌, ◌&&◌, ◌<◌, ◌≤◌, true, false, List, []}
use Rattle.std.proofs.Common.{if◌then◌else◌, ◌∷◌, ◌++◌, length, refl, ap, sym, subst, ◌∙◌, arith}
use Rattle.std.proofs.Common.{append_assoc, inl, inr}
use Rattle.std.proofs.lemmas.Bool.{eqb-true, cases_eq, and_parts}
use Rattle.std.proofs.lemmas.Bool.Decides.{nat_tests}
use Rattle.std.proofs.lemmas.List.{append-nil}
use Rattle.dfdl_layers.specs.Tellers.{Each}
use Rattle.dfdl_markup.specs.Grammar.{section_word}
use Rattle.dfdl_markup.specs.Rules.{brackets, HasNoEnd}
use Rattle.dfdl_markup.specs.Machine.{Ahead, NothingAhead, AtSectionWord, AtSection, Frame, wanted}
use Rattle.dfdl_markup.specs.Machine.{section_word_step, section_step, section_left}
use Rattle.dfdl_markup.proofs.Rest.{brackets_behind, Wrote, Close}
use Rattle.dfdl_markup.proofs.Sound.{Sound, IsInside}
use Rattle.dfdl_markup.proofs.Answers.{Good, Answer, Live, Leads}
use Rattle.dfdl_markup.proofs.Closing.{close_all, grow_section, good_text, each_append}
use Rattle.dfdl_markup.proofs.Moves.{at, malformed, reads_on, reads_piece, live_piece, answer_if}

-- the text of a section

pub brackets_by : (before c : ℕ) → c ≡ 93 → brackets before c ≡ (if before == 0 then 1 else 2)
brackets_by before c is = ap (λ d. if d == 93 then (if before == 0 then 1 else 2) else 0) is

pub brackets_else : (before c : ℕ) → c ≢ 93 → brackets before c ≡ 0
brackets_else before c not = grind arith

pub brackets_most : (before c : ℕ) → brackets before c ≤ 2
brackets_most before c = grind arith

-- one more character that isn't its end
pub section_on : (before : ℕ) (text : List ℕ) (c : ℕ) → HasNoEnd before text
    → (brackets_behind before text ≡ 2 → c ≢ 62) → HasNoEnd before (text ++ c ∷ [])
section_on before [] c is not = (not, tt)
section_on before (d ∷ text) c is not = (is.0, section_on (brackets before d) text c is.1 not)

pub brackets_on : (before : ℕ) (text : List ℕ) (c : ℕ)
    → brackets_behind before (text ++ c ∷ []) ≡ brackets (brackets_behind before text) c
brackets_on before [] c = refl
brackets_on before (d ∷ text) c = brackets_on (brackets before d) text c

-- its front
section_front : (before : ℕ) (front rest : List ℕ) → HasNoEnd before (front ++ rest)
    → HasNoEnd before front
section_front before [] rest is = tt
section_front before (c ∷ front) rest is = (is.0, section_front (brackets before c) front rest is.1)

-- so many `]`
abbrev brackets_of : ℕ → List ℕ
brackets_of zero = []
brackets_of (suc n) = 93 ∷ brackets_of n

-- a text with two of them at its end, and those before it
record EndsInTwo (before : ℕ) (text : List ℕ) : Type 0 where
  pub front : List ℕ
  pub is : brackets_of before ++ text ≡ front ++ 93 ∷ 93 ∷ []

two_ended : (before : ℕ) (text : List ℕ) → before ≤ 2 → brackets_behind before text ≡ 2
    → EndsInTwo before text
two_ended before [] most two =
    record { front = []; is = ap (λ n. brackets_of n ++ []) two }
two_ended before (c ∷ text) most two = elim (cases_eq c 93) [
  | inl is ↦ closing before most is (two_ended (brackets before c) text
      (brackets_most before c) two)
  | inr not ↦ other (brackets_else before c not)
      (two_ended (brackets before c) text (brackets_most before c) two)
]
  where
    other : brackets before c ≡ 0 → EndsInTwo (brackets before c) text → EndsInTwo before (c ∷ text)
    other none ends = record {
      front = brackets_of before ++ c ∷ ends.front;
      is =
          ap (λ l. brackets_of before ++ c ∷ l)
          (sym (ap (λ n. brackets_of n ++ text) none) ∙ ends.is)
          ∙ sym (append_assoc (brackets_of before) (c ∷ ends.front) (93 ∷ 93 ∷ []));
    }

    closing : (b : ℕ) → b ≤ 2 → c ≡ 93 → EndsInTwo (brackets b c) text → EndsInTwo b (c ∷ text)
    closing zero few is ends = record {
      front = ends.front;
      is =
          ap (λ d. d ∷ text) is
          ∙ (sym (ap (λ n. brackets_of n ++ text) (brackets_by 0 c is)) ∙ ends.is);
    }
    closing (suc zero) few is ends = record {
      front = ends.front;
      is =
          ap (λ d. 93 ∷ d ∷ text) is
          ∙ (sym (ap (λ n. brackets_of n ++ text) (brackets_by 1 c is)) ∙ ends.is);
    }
    closing (suc (suc zero)) few is ends = record {
      front = 93 ∷ ends.front;
      is =
          ap (λ d. 93 ∷ 93 ∷ d ∷ text) is
          ∙ ap (λ l. 93 ∷ l) (sym (ap (λ n. brackets_of n ++ text) (brackets_by 2 c is)) ∙ ends.is);
    }
    closing (suc (suc (suc b))) few is ends = absurd (omega arith)

-- the section ends behind its text
section_ends : (n begun : ℕ) (frames : List Frame) (raw text ending rest : List ℕ) → IsInside frames
    → HasNoEnd 0 text → raw ++ ending ≡ 60 ∷ 33 ∷ 91 ∷ (section_word ++ (text ++ 93 ∷ 93 ∷ 62 ∷ []))
    → Close n begun frames 0 rest → Close n begun frames 0 (raw ++ (ending ++ rest))
section_ends n begun frames raw text ending rest inside is all close =
    subst (Close n begun frames 0) (sym same)
    (grow_section n begun frames 0 text rest (some frames inside) is close)
  where
    some : (frames : List Frame) → IsInside frames → 0 < length frames
    some [] inside = absurd inside
    some (frame ∷ frames) inside = omega arith

    same : raw ++ (ending ++ rest) ≡ 60 ∷ 33 ∷ 91 ∷ (section_word ++ (text ++ 93 ∷ 93 ∷ 62 ∷ rest))
    same =
        sym (append_assoc raw ending rest)
        ∙ (ap (λ l. l ++ rest) all
        ∙ ap (λ l. 60 ∷ 33 ∷ 91 ∷ l)
        (append_assoc section_word (text ++ 93 ∷ 93 ∷ 62 ∷ []) rest
        ∙ ap (λ l. section_word ++ l) (append_assoc text (93 ∷ 93 ∷ 62 ∷ []) rest)))

-- in the word

word_answers : (ahead : Ahead) (w : ℕ) (left : List ℕ) (begun : ℕ) (frames : List Frame) (c : ℕ)
    → Sound (at ahead (AtSectionWord (w ∷ left)) begun frames) → c ≡ w
    → Leads (at ahead (AtSectionWord (w ∷ left)) begun frames) c
    (at NothingAhead (section_left left) begun frames)
word_answers ahead w [] begun frames c sound is =
    reads_on ahead (AtSectionWord (w ∷ [])) (AtSection 0) begun frames c sound refl refl
    (sound.place.0, omega arith)
    (λ n raw wrote. (
      [],
      tt,
      refl,
      ap (λ l. l ++ c ∷ []) wrote.2
          ∙ ap (λ l. 60 ∷ 33 ∷ 91 ∷ l)
          (ap (λ d. wrote.0 ++ d ∷ []) is ∙ (wrote.1 ∙ sym (append-nil section_word))),
    ))
word_answers ahead w (v ∷ left) begun frames c sound is =
    reads_on ahead (AtSectionWord (w ∷ v ∷ left)) (AtSectionWord (v ∷ left)) begun frames c sound
    refl refl (
      sound.place.0,
      (
        sound.place.1.0 ++ w ∷ [],
        append_assoc sound.place.1.0 (w ∷ []) (v ∷ left)
            ∙ sound.place.1.1,
      ),
      omega arith,
    )
    (λ n raw wrote. (
      wrote.0 ++ w ∷ [],
      append_assoc wrote.0 (w ∷ []) (v ∷ left) ∙ wrote.1,
      ap (λ l. l ++ c ∷ []) wrote.2
          ∙ ap (λ d. 60 ∷ 33 ∷ 91 ∷ (wrote.0 ++ d ∷ [])) is,
    ))

pub section_word_answers : (ahead : Ahead) (left : List ℕ) (begun : ℕ) (frames : List Frame) (c : ℕ)
    → Sound (at ahead (AtSectionWord left) begun frames)
    → Answer (at ahead (AtSectionWord left) begun frames) c
    (section_word_step (at ahead (AtSectionWord left) begun frames) left c)
unfolding section_word_step
section_word_answers ahead [] begun frames c sound = malformed _ c
section_word_answers ahead (w ∷ left) begun frames c sound =
    answer_if (at ahead (AtSectionWord (w ∷ left)) begun frames) c (c == w) _ _
    (λ is. word_answers ahead w left begun frames c sound (eqb-true c w is)) (λ not. malformed _ c)

-- in the text

pub section_answers : (ahead : Ahead) (before begun : ℕ) (frames : List Frame) (c : ℕ)
    → Sound (at ahead (AtSection before) begun frames)
    → Answer (at ahead (AtSection before) begun frames) c
    (section_step (at ahead (AtSection before) begun frames) before c)
unfolding section_step
section_answers ahead before begun frames c sound =
    answer_if (at ahead (AtSection before) begun frames) c (before == 2 && c == 62) _ _
    (λ is. reads_piece ahead (AtSection before) begun frames c sound
    (λ n raw rest wrote close. ended n raw rest (and_parts (before == 2) (c == 62) is) wrote close))
    (λ not. reads_on ahead (AtSection before) (AtSection (brackets before c)) begun frames c sound
    refl refl
    (sound.place.0, brackets_most before c)
    (λ n raw wrote. (
      wrote.0 ++ c ∷ [],
      section_on 0 wrote.0 c wrote.1 (λ two end. no_end (sym wrote.2 ∙ two) end not),
      brackets_on 0 wrote.0 c ∙ ap (λ b. brackets b c) wrote.2,
      ap (λ l. l ++ c ∷ []) wrote.3
          ∙ ap (λ l. 60 ∷ 33 ∷ 91 ∷ l) (append_assoc section_word wrote.0 (c ∷ [])),
    )))
  where
    no_end : before ≡ 2 → c ≡ 62 → (before == 2 && c == 62) ≡ false → ⊥
    no_end two end not = grind (arith, nat_tests)

    regrouped : (front : List ℕ) → c ≡ 62
        → (section_word ++ (front ++ 93 ∷ 93 ∷ [])) ++ c ∷ []
        ≡ section_word ++ (front ++ 93 ∷ 93 ∷ 62 ∷ [])
    regrouped front end =
        append_assoc section_word (front ++ 93 ∷ 93 ∷ []) (c ∷ [])
        ∙ ap (λ l. section_word ++ l)
        (append_assoc front (93 ∷ 93 ∷ []) (c ∷ []) ∙ ap (λ d. front ++ 93 ∷ 93 ∷ d ∷ []) end)

    ended : (n : ℕ) (raw rest : List ℕ) → ((before == 2) ≡ true) × ((c == 62) ≡ true)
        → Wrote n (wanted frames) (AtSection before) raw → Close n begun frames 0 rest
        → Close n begun frames 0 (raw ++ c ∷ rest)
    ended n raw rest is wrote close =
        let two = two_ended 0 wrote.0 (omega arith) (wrote.2 ∙ eqb-true before 2 is.0) in
        section_ends n begun frames raw two.front (c ∷ []) rest sound.place.0
        (section_front 0 two.front (93 ∷ 93 ∷ []) (subst (HasNoEnd 0) two.is wrote.1))
        (ap (λ l. l ++ c ∷ []) wrote.3
        ∙ ap (λ l. 60 ∷ 33 ∷ 91 ∷ l)
        (ap (λ l. (section_word ++ l) ++ c ∷ []) two.is ∙ regrouped two.front (eqb-true c 62 is.1)))
        close

-- what goes on from there

good_word : Each Good section_word
unfolding section_word
good_word = good_text section_word refl

pub each_behind : (P : ℕ → Type 0) (front rest : List ℕ) → Each P (front ++ rest) → Each P rest
each_behind P [] rest each = each
each_behind P (c ∷ front) rest each = each_behind P front rest each.1

good_brackets : Each Good (93 ∷ 93 ∷ 62 ∷ [])
good_brackets = good_text (93 ∷ 93 ∷ 62 ∷ []) refl

pub section_live : (ahead : Ahead) (before begun : ℕ) (frames : List Frame)
    → Sound (at ahead (AtSection before) begun frames)
    → Live (at ahead (AtSection before) begun frames)
section_live ahead before begun frames sound =
    live_piece ahead (AtSection before) begun frames (93 ∷ 93 ∷ 62 ∷ []) good_brackets
    (close_all begun frames 0 sound.frames sound.roots)
    (λ n raw rest wrote close.
    section_ends n begun frames raw wrote.0 (93 ∷ 93 ∷ 62 ∷ []) rest sound.place.0 wrote.1
    (ap (λ l. l ++ 93 ∷ 93 ∷ 62 ∷ []) wrote.3
    ∙ ap (λ l. 60 ∷ 33 ∷ 91 ∷ l) (append_assoc section_word wrote.0 (93 ∷ 93 ∷ 62 ∷ []))) close)

pub section_word_live : (ahead : Ahead) (left : List ℕ) (begun : ℕ) (frames : List Frame)
    → Sound (at ahead (AtSectionWord left) begun frames)
    → Live (at ahead (AtSectionWord left) begun frames)
section_word_live ahead left begun frames sound =
    live_piece ahead (AtSectionWord left) begun frames (left ++ 93 ∷ 93 ∷ 62 ∷ [])
    (each_append Good left (93 ∷ 93 ∷ 62 ∷ []) (each_behind Good sound.place.1.0 left
    (subst (Each Good) (sym sound.place.1.1) good_word)) good_brackets)
    (close_all begun frames 0 sound.frames sound.roots)
    (λ n raw rest wrote close.
    section_ends n begun frames raw [] (left ++ 93 ∷ 93 ∷ 62 ∷ []) rest sound.place.0 tt
    (ap (λ l. l ++ (left ++ 93 ∷ 93 ∷ 62 ∷ [])) wrote.2
    ∙ ap (λ l. 60 ∷ 33 ∷ 91 ∷ l)
    (sym (append_assoc wrote.0 left (93 ∷ 93 ∷ 62 ∷ []))
    ∙ ap (λ l. l ++ 93 ∷ 93 ∷ 62 ∷ []) wrote.1)) close)
