-- What is owed in comments, and behind `<!`.
use Rattle.std.proofs.Common.{◌≡◌, ◌≢◌, ℕ, zero, suc, ◌==◌, ◌<◌, ◌≤◌, Bool, false, List, [], ◌∷◌}
use Rattle.std.proofs.Common.{◌++◌, length, refl, ap, sym, subst, ◌∙◌, arith, append_assoc}
use Rattle.std.proofs.lemmas.Bool.{eqb-true, eqb-false}
use Rattle.std.proofs.lemmas.List.{append-nil}
use Rattle.dfdl_markup.specs.Grammar.{section_word}
use Rattle.dfdl_markup.specs.Rules.{IsCommentText}
use Rattle.dfdl_markup.specs.Machine.{Ahead, AtOpened, AtBang, AtDash, AtComment, AtSectionWord}
use Rattle.dfdl_markup.specs.Machine.{Frame, wanted, bang_step, dash_step, comment_step, inside}
use Rattle.dfdl_markup.proofs.Rest.{dashes_of, Wrote, Close}
use Rattle.dfdl_markup.proofs.Sound.{Sound}
use Rattle.dfdl_markup.proofs.Answers.{Answer, Live}
use Rattle.dfdl_markup.proofs.Closing.{close_all, grow_comment, good_text}
use Rattle.dfdl_markup.proofs.Moves.{at, malformed, reads_on, reads_piece, live_piece, answer_if}

-- the text of a comment

not_dash : (c : ℕ) → c ≢ 45 → (c == 45) ≡ false
not_dash c different = grind arith

text_on : (dash : Bool) (text : List ℕ) (dashes c : ℕ) → IsCommentText dash text → dashes ≤ 1
    → c ≢ 45 → IsCommentText dash (text ++ (dashes_of dashes ++ c ∷ []))
text_on dash [] zero c is few not = (λ dashed. absurd (cc), not_dash c not)
text_on dash [] (suc zero) c is few not = (λ dashed. absurd (cc), (λ dashed. not, not_dash c not))
text_on dash [] (suc (suc dashes)) c is few not = absurd (omega arith)
text_on dash (d ∷ text) dashes c is few not = (is.0, text_on (d == 45) text dashes c is.1 few not)

more_dashes : (dashes : ℕ) → dashes_of dashes ++ 45 ∷ [] ≡ dashes_of (suc dashes)
more_dashes zero = refl
more_dashes (suc dashes) = ap (λ l. 45 ∷ l) (more_dashes dashes)

section_long : 0 < length section_word
unfolding section_word
section_long = omega arith

-- behind `<!`

pub bang_answers : (ahead : Ahead) (begun : ℕ) (frames : List Frame) (c : ℕ)
    → Sound (at ahead AtBang begun frames)
    → Answer (at ahead AtBang begun frames) c (bang_step (at ahead AtBang begun frames) c)
unfolding bang_step
bang_answers ahead begun frames c sound =
    answer_if (at ahead AtBang begun frames) c (c == 45) _ _
    (λ is. reads_on ahead AtBang AtDash begun frames c sound refl refl tt
    (λ n raw wrote. ap (λ l. l ++ c ∷ []) wrote ∙ ap (λ d. 60 ∷ 33 ∷ d ∷ []) (eqb-true c 45 is)))
    (λ not. answer_if (at ahead AtBang begun frames) c (c == 91) _ _
    (λ is. section_answers frames sound (eqb-true c 91 is)) (λ none. malformed _ c))
  where
    section_answers : (frames : List Frame) → Sound (at ahead AtBang begun frames) → c ≡ 91
        → Answer (at ahead AtBang begun frames) c
        (inside frames (at ahead AtBang begun frames) (AtSectionWord section_word))
    section_answers [] sound is = malformed _ c
    section_answers (frame ∷ frames) sound is =
        reads_on ahead AtBang (AtSectionWord section_word) begun (frame ∷ frames) c sound refl refl
        (tt, ([], refl), section_long)
        (λ n raw wrote. ([], refl, ap (λ l. l ++ c ∷ []) wrote ∙ ap (λ d. 60 ∷ 33 ∷ d ∷ []) is))

pub dash_answers : (ahead : Ahead) (begun : ℕ) (frames : List Frame) (c : ℕ)
    → Sound (at ahead AtDash begun frames)
    → Answer (at ahead AtDash begun frames) c (dash_step (at ahead AtDash begun frames) c)
unfolding dash_step
dash_answers ahead begun frames c sound =
    answer_if (at ahead AtDash begun frames) c (c == 45) _ _
    (λ is. reads_on ahead AtDash (AtComment 0) begun frames c sound refl refl (omega arith)
    (λ n raw wrote. (
      [],
      refl,
      ap (λ l. l ++ c ∷ []) wrote ∙ ap (λ d. 60 ∷ 33 ∷ 45 ∷ d ∷ [])
          (eqb-true c 45 is),
    )))
    (λ not. malformed _ c)

-- in a comment

-- it ends
comment_ends : (n begun : ℕ) (frames : List Frame) (raw rest : List ℕ) (dashes : ℕ)
    (ending : List ℕ) → dashes_of dashes ++ ending ≡ 45 ∷ 45 ∷ 62 ∷ []
    → Wrote n (wanted frames) (AtComment dashes) raw → Close n begun frames 0 rest
    → Close n begun frames 0 (raw ++ (ending ++ rest))
comment_ends n begun frames raw rest dashes ending is wrote close =
    subst (Close n begun frames 0) (sym same) (grow_comment n begun frames 0 wrote.0 rest wrote.1
    close)
  where
    same : raw ++ (ending ++ rest) ≡ 60 ∷ 33 ∷ 45 ∷ 45 ∷ (wrote.0 ++ 45 ∷ 45 ∷ 62 ∷ rest)
    same =
        ap (λ l. l ++ (ending ++ rest)) wrote.2
        ∙ ap (λ l. 60 ∷ 33 ∷ 45 ∷ 45 ∷ l)
        (append_assoc wrote.0 (dashes_of dashes) (ending ++ rest)
        ∙ ap (λ l. wrote.0 ++ l)
        (sym (append_assoc (dashes_of dashes) ending rest) ∙ ap (λ l. l ++ rest) is))

pub comment_answers : (ahead : Ahead) (dashes begun : ℕ) (frames : List Frame) (c : ℕ)
    → Sound (at ahead (AtComment dashes) begun frames)
    → Answer (at ahead (AtComment dashes) begun frames) c
    (comment_step (at ahead (AtComment dashes) begun frames) dashes c)
unfolding comment_step
comment_answers ahead dashes begun frames c sound =
    answer_if (at ahead (AtComment dashes) begun frames) c (dashes == 2) _ _
    (λ two. answer_if (at ahead (AtComment dashes) begun frames) c (c == 62) _ _
    (λ is. reads_piece ahead (AtComment dashes) begun frames c sound
    (λ n raw rest wrote close. comment_ends n begun frames raw rest dashes (c ∷ [])
    (whole (eqb-true dashes 2 two) (eqb-true c 62 is)) wrote close))
    (λ none. malformed _ c))
    (λ not_two. answer_if (at ahead (AtComment dashes) begun frames) c (c == 45) _ _
    (λ is. reads_on ahead (AtComment dashes) (AtComment (suc dashes)) begun frames c sound refl refl
    (fewer (eqb-false dashes 2 not_two))
    (λ n raw wrote. (
      wrote.0,
      wrote.1,
      ap (λ l. l ++ c ∷ []) wrote.2
          ∙ ap (λ l. 60 ∷ 33 ∷ 45 ∷ 45 ∷ l)
          (append_assoc wrote.0 (dashes_of dashes) (c ∷ [])
          ∙ ap (λ l. wrote.0 ++ l)
          (ap (λ d. dashes_of dashes ++ d ∷ []) (eqb-true c 45 is) ∙ more_dashes dashes)),
    )))
    (λ none. reads_on ahead (AtComment dashes) (AtComment 0) begun frames c sound refl refl
    (omega arith)
    (λ n raw wrote. (
      wrote.0 ++ (dashes_of dashes ++ c ∷ []),
      text_on false wrote.0 dashes c wrote.1 (few (eqb-false dashes 2 not_two))
          (eqb-false c 45 none),
      ap (λ l. l ++ c ∷ []) wrote.2
          ∙ ap (λ l. 60 ∷ 33 ∷ 45 ∷ 45 ∷ l)
          (append_assoc wrote.0 (dashes_of dashes) (c ∷ [])
          ∙ sym (append-nil (wrote.0 ++ (dashes_of dashes ++ c ∷ [])))),
    ))))
  where
    most : dashes ≤ 2
    most = sound.place

    fewer : dashes ≢ 2 → suc dashes ≤ 2
    fewer not = omega (arith, most)

    few : dashes ≢ 2 → dashes ≤ 1
    few not = omega (arith, most)

    whole : dashes ≡ 2 → c ≡ 62 → dashes_of dashes ++ c ∷ [] ≡ 45 ∷ 45 ∷ 62 ∷ []
    whole two is = ap (λ d. dashes_of d ++ c ∷ []) two ∙ ap (λ d. 45 ∷ 45 ∷ d ∷ []) is

-- what goes on from there

-- an empty comment
empty_comment : (n begun : ℕ) (frames : List Frame) (raw front ending rest : List ℕ)
    → raw ≡ front → front ++ ending ≡ 60 ∷ 33 ∷ 45 ∷ 45 ∷ 45 ∷ 45 ∷ 62 ∷ []
    → Close n begun frames 0 rest → Close n begun frames 0 (raw ++ (ending ++ rest))
empty_comment n begun frames raw front ending rest is all close =
    subst (Close n begun frames 0)
    (sym (sym (append_assoc raw ending rest)
    ∙ ap (λ l. l ++ rest) (ap (λ l. l ++ ending) is ∙ all)))
    (grow_comment n begun frames 0 [] rest refl close)

pub opened_live : (ahead : Ahead) (begun : ℕ) (frames : List Frame)
    → Sound (at ahead AtOpened begun frames) → Live (at ahead AtOpened begun frames)
opened_live ahead begun frames sound =
    live_piece ahead AtOpened begun frames (33 ∷ 45 ∷ 45 ∷ 45 ∷ 45 ∷ 62 ∷ [])
    (good_text (33 ∷ 45 ∷ 45 ∷ 45 ∷ 45 ∷ 62 ∷ []) refl)
    (close_all begun frames 0 sound.frames sound.roots)
    (λ n raw rest wrote close. empty_comment n begun frames raw (60 ∷ [])
    (33 ∷ 45 ∷ 45 ∷ 45 ∷ 45 ∷ 62 ∷ []) rest wrote refl close)

pub bang_live : (ahead : Ahead) (begun : ℕ) (frames : List Frame)
    → Sound (at ahead AtBang begun frames) → Live (at ahead AtBang begun frames)
bang_live ahead begun frames sound =
    live_piece ahead AtBang begun frames (45 ∷ 45 ∷ 45 ∷ 45 ∷ 62 ∷ [])
    (good_text (45 ∷ 45 ∷ 45 ∷ 45 ∷ 62 ∷ []) refl)
    (close_all begun frames 0 sound.frames sound.roots)
    (λ n raw rest wrote close. empty_comment n begun frames raw (60 ∷ 33 ∷ [])
    (45 ∷ 45 ∷ 45 ∷ 45 ∷ 62 ∷ []) rest wrote refl close)

pub dash_live : (ahead : Ahead) (begun : ℕ) (frames : List Frame)
    → Sound (at ahead AtDash begun frames) → Live (at ahead AtDash begun frames)
dash_live ahead begun frames sound =
    live_piece ahead AtDash begun frames (45 ∷ 45 ∷ 45 ∷ 62 ∷ [])
    (good_text (45 ∷ 45 ∷ 45 ∷ 62 ∷ []) refl)
    (close_all begun frames 0 sound.frames sound.roots)
    (λ n raw rest wrote close. empty_comment n begun frames raw (60 ∷ 33 ∷ 45 ∷ [])
    (45 ∷ 45 ∷ 45 ∷ 62 ∷ []) rest wrote refl close)

pub comment_live : (ahead : Ahead) (dashes begun : ℕ) (frames : List Frame)
    → Sound (at ahead (AtComment dashes) begun frames)
    → Live (at ahead (AtComment dashes) begun frames)
comment_live ahead zero begun frames sound =
    live_piece ahead (AtComment zero) begun frames (45 ∷ 45 ∷ 62 ∷ [])
    (good_text (45 ∷ 45 ∷ 62 ∷ []) refl)
    (close_all begun frames 0 sound.frames sound.roots)
    (λ n raw rest wrote close. comment_ends n begun frames raw rest zero
    (45 ∷ 45 ∷ 62 ∷ []) refl wrote close)
comment_live ahead (suc zero) begun frames sound =
    live_piece ahead (AtComment (suc zero)) begun frames (45 ∷ 62 ∷ [])
    (good_text (45 ∷ 62 ∷ []) refl)
    (close_all begun frames 0 sound.frames sound.roots)
    (λ n raw rest wrote close. comment_ends n begun frames raw rest (suc zero)
    (45 ∷ 62 ∷ []) refl wrote close)
comment_live ahead (suc (suc zero)) begun frames sound =
    live_piece ahead (AtComment (suc (suc zero))) begun frames (62 ∷ []) (good_text (62 ∷ []) refl)
    (close_all begun frames 0 sound.frames sound.roots)
    (λ n raw rest wrote close. comment_ends n begun frames raw rest (suc (suc zero))
    (62 ∷ []) refl wrote close)
comment_live ahead (suc (suc (suc dashes))) begun frames sound =
    absurd (omega (arith, sound.place))
