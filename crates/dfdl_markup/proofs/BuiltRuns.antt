-- Runs over the pieces of a content, and what they add to the tree.
use Rattle.std.proofs.Common.{◌≡◌, ℕ, ◌+◌, ◌==◌, ◌&&◌, Bool, true, false, not, List, [], ◌∷◌, ◌++◌}
use Rattle.std.proofs.Common.{if◌then◌else◌, Ok, Err, refl, sym, subst, ◌∙◌, arith}
use Rattle.std.proofs.lemmas.List.{append-nil}
use Rattle.dfdl_layers.specs.Tellers.{run}
use Rattle.dfdl_markup.specs.Grammar.{is_white}
use Rattle.dfdl_markup.specs.Rules.{is_text, brackets}
use Rattle.dfdl_markup.specs.Trees.{Node, size, line_read}
use Rattle.dfdl_markup.specs.Machine.{AtContent, AtOpened, Ahead, NothingAhead, Frame, State, step}
use Rattle.dfdl_markup.specs.Machine.{content_step}
use Rattle.dfdl_markup.specs.Building.{Stays, Opens, Reads, content_effect, Built, build, Reader}
use Rattle.dfdl_markup.specs.Building.{build_step, changed_in}
use Rattle.dfdl_markup.proofs.RunSteps.{state, if_false}
use Rattle.dfdl_markup.proofs.RunNames.{white_is}
use Rattle.dfdl_markup.proofs.BuiltLists.{size_append, with_more, text_more, nothing_more}
use Rattle.dfdl_markup.proofs.BuiltSteps.{MayBe, reader, one_runs, moved, Through}
use Rattle.dfdl_markup.proofs.BuiltReferences.{if_false_may, if_true_may}
use Rattle.dfdl_markup.proofs.BuiltSections.{texted, and_true}
use Rattle.dfdl_markup.proofs.BuiltGrowth.{Grows}

-- the run goes on between pieces of markup, with a tree that grew
pub record Piece (frames : List Frame) (b : Built) (children text : List ℕ) (added : List Node)
    (bytes : ℕ) (cr : Bool) (tail : List ℕ) (last : Reader) : Type 0 where
  pub ahead : Ahead
  pub before : ℕ
  pub begun : ℕ
  pub built : Built
  pub grows : Grows b children text added bytes built
  pub behind : built.behind_cr ≡ cr
  pub runs : run build_step (reader (state ahead (AtContent before) begun frames) built) tail ≡ Ok
      last

-- behind the `<` of a piece
abbrev pub opened : Built → Built
opened b = build Opens (size (60 ∷ [])) b

pub record Begun (frames : List Frame) (begun : ℕ) (b : Built) (tail : List ℕ) (last : Reader) :
    Type 0 where
  pub ahead : Ahead
  pub runs : run build_step (reader (state ahead AtOpened begun frames) (opened b)) tail ≡ Ok last

pub open_runs : (frames : List Frame) (ahead : Ahead) (before begun : ℕ) (b : Built) (tail : List ℕ)
    (last : Reader)
    → run build_step (reader (state ahead (AtContent before) begun frames) b) (60 ∷ tail) ≡ Ok last
    → Begun frames begun b tail last
unfolding step content_step
open_runs [] ahead before begun b tail last runs = record {
  ahead = ahead;
  runs = one_runs (state ahead (AtContent before) begun []) (state ahead AtOpened begun []) 60 b
      tail last refl runs;
}
open_runs (frame ∷ frames) ahead before begun b tail last runs = record {
  ahead = NothingAhead;
  runs = one_runs (state ahead (AtContent before) begun (frame ∷ frames))
      (state NothingAhead AtOpened begun (frame ∷ frames)) 60 b tail last refl runs;
}

-- nothing is added but bytes
pub grows_bytes : (b c : Built) (bytes : ℕ) → c.nodes ≡ b.nodes → c.ancestors ≡ b.ancestors
    → c.at ≡ b.at + bytes → Grows b [] [] [] bytes c
grows_bytes b c bytes nodes ancestors at = record {
  nodes = nodes ∙ sym (append-nil (changed_in (with_more [] []) b.ancestors b.nodes)
      ∙ nothing_more b.ancestors b.nodes);
  ancestors = ancestors;
  at = at;
}

-- a comment or a processing instruction
pub plain_runs : (frames : List Frame) (ahead : Ahead) (before begun : ℕ) (b : Built)
    (piece tail : List ℕ)
    (last : Reader)
    → ((a : Ahead) → Through (state a AtOpened begun frames) piece
    (state NothingAhead (AtContent 0) begun frames))
    → run build_step (reader (state ahead (AtContent before) begun frames) b) (60 ∷ (piece ++ tail))
    ≡ Ok last
    → Piece frames b [] [] [] (size (60 ∷ piece)) false tail last
plain_runs frames ahead before begun b piece tail last through runs =
    let start : Begun frames begun b (piece ++ tail) last =
    open_runs frames ahead before begun b (piece ++ tail) last runs in
    let sum : b.at + size (60 ∷ []) + size piece ≡ b.at + size (60 ∷ piece) =
    omega (arith, size_append (60 ∷ []) piece) in
    record {
      ahead = NothingAhead;
      before = 0;
      begun = begun;
      built = moved (size piece) (opened b);
      grows = grows_bytes b (moved (size piece) (opened b)) (size (60 ∷ piece)) refl refl sum;
      behind = refl;
      runs = (through start.ahead).runs (opened b) tail last start.runs;
    }

-- text is added
pub grows_text : (b : Built) (text : List ℕ) (cr : Bool) (bytes : ℕ)
    → Grows b [] text [] bytes (texted text cr bytes b)
grows_text b text cr bytes = record {
  nodes = text_more text b.ancestors b.nodes
      ∙ sym (append-nil (changed_in (with_more [] text) b.ancestors b.nodes));
  ancestors = refl;
  at = refl;
}

text_tests : (a b : Bool) → (not a && not b) ≡ true → (a ≡ false) × (b ≡ false)
text_tests false false e = (refl, refl)
text_tests true b e = absurd (cc)
text_tests false true e = absurd (cc)

no_marks : (c : ℕ) → is_text c ≡ true → ((c == 60) ≡ false) × ((c == 38) ≡ false)
unfolding is_text
no_marks c is = text_tests (c == 60) (c == 38) is

-- a character inside of the root
character_may : (frame : Frame) (frames : List Frame) (ahead : Ahead) (before begun c : ℕ)
    → is_text c ≡ true
    → MayBe (step (state ahead (AtContent before) begun (frame ∷ frames)) c)
    (state NothingAhead (AtContent (brackets before c)) begun (frame ∷ frames))
unfolding step content_step
character_may frame frames ahead before begun c is =
    let marks : ((c == 60) ≡ false) × ((c == 38) ≡ false) = no_marks c is in
    if_false_may (c == 60) _ _ _ marks.0 (if_false_may (c == 38) _ _ _ marks.1
    (by_test (before == 2 && c == 62)))
  where
    by_test : (test : Bool) → MayBe (if test then Err 3 else
        Ok (state NothingAhead (AtContent (brackets before c)) begun (frame ∷ frames)))
        (state NothingAhead (AtContent (brackets before c)) begun (frame ∷ frames))
    by_test true = tt
    by_test false = refl

character_effect : (frame : Frame) (frames : List Frame) (c : ℕ) → is_text c ≡ true
    → content_effect (frame ∷ frames) c ≡ Reads 0 c
character_effect frame frames c is =
    let marks : ((c == 60) ≡ false) × ((c == 38) ≡ false) = no_marks c is in
    if_false (c == 60) _ _ marks.0 ∙ if_false (c == 38) _ _ marks.1

pub character_runs : (frame : Frame) (frames : List Frame) (ahead : Ahead) (before begun : ℕ)
    (b : Built)
    (c : ℕ) (tail : List ℕ) (last : Reader) → is_text c ≡ true
    → run build_step (reader (state ahead (AtContent before) begun (frame ∷ frames)) b) (c ∷ tail) ≡
    Ok last
    → Piece (frame ∷ frames) b [] (line_read b.behind_cr c) [] (size (c ∷ [])) (c == 13) tail last
character_runs frame frames ahead before begun b c tail last is runs = record {
  ahead = NothingAhead;
  before = brackets before c;
  begun = begun;
  built = texted (line_read b.behind_cr c) (c == 13) (size (c ∷ [])) b;
  grows = grows_text b (line_read b.behind_cr c) (c == 13) (size (c ∷ []));
  behind = refl;
  runs = subst (λ cr. run build_step (reader behind
      (texted (line_read cr c) (c == 13) (size (c ∷ [])) b)) tail ≡ Ok last)
      (and_true b.behind_cr)
      (subst (λ e. run build_step (reader behind (build e (size (c ∷ [])) b)) tail ≡ Ok last)
      (character_effect frame frames c is)
      (one_runs (state ahead (AtContent before) begun (frame ∷ frames)) behind c b tail last
      (character_may frame frames ahead before begun c is) runs));
}
  where
    behind : State
    behind = state NothingAhead (AtContent (brackets before c)) begun (frame ∷ frames)

-- white space outside of the root
white_no_open : (c : ℕ) → is_white c ≡ true → (c == 60) ≡ false
white_no_open c is = white_is (λ d. (d == 60) ≡ false) c refl refl refl refl is

white_may : (ahead : Ahead) (before begun c : ℕ) → is_white c ≡ true
    → MayBe (step (state ahead (AtContent before) begun []) c)
    (state NothingAhead (AtContent 0) begun [])
unfolding step content_step
white_may ahead before begun c is =
    if_false_may (c == 60) _ _ _ (white_no_open c is) (if_true_may (is_white c) _ _ _ is refl)

pub white_runs : (ahead : Ahead) (before begun : ℕ) (b : Built) (c : ℕ) (tail : List ℕ)
    (last : Reader)
    → is_white c ≡ true
    → run build_step (reader (state ahead (AtContent before) begun []) b) (c ∷ tail) ≡ Ok last
    → Piece [] b [] [] [] (size (c ∷ [])) b.behind_cr tail last
white_runs ahead before begun b c tail last is runs = record {
  ahead = NothingAhead;
  before = 0;
  begun = begun;
  built = moved (size (c ∷ [])) b;
  grows = grows_bytes b (moved (size (c ∷ [])) b) (size (c ∷ [])) refl refl refl;
  behind = refl;
  runs = subst (λ e. run build_step (reader (state NothingAhead (AtContent 0) begun [])
      (build e (size (c ∷ [])) b)) tail ≡ Ok last)
      (if_false (c == 60) Opens Stays (white_no_open c is))
      (one_runs (state ahead (AtContent before) begun [])
      (state NothingAhead (AtContent 0) begun []) c b tail last
      (white_may ahead before begun c is) runs);
}
