-- The tree that is built while a document is read is the document's, and the reader that builds it
-- is the machine.
use Rattle.std.proofs.Common.{◌≡◌, ℕ, ◌+◌, Bool, true, false, List, [], ◌∷◌, ◌++◌, length, Option}
use Rattle.std.proofs.Common.{Some, None, Result, Ok, Err, refl, ap, ap₂, sym, subst, ◌∙◌, arith}
use Rattle.std.proofs.lemmas.List.{append-nil}
use Rattle.dfdl_layers.specs.Tellers.{go_on, run}
use Rattle.dfdl_markup.specs.Grammar.{is_white, Declaration, declaration_characters}
use Rattle.dfdl_markup.specs.Grammar.{declaration_inside, mark_characters, Document, spelling}
use Rattle.dfdl_markup.specs.Grammar.{xml_word, Content}
use Rattle.dfdl_markup.specs.Values.{outer_scope}
use Rattle.dfdl_markup.specs.Rules.{MayDeclareItself, ContentKeeps, IsDocument}
use Rattle.dfdl_markup.specs.Trees.{Node, size, numbers, text_of, nodes_of, document_nodes}
use Rattle.dfdl_markup.specs.Machine.{Ahead, MarkAhead, DeclarationAhead, AtContent, State, start}
use Rattle.dfdl_markup.specs.Machine.{step, content_step}
use Rattle.dfdl_markup.specs.Building.{Built, changed_in, first_of, effect_at, build, nothing_built}
use Rattle.dfdl_markup.specs.Building.{Reader, with_built, build_step, build_start}
use Rattle.dfdl_markup.proofs.RunSteps.{state}
use Rattle.dfdl_markup.proofs.BuiltLists.{size_append, with_more}
use Rattle.dfdl_markup.proofs.BuiltSteps.{reader, one_runs, moved}
use Rattle.dfdl_markup.proofs.BuiltRuns.{Piece, plain_runs}
use Rattle.dfdl_markup.proofs.BuiltContents.{Fits, Done}
use Rattle.dfdl_markup.proofs.BuiltInner.{content_built}
use Rattle.dfdl_markup.proofs.BuiltDeclarations.{declaration_through}

-- the run stands before the content of a document, with no element so far and so many bytes read
record Before (bytes : ℕ) (tail : List ℕ) (last : Reader) : Type 0 where
  ahead : Ahead
  before : ℕ
  begun : ℕ
  built : Built
  nodes : built.nodes ≡ []
  ancestors : built.ancestors ≡ []
  at : built.at ≡ bytes
  runs : run build_step (reader (state ahead (AtContent before) begun []) built) tail ≡ Ok last

start_runs : (tail : List ℕ) (last : Reader) → run build_step build_start tail ≡ Ok last
    → Before 0 tail last
unfolding start nothing_built
start_runs tail last runs = record {
  ahead = MarkAhead;
  before = 0;
  begun = 0;
  built = nothing_built;
  nodes = refl;
  ancestors = refl;
  at = refl;
  runs = runs;
}

-- a byte order mark
mark_runs : (mark : Bool) (tail : List ℕ) (last : Reader)
    → run build_step build_start (mark_characters mark ++ tail) ≡ Ok last
    → Before (size (mark_characters mark)) tail last
unfolding start nothing_built step content_step is_white
mark_runs false tail last runs = start_runs tail last runs
mark_runs true tail last runs = record {
  ahead = DeclarationAhead;
  before = 0;
  begun = 0;
  built = moved (size (0xFEFF ∷ [])) nothing_built;
  nodes = refl;
  ancestors = refl;
  at = omega arith;
  runs = one_runs (state MarkAhead (AtContent 0) 0 []) (state DeclarationAhead (AtContent 0) 0 [])
      0xFEFF
      nothing_built tail last refl runs;
}

-- an XML declaration
declaration_runs : (declaration : Option Declaration) (bytes : ℕ) (tail : List ℕ) (last : Reader)
    (n : ℕ)
    → MayDeclareItself n declaration → Before bytes (declaration_characters declaration ++ tail)
    last
    → Before (bytes + size (declaration_characters declaration)) tail last
declaration_runs None bytes tail last n keeps from = record {
  ahead = from.ahead;
  before = from.before;
  begun = from.begun;
  built = from.built;
  nodes = from.nodes;
  ancestors = from.ancestors;
  at = omega (arith, from.at);
  runs = from.runs;
}
declaration_runs (Some declaration) bytes tail last n keeps from =
    let written : List ℕ = 63 ∷ (xml_word ++ (declaration_inside declaration ++ 63 ∷ 62 ∷ [])) in
    let piece : Piece [] from.built [] [] [] (size (60 ∷ written)) false tail last =
    plain_runs [] from.ahead from.before from.begun from.built written tail last
    (λ a. declaration_through a from.begun [] n declaration keeps) from.runs in
    record {
      ahead = piece.ahead;
      before = piece.before;
      begun = piece.begun;
      built = piece.built;
      nodes = piece.grows.nodes
          ∙ ap₂ (λ a l. changed_in (with_more [] []) a l ++ []) from.ancestors from.nodes;
      ancestors = piece.grows.ancestors ∙ from.ancestors;
      at = piece.grows.at ∙ ap (λ k. k + size (60 ∷ written)) from.at;
      runs = piece.runs;
    }

-- the content
content_runs : (content : Content) (bytes : ℕ) (last : Reader)
    → ContentKeeps 13 0 outer_scope 0 content
    → Before bytes (spelling content) last → last.built.nodes ≡ nodes_of content None 0 bytes
content_runs content bytes last keeps from =
    let done : Done [] from.built content [] last =
    content_built content [] outer_scope 0 from.built [] last keeps fits from.ahead from.before
    from.begun
    (subst (λ w. run build_step (reader (state from.ahead (AtContent from.before) from.begun [])
    from.built) w ≡ Ok last)
    (sym (append-nil (spelling content))) from.runs) in
    let same : reader (state done.ahead (AtContent done.before) done.begun []) done.built ≡ last =
    is_last (reader (state done.ahead (AtContent done.before) done.begun []) done.built)
    (run build_step (reader (state done.ahead (AtContent done.before) done.begun []) done.built) [])
    refl
    done.runs in
    sym (ap (λ r. r.built.nodes) same) ∙ (done.adds.nodes
    ∙ by_parts from.built.nodes from.built.ancestors from.built.at from.built.behind_cr from.nodes
    from.ancestors from.at)
  where
    fits : Fits [] from.built.ancestors (length from.built.nodes)
    fits = subst (λ a. Fits [] a (length from.built.nodes)) (sym from.ancestors) tt

    is_last : (r : Reader) (answer : Result Reader ℕ) → answer ≡ Ok r → answer ≡ Ok last → r ≡ last
    is_last r answer e f = cc

    by_parts : (nodes : List Node) (ancestors : List ℕ) (at : ℕ) (cr : Bool) → nodes ≡ []
        → ancestors ≡ [] → at ≡ bytes
        → changed_in (with_more (numbers content (length nodes)) (text_of cr content)) ancestors
        nodes
        ++ nodes_of content (first_of ancestors) (length nodes) at ≡ nodes_of content None 0 bytes
    by_parts [] [] at cr first second third = ap (λ k. nodes_of content None 0 k) third
    by_parts [] (element ∷ ancestors) at cr first second third = absurd (cc)
    by_parts (n ∷ nodes) ancestors at cr first second third = absurd (cc)

pub tree_is_built : (document : Document) (characters : List ℕ) → IsDocument 13 document characters
    → (r : Reader) → run build_step build_start characters ≡ Ok r
    → r.built.nodes ≡ document_nodes document
tree_is_built document characters is r runs =
    let mark : List ℕ = mark_characters document.mark in
    let declaration : List ℕ = declaration_characters document.declaration in
    let first : Before (size mark) (declaration ++ spelling document.content) r =
    mark_runs document.mark (declaration ++ spelling document.content) r
    (subst (λ w. run build_step build_start w ≡ Ok r) is.spelled runs) in
    let second : Before (size mark + size declaration) (spelling document.content) r =
    declaration_runs document.declaration (size mark) (spelling document.content) r 13
    is.declaration first in
    content_runs document.content (size mark + size declaration) r is.content second
    ∙ ap (λ k. nodes_of document.content None 0 k) (sym (size_append mark declaration))

-- the reader is in the state of the machine, and tells the rule that the machine tells
abbrev pub IsBuiltOf : Result Reader ℕ → Result State ℕ → Type 0
IsBuiltOf (Ok r) answer = answer ≡ Ok r.state
IsBuiltOf (Err rule) answer = answer ≡ Err rule

runs_from : (s : State) (b : Built) (characters : List ℕ)
    → IsBuiltOf (run build_step (reader s b) characters) (run step s characters)
runs_from s b [] = refl
runs_from s b (c ∷ characters) =
    by_answer (step s c) (build (effect_at s.place s c) (size (c ∷ [])) b)
    (λ t d. runs_from t d characters)
  where
    by_answer : (answer : Result State ℕ) (d : Built)
        → ((t : State) (d : Built) → IsBuiltOf (run build_step (reader t d) characters)
        (run step t characters))
        → IsBuiltOf (go_on (λ r. run build_step r characters) (with_built d answer))
        (go_on (λ t. run step t characters) answer)
    by_answer (Ok t) d more = more t d
    by_answer (Err rule) d more = refl

pub built_answers : (characters : List ℕ)
    → IsBuiltOf (run build_step build_start characters) (run step start characters)
built_answers characters = runs_from start nothing_built characters

pub built_runs : (characters : List ℕ) (r : Reader) → run build_step build_start characters ≡ Ok r
    → run step start characters ≡ Ok r.state
built_runs characters r is =
    subst (λ a. IsBuiltOf a (run step start characters)) is (built_answers characters)

pub built_tells : (characters : List ℕ) (rule : ℕ)
    → run build_step build_start characters ≡ Err rule → run step start characters ≡ Err rule
built_tells characters rule is =
    subst (λ a. IsBuiltOf a (run step start characters)) is (built_answers characters)
