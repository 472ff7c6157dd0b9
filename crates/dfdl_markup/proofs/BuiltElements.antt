-- Runs over references, sections and elements, and what they add to the tree.
use Rattle.std.proofs.Common.{◌≡◌, ℕ, true, false, List, [], ◌∷◌, ◌++◌, length, Option, Ok, refl}
use Rattle.std.proofs.Common.{ap, sym, subst, ◌∙◌, append_assoc, arith}
use Rattle.std.proofs.lemmas.List.{append-nil}
use Rattle.dfdl_layers.specs.Tellers.{run}
use Rattle.dfdl_markup.specs.Grammar.{Reference, reference_characters, reference_inside, Tag}
use Rattle.dfdl_markup.specs.Grammar.{tag_characters, section_word, Name, name_characters}
use Rattle.dfdl_markup.specs.Values.{referred, Binding, same_name}
use Rattle.dfdl_markup.specs.Rules.{ReferenceKeeps, HasNoEnd, TagKeeps, IsName, AreWhite}
use Rattle.dfdl_markup.specs.Rules.{attributes_of}
use Rattle.dfdl_markup.specs.Trees.{Node, size, lines_read}
use Rattle.dfdl_markup.specs.Machine.{InContent, Place, AtContent, AtOpened, AtReference, AtSlash}
use Rattle.dfdl_markup.specs.Machine.{Ahead, NothingAhead, Frame, State, step, content_step}
use Rattle.dfdl_markup.specs.Machine.{slash_step, begun_by, frame_of, StartTag}
use Rattle.dfdl_markup.specs.Building.{Enters, Adds as AddsOne, Leaves, Built, build, Reader}
use Rattle.dfdl_markup.specs.Building.{build_step, changed_in, first_of}
use Rattle.dfdl_markup.proofs.RunSteps.{state}
use Rattle.dfdl_markup.proofs.BuiltLists.{size_append, with_more, text_more, child_more}
use Rattle.dfdl_markup.proofs.BuiltSteps.{MayBe, reader, one_runs, moved, Through, through_both}
use Rattle.dfdl_markup.proofs.BuiltSteps.{through_one}
use Rattle.dfdl_markup.proofs.BuiltReferences.{reference_place, reference_through, semicolon_may}
use Rattle.dfdl_markup.proofs.BuiltReferences.{semicolon_effect}
use Rattle.dfdl_markup.proofs.BuiltTags.{MayEnd}
use Rattle.dfdl_markup.proofs.BuiltAttributes.{TagRead, tag_read, start_tag}
use Rattle.dfdl_markup.proofs.BuiltPieces.{section_begun, EndRead, end_read}
use Rattle.dfdl_markup.proofs.BuiltSections.{texted, texted_behind, section_runs}
use Rattle.dfdl_markup.proofs.BuiltRuns.{Piece, opened, Begun, open_runs, grows_text}

-- a reference inside of the root
refer_may : (frame : Frame) (frames : List Frame) (ahead : Ahead) (before begun : ℕ)
    → MayBe (step (state ahead (AtContent before) begun (frame ∷ frames)) 38)
    (state NothingAhead (AtReference InContent) begun (frame ∷ frames))
unfolding step content_step
refer_may frame frames ahead before begun = refl

pub reference_runs : (frame : Frame) (frames : List Frame) (ahead : Ahead) (before begun : ℕ)
    (b : Built)
    (n : ℕ) (reference : Reference) (tail : List ℕ) (last : Reader) → ReferenceKeeps n reference
    → run build_step (reader (state ahead (AtContent before) begun (frame ∷ frames)) b)
    (reference_characters reference ++ tail) ≡ Ok last
    → Piece (frame ∷ frames) b [] (referred reference ∷ []) []
    (size (reference_characters reference)) false tail last
reference_runs frame frames ahead before begun b n reference tail last keeps runs = record {
  ahead = NothingAhead;
  before = 0;
  begun = begun;
  built = texted text false total b;
  grows = grows_text b text false total;
  behind = refl;
  runs = subst (λ w. run build_step (reader (here (AtContent 0)) w) tail ≡ Ok last)
      (texted_behind text text false (size (38 ∷ inside)) (size (59 ∷ [])) total b refl
      (sym (size_append (38 ∷ inside) (59 ∷ []))))
      (subst (λ e. run build_step (reader (here (AtContent 0))
      (build e (size (59 ∷ [])) (moved (size (38 ∷ inside)) b))) tail ≡ Ok last)
      (semicolon_effect begun (frame ∷ frames) InContent reference)
      (one_runs (here (reference_place InContent reference)) (here (AtContent 0)) 59
      (moved (size (38 ∷ inside)) b) tail last
      (semicolon_may begun (frame ∷ frames) InContent reference)
      (to_end.runs b (59 ∷ tail) last
      (subst (λ w. run build_step (reader from b) (38 ∷ w) ≡ Ok last)
      (append_assoc inside (59 ∷ []) tail) runs))));
}
  where
    inside : List ℕ
    inside = reference_inside reference

    text : List ℕ
    text = referred reference ∷ []

    total : ℕ
    total = size (reference_characters reference)

    here : Place → State
    here place = state NothingAhead place begun (frame ∷ frames)

    from : State
    from = state ahead (AtContent before) begun (frame ∷ frames)

    to_end : Through from (38 ∷ inside) (here (reference_place InContent reference))
    to_end = through_both from (here (AtReference InContent))
        (here (reference_place InContent reference))
        (38 ∷ []) inside
        (through_one from (here (AtReference InContent)) 38
        (refer_may frame frames ahead before begun) refl)
        (reference_through begun (frame ∷ frames) InContent n reference keeps)

-- a section
pub section_piece : (frame : Frame) (frames : List Frame) (ahead : Ahead) (before begun : ℕ)
    (b : Built)
    (text tail : List ℕ) (last : Reader) → HasNoEnd 0 text
    → run build_step (reader (state ahead (AtContent before) begun (frame ∷ frames)) b)
    (60 ∷ 33 ∷ 91 ∷ ((section_word ++ (text ++ 93 ∷ 93 ∷ 62 ∷ [])) ++ tail)) ≡ Ok last
    → Piece (frame ∷ frames) b [] (lines_read false text) []
    (size (60 ∷ 33 ∷ 91 ∷ (section_word ++ (text ++ 93 ∷ 93 ∷ 62 ∷ [])))) false tail last
section_piece frame frames ahead before begun b text tail last is runs = record {
  ahead = NothingAhead;
  before = 0;
  begun = begun;
  built = texted (lines_read false text) false (size body) inside;
  grows = record {
    nodes = text_more (lines_read false text) b.ancestors b.nodes
        ∙ sym (append-nil (changed_in (with_more [] (lines_read false text)) b.ancestors b.nodes));
    ancestors = refl;
    at = omega (
      arith,
      size_append (60 ∷ []) (33 ∷ 91 ∷ (section_word ++ body)),
      size_append (33 ∷ 91 ∷ section_word) body,
    );
  };
  behind = refl;
  runs = (section_runs begun (frame ∷ frames) 0 text (omega arith) is).runs inside tail last
      ((section_begun begun frame frames start.ahead).runs (opened b) (body ++ tail) last
      start.runs);
}
  where
    body : List ℕ
    body = text ++ 93 ∷ 93 ∷ 62 ∷ []

    inside : Built
    inside = moved (size (33 ∷ 91 ∷ section_word)) (opened b)

    start : Begun (frame ∷ frames) begun b ((33 ∷ 91 ∷ section_word) ++ (body ++ tail)) last
    start = open_runs (frame ∷ frames) ahead before begun b
        (33 ∷ 91 ∷ (section_word ++ (body ++ tail))) last
        (subst (λ w. run build_step (reader (state ahead (AtContent before) begun (frame ∷ frames))
        b)
        (60 ∷ 33 ∷ 91 ∷ w) ≡ Ok last) (append_assoc section_word body tail) runs)

-- an element of the tree
abbrev pub element_of : Tag → Option ℕ → List ℕ → List ℕ → ℕ → Node
element_of tag parent children text at = record {
  name = tag.name;
  attributes = attributes_of tag;
  parent = parent;
  children = children;
  text = text;
  at = at;
}

-- up to the end of a start tag
pub record TagBegun (frames : List Frame) (begun : ℕ) (b : Built) (tag : Tag) (tail : List ℕ)
    (last : Reader) : Type 0 where
  pub place : Place
  pub ends : MayEnd begun frames place (start_tag tag)
  pub runs : run build_step (reader (state NothingAhead place begun frames)
      (moved (size (tag_characters tag)) (opened b))) tail ≡ Ok last

pub tag_runs : (frames : List Frame) (scope : List Binding) (ahead : Ahead) (before begun : ℕ)
    (b : Built)
    (tag : Tag) (n : ℕ) (tail : List ℕ) (last : Reader) → TagKeeps n scope tag
    → run build_step (reader (state ahead (AtContent before) begun frames) b)
    (60 ∷ (tag_characters tag ++ tail)) ≡ Ok last
    → TagBegun frames begun b tag tail last
tag_runs frames scope ahead before begun b tag n tail last keeps runs =
    let start : Begun frames begun b (tag_characters tag ++ tail) last =
    open_runs frames ahead before begun b (tag_characters tag ++ tail) last runs in
    let read : TagRead begun frames (state start.ahead AtOpened begun frames) (tag_characters tag)
    (start_tag tag) =
    tag_read begun frames n scope start.ahead tag keeps in
    record {
      place = read.place;
      ends = read.ends;
      runs = read.through.runs (opened b) tail last start.runs;
    }

-- one that closes itself
slash_may : (frames : List Frame) (begun : ℕ) (tag : StartTag)
    → MayBe (step (state NothingAhead (AtSlash tag) begun frames) 62)
    (state NothingAhead (AtContent 0) (begun_by begun frames) frames)
unfolding step slash_step
slash_may frames begun tag = refl

pub single_runs : (frames : List Frame) (scope : List Binding) (ahead : Ahead) (before begun : ℕ)
    (b : Built)
    (tag : Tag) (n : ℕ) (tail : List ℕ) (last : Reader) → TagKeeps n scope tag
    → run build_step (reader (state ahead (AtContent before) begun frames) b)
    (60 ∷ (tag_characters tag ++ 47 ∷ 62 ∷ tail)) ≡ Ok last
    → Piece frames b (length b.nodes ∷ []) []
    (element_of tag (first_of b.ancestors) [] [] b.at ∷ [])
    (size (60 ∷ (tag_characters tag ++ 47 ∷ 62 ∷ []))) false tail last
single_runs frames scope ahead before begun b tag n tail last keeps runs = record {
  ahead = NothingAhead;
  before = 0;
  begun = begun_by begun frames;
  built = build (AddsOne (start_tag tag)) (size (62 ∷ [])) slashed;
  grows = record {
    nodes = ap (λ l. l ++ element_of tag (first_of b.ancestors) [] [] b.at ∷ [])
        (child_more (length b.nodes) b.ancestors b.nodes);
    ancestors = refl;
    at = omega (
      arith,
      size_append (60 ∷ []) (tag_characters tag ++ 47 ∷ 62 ∷ []),
      size_append (tag_characters tag) (47 ∷ 62 ∷ []),
      size_append (47 ∷ []) (62 ∷ []),
    );
  };
  behind = refl;
  runs = one_runs (here (AtSlash (start_tag tag))) behind 62 slashed tail last
      (slash_may frames begun (start_tag tag))
      ((through_one (here start.place) (here (AtSlash (start_tag tag))) 47 start.ends.slash
      start.ends.slash_stays).runs (moved (size (tag_characters tag)) (opened b)) (62 ∷ tail) last
      start.runs);
}
  where
    here : Place → State
    here place = state NothingAhead place begun frames

    behind : State
    behind = state NothingAhead (AtContent 0) (begun_by begun frames) frames

    slashed : Built
    slashed = moved (size (47 ∷ [])) (moved (size (tag_characters tag)) (opened b))

    start : TagBegun frames begun b tag (47 ∷ 62 ∷ tail) last
    start = tag_runs frames scope ahead before begun b tag n (47 ∷ 62 ∷ tail) last keeps runs

-- behind the start tag of one that is closed by an end tag
abbrev pub entered_built : Tag → Built → Built
entered_built tag b =
    build (Enters (start_tag tag)) (size (62 ∷ [])) (moved (size (tag_characters tag)) (opened b))

pub enter_runs : (frames : List Frame) (scope : List Binding) (ahead : Ahead) (before begun : ℕ)
    (b : Built)
    (tag : Tag) (n : ℕ) (tail : List ℕ) (last : Reader) → TagKeeps n scope tag
    → run build_step (reader (state ahead (AtContent before) begun frames) b)
    (60 ∷ (tag_characters tag ++ 62 ∷ tail)) ≡ Ok last
    → run build_step (reader (state NothingAhead (AtContent 0) (begun_by begun frames)
    (frame_of frames (start_tag tag) ∷ frames)) (entered_built tag b)) tail ≡ Ok last
enter_runs frames scope ahead before begun b tag n tail last keeps runs =
    let start : TagBegun frames begun b tag (62 ∷ tail) last =
    tag_runs frames scope ahead before begun b tag n (62 ∷ tail) last keeps runs in
    let behind : State = state NothingAhead (AtContent 0) (begun_by begun frames)
    (frame_of frames (start_tag tag) ∷ frames) in
    subst (λ e. run build_step (reader behind
    (build e (size (62 ∷ [])) (moved (size (tag_characters tag)) (opened b)))) tail ≡ Ok last)
    start.ends.enters
    (one_runs (state NothingAhead start.place begun frames) behind 62
    (moved (size (tag_characters tag)) (opened b)) tail last start.ends.greater start.runs)

-- behind its end tag
abbrev pub left_built : Name → List ℕ → Built → Built
left_built end space c =
    build Leaves (size (62 ∷ [])) (moved (size (47 ∷ (name_characters end ++ space))) (opened c))

end_may : (frame : Frame) (frames : List Frame) (ahead : Ahead) (before begun : ℕ)
    → MayBe (step (state ahead (AtContent before) begun (frame ∷ frames)) 60)
    (state NothingAhead AtOpened begun (frame ∷ frames))
unfolding step content_step
end_may frame frames ahead before begun = refl

pub leave_runs : (frame : Frame) (frames : List Frame) (ahead : Ahead) (before begun : ℕ)
    (c : Built)
    (end : Name) (space tail : List ℕ) (last : Reader) → IsName end → AreWhite space
    → same_name end frame.name ≡ true
    → run build_step (reader (state ahead (AtContent before) begun (frame ∷ frames)) c)
    (60 ∷ 47 ∷ ((name_characters end ++ space) ++ 62 ∷ tail)) ≡ Ok last
    → run build_step (reader (state NothingAhead (AtContent 0) begun frames)
    (left_built end space c)) tail ≡ Ok last
leave_runs frame frames ahead before begun c end space tail last is white same runs =
    let read : EndRead begun frame frames (47 ∷ (name_characters end ++ space)) =
    end_read begun frame frames end space is white same in
    let behind : State = state NothingAhead (AtContent 0) begun frames in
    let from : State = state NothingAhead AtOpened begun (frame ∷ frames) in
    let before_end : Built = moved (size (47 ∷ (name_characters end ++ space))) (opened c) in
    subst (λ e. run build_step (reader behind (build e (size (62 ∷ [])) before_end)) tail ≡ Ok last)
    read.leave.leaves
    (one_runs (state NothingAhead read.place begun (frame ∷ frames)) behind 62 before_end tail last
    read.leave.greater
    (read.through.runs (opened c) (62 ∷ tail) last
    (one_runs (state ahead (AtContent before) begun (frame ∷ frames)) from 60 c
    (47 ∷ ((name_characters end ++ space) ++ 62 ∷ tail)) last
    (end_may frame frames ahead before begun) runs)))
