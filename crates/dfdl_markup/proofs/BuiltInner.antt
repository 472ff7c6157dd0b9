-- A run over a content builds the tree of the content.
use Rattle.std.proofs.Common.{◌≡◌, ℕ, suc, ◌+◌, ◌<◌, ◌==◌, Bool, false, List, [], ◌∷◌, ◌++◌, length}
use Rattle.std.proofs.Common.{Some, Ok, refl, ap, sym, subst, ◌∙◌, append_assoc, length-append}
use Rattle.std.proofs.Common.{arith}
use Rattle.std.proofs.lemmas.List.{append-nil}
use Rattle.dfdl_layers.specs.Tellers.{run}
use Rattle.dfdl_markup.specs.Grammar.{name_characters, reference_characters, Tag, tag_characters}
use Rattle.dfdl_markup.specs.Grammar.{Content, Nothing, Character, Referring, Comment, Instruction}
use Rattle.dfdl_markup.specs.Grammar.{Section, Single, Nested, spelling}
use Rattle.dfdl_markup.specs.Values.{Binding, scope_in, referred}
use Rattle.dfdl_markup.specs.Rules.{ContentKeeps, brackets, attributes_of}
use Rattle.dfdl_markup.specs.Trees.{Node, size, text_of, elements, numbers, nodes_of, line_read}
use Rattle.dfdl_markup.specs.Trees.{lines_read}
use Rattle.dfdl_markup.specs.Machine.{Ahead, NothingAhead, AtContent, Frame, begun_by, frame_of}
use Rattle.dfdl_markup.specs.Building.{Built, first_of, Reader, build_step, changed_in, with_child}
use Rattle.dfdl_markup.proofs.RunSteps.{state}
use Rattle.dfdl_markup.proofs.BuiltLists.{in_length}
use Rattle.dfdl_markup.proofs.BuiltSteps.{reader}
use Rattle.dfdl_markup.proofs.BuiltAttributes.{start_tag}
use Rattle.dfdl_markup.proofs.BuiltPieces.{comment_through, instruction_through}
use Rattle.dfdl_markup.proofs.BuiltGrowth.{Grows, grows_nothing, any_text, Adds, nodes_length}
use Rattle.dfdl_markup.proofs.BuiltRuns.{Piece, plain_runs, character_runs, white_runs}
use Rattle.dfdl_markup.proofs.BuiltElements.{reference_runs, section_piece, element_of, single_runs}
use Rattle.dfdl_markup.proofs.BuiltElements.{entered_built, enter_runs, left_built, leave_runs}
use Rattle.dfdl_markup.proofs.BuiltContents.{comment_spelled, instruction_spelled, section_spelled}
use Rattle.dfdl_markup.proofs.BuiltContents.{single_spelled, nested_spelled, end_tag, sizes}
use Rattle.dfdl_markup.proofs.BuiltContents.{element_adds, nested_grows, Fits, fits_below}
use Rattle.dfdl_markup.proofs.BuiltContents.{fits_grown, fits_outside, Done, plain_done, fits_more}

-- a run over a text is one over its pieces
apart : (s : Reader) (whole piece next tail : List ℕ) (last : Reader) → whole ≡ piece ++ next
    → run build_step s (whole ++ tail) ≡ Ok last
    → run build_step s (piece ++ (next ++ tail)) ≡ Ok last
apart s whole piece next tail last is runs =
    subst (λ w. run build_step s w ≡ Ok last)
    (ap (λ w. w ++ tail) is ∙ append_assoc piece next tail) runs

-- behind a piece and what follows
both_done : (frames : List Frame) (b c : Built) (next whole : Content) (tail : List ℕ)
    (last : Reader)
    → (more : Done frames c next tail last) → Adds b whole more.built
    → Done frames b whole tail last
both_done frames b c next whole tail last more adds = record {
  ahead = more.ahead;
  before = more.before;
  begun = more.begun;
  built = more.built;
  adds = adds;
  runs = more.runs;
}

-- with so many bytes as the whole has
in_bytes : (b d : Built) (ks t : List ℕ) (X : List Node) (m n : ℕ) → m ≡ n → Grows b ks t X m d
    → Grows b ks t X n d
in_bytes b d ks t X m n is grows = subst (λ k. Grows b ks t X k d) is grows

-- a piece that adds text alone, and what follows
text_done : (frames : List Frame) (b : Built) (t u : List ℕ) (m : ℕ) (cr : Bool)
    (next whole : Content)
    (tail : List ℕ) (last : Reader) → Fits frames b.ancestors (length b.nodes)
    → (piece : Piece frames b [] t [] m cr (spelling next ++ tail) last)
    → Done frames piece.built next tail last → t ++ text_of cr next ≡ u
    → ((d : Built) → Grows b (numbers next (length b.nodes)) u
    (nodes_of next (first_of b.ancestors) (length b.nodes) (b.at + m)) (m + size (spelling next)) d
    → Adds b whole d)
    → Done frames b whole tail last
text_done frames b t u m cr next whole tail last fits piece more text adds =
    both_done frames b piece.built next whole tail last more
    (adds more.built (plain_done frames b t u m cr next tail last fits piece more text))

-- the parts of an element
nested_parts : (tag inner end rest : List ℕ)
    → (tag ++ 62 ∷ (inner ++ end)) ++ rest ≡ tag ++ 62 ∷ (inner ++ (end ++ rest))
nested_parts tag inner end rest =
    append_assoc tag (62 ∷ (inner ++ end)) rest
    ∙ ap (λ w. tag ++ 62 ∷ w) (append_assoc inner end rest)

end_parts : (name space rest : List ℕ)
    → (name ++ (space ++ 62 ∷ [])) ++ rest ≡ (name ++ space) ++ 62 ∷ rest
end_parts name space rest =
    append_assoc name (space ++ 62 ∷ []) rest
    ∙ ap (λ w. name ++ w) (append_assoc space (62 ∷ []) rest)
    ∙ sym (append_assoc name space (62 ∷ rest))

-- the element that is entered is the last so far
fits_entered : (frames : List Frame) (b : Built) (tag : Tag)
    → Fits frames b.ancestors (length b.nodes)
    → Fits (frame_of frames (start_tag tag) ∷ frames) (length b.nodes ∷ b.ancestors)
    (length (entered_built tag b).nodes)
fits_entered frames b tag fits =
    let before : List Node = changed_in (with_child (length b.nodes)) b.ancestors b.nodes in
    let same : length before ≡ length b.nodes =
    in_length (with_child (length b.nodes)) b.ancestors b.nodes in
    let longer : length (entered_built tag b).nodes ≡ length before + 1 =
    length-append before (element_of tag (first_of b.ancestors) [] [] b.at ∷ []) in (
      omega (arith, same, longer),
      fits_more frames b.ancestors (length b.nodes) (length (entered_built tag b).nodes)
          (omega (arith, same, longer)) fits,
    )

pub content_built : (content : Content) (frames : List Frame) (scope : List Binding) (kept : ℕ)
    (b : Built)
    (tail : List ℕ) (last : Reader) → ContentKeeps 13 (length frames) scope kept content
    → Fits frames b.ancestors (length b.nodes) → (ahead : Ahead) (before begun : ℕ)
    → run build_step (reader (state ahead (AtContent before) begun frames) b)
    (spelling content ++ tail) ≡ Ok last
    → Done frames b content tail last
content_built Nothing frames scope kept b tail last keeps fits ahead before begun runs = record {
  ahead = ahead;
  before = before;
  begun = begun;
  built = b;
  adds = grows_nothing b;
  runs = runs;
}
content_built (Character c next) [] scope kept b tail last keeps fits ahead before begun runs =
    let piece : Piece [] b [] [] [] (size (c ∷ [])) b.behind_cr (spelling next ++ tail) last =
    white_runs ahead before begun b c (spelling next ++ tail) last (keeps.2 (omega arith) refl)
    runs in
    let more : Done [] piece.built next tail last =
    content_built next [] scope (brackets kept c) piece.built tail last keeps.3
    (fits_grown [] b piece.built [] [] [] (size (c ∷ [])) fits piece.grows) piece.ahead piece.before
    piece.begun piece.runs in
    text_done [] b [] (text_of b.behind_cr next) (size (c ∷ [])) b.behind_cr next (Character c next)
    tail last
    fits piece more refl
    (λ d grows. in_bytes b d _ _ _ _ _ (sizes (c ∷ spelling next) (c ∷ []) (spelling next) refl)
    (any_text b d (numbers next (length b.nodes)) (text_of b.behind_cr next)
    (line_read b.behind_cr c ++ text_of (c == 13) next)
    (nodes_of next (first_of b.ancestors) (length b.nodes) (b.at + size (c ∷ [])))
    (size (c ∷ []) + size (spelling next)) (fits_outside b.ancestors (length b.nodes) fits) grows))
content_built (Character c next) (frame ∷ frames) scope kept b tail last keeps fits ahead before
    begun runs =
    let read : List ℕ = line_read b.behind_cr c in
    let piece : Piece (frame ∷ frames) b [] read [] (size (c ∷ [])) (c == 13)
    (spelling next ++ tail) last =
    character_runs frame frames ahead before begun b c (spelling next ++ tail) last keeps.0 runs in
    let more : Done (frame ∷ frames) piece.built next tail last =
    content_built next (frame ∷ frames) scope (brackets kept c) piece.built tail last keeps.3
    (fits_grown (frame ∷ frames) b piece.built [] read [] (size (c ∷ [])) fits piece.grows)
    piece.ahead
    piece.before piece.begun piece.runs in
    text_done (frame ∷ frames) b read (read ++ text_of (c == 13) next) (size (c ∷ [])) (c == 13)
    next
    (Character c next) tail last fits piece more refl
    (λ d grows. in_bytes b d _ _ _ _ _ (sizes (c ∷ spelling next) (c ∷ []) (spelling next) refl)
    grows)
content_built (Referring reference next) [] scope kept b tail last keeps fits ahead before begun
    runs =
    let deep : 0 < 0 = keeps.1 (omega arith) in absurd (omega (arith, deep))
content_built (Referring reference next) (frame ∷ frames) scope kept b tail last keeps fits ahead
    before begun runs =
    let written : List ℕ = reference_characters reference ++ [] in
    let piece : Piece (frame ∷ frames) b [] (referred reference ∷ []) [] (size written) false
    (spelling next ++ tail) last =
    subst (λ w. Piece (frame ∷ frames) b [] (referred reference ∷ []) [] (size w) false
    (spelling next ++ tail) last)
    (sym (append-nil (reference_characters reference)))
    (reference_runs frame frames ahead before begun b 13 reference (spelling next ++ tail) last
    keeps.0
    (apart (reader (state ahead (AtContent before) begun (frame ∷ frames)) b)
    (reference_characters reference ++ spelling next) (reference_characters reference)
    (spelling next) tail last
    refl runs)) in
    let more : Done (frame ∷ frames) piece.built next tail last =
    content_built next (frame ∷ frames) scope 0 piece.built tail last keeps.2
    (fits_grown (frame ∷ frames) b piece.built [] (referred reference ∷ []) [] (size written) fits
    piece.grows)
    piece.ahead piece.before piece.begun piece.runs in
    text_done (frame ∷ frames) b (referred reference ∷ []) (referred reference ∷ text_of false next)
    (size written)
    false next (Referring reference next) tail last fits piece more refl
    (λ d grows. in_bytes b d _ _ _ _ _ (sizes (reference_characters reference ++ spelling next)
    written (spelling next)
    (ap (λ w. w ++ spelling next) (sym (append-nil (reference_characters reference))))) grows)
content_built (Comment text next) frames scope kept b tail last keeps fits ahead before begun runs =
    let written : List ℕ = spelling (Comment text Nothing) in
    let piece : Piece frames b [] [] [] (size written) false (spelling next ++ tail) last =
    plain_runs frames ahead before begun b (33 ∷ 45 ∷ 45 ∷ (text ++ 45 ∷ 45 ∷ 62 ∷ []))
    (spelling next ++ tail) last
    (λ a. comment_through begun frames a text keeps.0)
    (apart (reader (state ahead (AtContent before) begun frames) b) (spelling (Comment text next))
    written
    (spelling next) tail last (comment_spelled text next) runs) in
    let more : Done frames piece.built next tail last =
    content_built next frames scope 0 piece.built tail last keeps.1
    (fits_grown frames b piece.built [] [] [] (size written) fits piece.grows) piece.ahead
    piece.before
    piece.begun piece.runs in
    text_done frames b [] (text_of false next) (size written) false next (Comment text next) tail
    last fits piece more
    refl (λ d grows. in_bytes b d _ _ _ _ _ (sizes (spelling (Comment text next)) written
    (spelling next)
    (comment_spelled text next)) grows)
content_built (Instruction target text next) frames scope kept b tail last keeps fits ahead before
    begun runs =
    let written : List ℕ = spelling (Instruction target text Nothing) in
    let piece : Piece frames b [] [] [] (size written) false (spelling next ++ tail) last =
    plain_runs frames ahead before begun b (63 ∷ (target ++ (text ++ 63 ∷ 62 ∷ [])))
    (spelling next ++ tail) last
    (λ a. instruction_through begun frames a target text keeps.0 keeps.1)
    (apart (reader (state ahead (AtContent before) begun frames) b)
    (spelling (Instruction target text next)) written
    (spelling next) tail last (instruction_spelled target text next) runs) in
    let more : Done frames piece.built next tail last =
    content_built next frames scope 0 piece.built tail last keeps.2
    (fits_grown frames b piece.built [] [] [] (size written) fits piece.grows) piece.ahead
    piece.before
    piece.begun piece.runs in
    text_done frames b [] (text_of false next) (size written) false next
    (Instruction target text next) tail last fits
    piece more refl (λ d grows. in_bytes b d _ _ _ _ _
    (sizes (spelling (Instruction target text next)) written (spelling next)
    (instruction_spelled target text next)) grows)
content_built (Section text next) [] scope kept b tail last keeps fits ahead before begun runs =
    let deep : 0 < 0 = keeps.0 in absurd (omega (arith, deep))
content_built (Section text next) (frame ∷ frames) scope kept b tail last keeps fits ahead before
    begun runs =
    let written : List ℕ = spelling (Section text Nothing) in
    let piece : Piece (frame ∷ frames) b [] (lines_read false text) [] (size written) false
    (spelling next ++ tail) last =
    section_piece frame frames ahead before begun b text (spelling next ++ tail) last keeps.1
    (apart (reader (state ahead (AtContent before) begun (frame ∷ frames)) b)
    (spelling (Section text next)) written
    (spelling next) tail last (section_spelled text next) runs) in
    let more : Done (frame ∷ frames) piece.built next tail last =
    content_built next (frame ∷ frames) scope 0 piece.built tail last keeps.2
    (fits_grown (frame ∷ frames) b piece.built [] (lines_read false text) [] (size written) fits
    piece.grows)
    piece.ahead piece.before piece.begun piece.runs in
    text_done (frame ∷ frames) b (lines_read false text)
    (lines_read false text ++ text_of false next) (size written)
    false next (Section text next) tail last fits piece more refl
    (λ d grows. in_bytes b d _ _ _ _ _ (sizes (spelling (Section text next)) written (spelling next)
    (section_spelled text next)) grows)
content_built (Single tag next) frames scope kept b tail last keeps fits ahead before begun runs =
    let written : List ℕ = spelling (Single tag Nothing) in
    let count : ℕ = length b.nodes in
    let element : Node = element_of tag (first_of b.ancestors) [] [] b.at in
    let piece : Piece frames b (count ∷ []) [] (element ∷ []) (size written) false
    (spelling next ++ tail) last =
    single_runs frames scope ahead before begun b tag 13 (spelling next ++ tail) last keeps.0
    (subst (λ w. run build_step (reader (state ahead (AtContent before) begun frames) b) (60 ∷ w) ≡
    Ok last)
    (append_assoc (tag_characters tag) (47 ∷ 62 ∷ spelling next) tail) runs) in
    let more : Done frames piece.built next tail last =
    content_built next frames scope 0 piece.built tail last keeps.2
    (fits_grown frames b piece.built (count ∷ []) [] (element ∷ []) (size written) fits piece.grows)
    piece.ahead
    piece.before piece.begun piece.runs in
    both_done frames b piece.built next (Single tag next) tail last more
    (element_adds b piece.built more.built element [] (size written)
    (size (spelling (Single tag next))) (suc count) next
    (fits_below frames b.ancestors count fits) piece.behind piece.grows more.adds
    (sizes (spelling (Single tag next)) written (spelling next) (single_spelled tag next))
    (omega arith))
content_built (Nested tag inner end space next) frames scope kept b tail last keeps fits ahead
    before begun runs =
    let written : List ℕ = spelling (Nested tag inner end space Nothing) in
    let rest : List ℕ = spelling next ++ tail in
    let count : ℕ = length b.nodes in
    let frame : Frame = frame_of frames (start_tag tag) in
    let entered : Built = entered_built tag b in
    let inside : Done (frame ∷ frames) entered inner (end_tag end space ++ rest) last =
    content_built inner (frame ∷ frames) (scope_in (attributes_of tag) scope) 0 entered
    (end_tag end space ++ rest) last
    keeps.2 (fits_entered frames b tag fits) NothingAhead 0 (begun_by begun frames)
    (enter_runs frames scope ahead before begun b tag 13
    (spelling inner ++ (end_tag end space ++ rest)) last keeps.0
    (subst (λ w. run build_step (reader (state ahead (AtContent before) begun frames) b) (60 ∷ w) ≡
    Ok last)
    (nested_parts (tag_characters tag) (spelling inner) (end_tag end space) rest)
    (apart (reader (state ahead (AtContent before) begun frames) b)
    (spelling (Nested tag inner end space next)) written
    (spelling next) tail last (nested_spelled tag inner end space next) runs))) in
    let behind : Built = left_built end space inside.built in
    let elements_inside : List Node = nodes_of inner (Some count) (suc count)
    (b.at + size (60 ∷ (tag_characters tag ++ 62 ∷ []))) in
    let element : Node = element_of tag (first_of b.ancestors) (numbers inner (suc count))
    (text_of false inner) b.at in
    let grows : Grows b (count ∷ []) [] (element ∷ elements_inside) (size written) behind =
    nested_grows b inside.built tag inner end space inside.adds in
    let more : Done frames behind next tail last =
    content_built next frames scope 0 behind tail last keeps.6
    (fits_grown frames b behind (count ∷ []) [] (element ∷ elements_inside) (size written) fits
    grows)
    NothingAhead 0 inside.begun
    (leave_runs frame frames inside.ahead inside.before inside.begun inside.built end space rest
    last keeps.3 keeps.4
    (keeps.5 (omega arith))
    (subst (λ w. run build_step (reader (state inside.ahead (AtContent inside.before) inside.begun
    (frame ∷ frames)) inside.built)
    (60 ∷ 47 ∷ w) ≡ Ok last) (end_parts (name_characters end) space rest) inside.runs)) in
    let many : length elements_inside ≡ elements inner =
    nodes_length inner (Some count) (suc count)
    (b.at + size (60 ∷ (tag_characters tag ++ 62 ∷ []))) in
    both_done frames b behind next (Nested tag inner end space next) tail last more
    (element_adds b behind more.built element elements_inside (size written)
    (size (spelling (Nested tag inner end space next))) (suc (count + elements inner)) next
    (fits_below frames b.ancestors count fits) refl grows more.adds
    (sizes (spelling (Nested tag inner end space next)) written (spelling next)
    (nested_spelled tag inner end space next))
    (omega (arith, many)))
