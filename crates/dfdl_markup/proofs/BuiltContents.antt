-- A content is added to the tree as its elements.
use Rattle.std.proofs.Common.{◌≡◌, ℕ, suc, ◌+◌, ◌<◌, ◌≤◌, Bool, false, List, [], ◌∷◌, ◌++◌, length}
use Rattle.std.proofs.Common.{Some, Ok, refl, ap, ap₂, sym, subst, ◌∙◌, append_assoc, length-append}
use Rattle.std.proofs.Common.{arith}
use Rattle.dfdl_layers.specs.Tellers.{run}
use Rattle.dfdl_markup.specs.Grammar.{Name, name_characters, Tag, tag_characters, section_word}
use Rattle.dfdl_markup.specs.Grammar.{Content, Nothing, Comment, Instruction, Section, Single}
use Rattle.dfdl_markup.specs.Grammar.{Nested, spelling}
use Rattle.dfdl_markup.specs.Trees.{Node, size, text_of, numbers, nodes_of}
use Rattle.dfdl_markup.specs.Machine.{Ahead, AtContent, Frame}
use Rattle.dfdl_markup.specs.Building.{Built, changed, changed_in, with_child, first_of, Reader}
use Rattle.dfdl_markup.specs.Building.{build_step, without_first}
use Rattle.dfdl_markup.proofs.RunSteps.{state}
use Rattle.dfdl_markup.proofs.BuiltLists.{size_append, with_more, in_length, changed_behind}
use Rattle.dfdl_markup.proofs.BuiltLists.{child_more, AreBelow}
use Rattle.dfdl_markup.proofs.BuiltSteps.{reader}
use Rattle.dfdl_markup.proofs.BuiltGrowth.{Grows, grows_is, grown_length, Adds, then_adds}
use Rattle.dfdl_markup.proofs.BuiltRuns.{Piece}
use Rattle.dfdl_markup.proofs.BuiltElements.{element_of, entered_built, left_built}

-- what is spelled stands before what follows
behind_end : (text end more : List ℕ) → text ++ (end ++ more) ≡ (text ++ end) ++ more
behind_end text end more = sym (append_assoc text end more)

pub comment_spelled : (text : List ℕ) (next : Content)
    → spelling (Comment text next) ≡ spelling (Comment text Nothing) ++ spelling next
comment_spelled text next =
    ap (λ w. 60 ∷ 33 ∷ 45 ∷ 45 ∷ w) (behind_end text (45 ∷ 45 ∷ 62 ∷ []) (spelling next))

pub instruction_spelled : (target text : List ℕ) (next : Content)
    → spelling (Instruction target text next) ≡ spelling (Instruction target text Nothing) ++
    spelling next
instruction_spelled target text next =
    ap (λ w. 60 ∷ 63 ∷ w) (ap (λ w. target ++ w) (behind_end text (63 ∷ 62 ∷ []) (spelling next))
    ∙ behind_end target (text ++ 63 ∷ 62 ∷ []) (spelling next))

pub section_spelled : (text : List ℕ) (next : Content)
    → spelling (Section text next) ≡ spelling (Section text Nothing) ++ spelling next
section_spelled text next =
    ap (λ w. 60 ∷ 33 ∷ 91 ∷ w) (ap (λ w. section_word ++ w)
    (behind_end text (93 ∷ 93 ∷ 62 ∷ []) (spelling next))
    ∙ behind_end section_word (text ++ 93 ∷ 93 ∷ 62 ∷ []) (spelling next))

pub single_spelled : (tag : Tag) (next : Content)
    → spelling (Single tag next) ≡ spelling (Single tag Nothing) ++ spelling next
single_spelled tag next =
    ap (λ w. 60 ∷ w) (behind_end (tag_characters tag) (47 ∷ 62 ∷ []) (spelling next))

-- an end tag
abbrev pub end_tag : Name → List ℕ → List ℕ
end_tag end space = 60 ∷ 47 ∷ (name_characters end ++ (space ++ 62 ∷ []))

pub end_spelled : (end : Name) (space more : List ℕ)
    → name_characters end ++ (space ++ 62 ∷ more) ≡ (name_characters end ++ (space ++ 62 ∷ [])) ++
    more
end_spelled end space more =
    ap (λ w. name_characters end ++ w) (behind_end space (62 ∷ []) more)
    ∙ behind_end (name_characters end) (space ++ 62 ∷ []) more

pub nested_spelled : (tag : Tag) (inner : Content) (end : Name) (space : List ℕ) (next : Content)
    → spelling (Nested tag inner end space next)
    ≡ spelling (Nested tag inner end space Nothing) ++ spelling next
nested_spelled tag inner end space next =
    ap (λ w. 60 ∷ w)
    (ap (λ w. tag_characters tag ++ 62 ∷ w)
    (ap (λ w. spelling inner ++ 60 ∷ 47 ∷ w) (end_spelled end space (spelling next))
    ∙ behind_end (spelling inner) (end_tag end space) (spelling next))
    ∙ behind_end (tag_characters tag) (62 ∷ (spelling inner ++ end_tag end space)) (spelling next))

-- the bytes of both
pub sizes : (whole piece next : List ℕ) → whole ≡ piece ++ next
    → size piece + size next ≡ size whole
sizes whole piece next is = sym (ap size is ∙ size_append piece next)

-- a piece without elements, and then a content
plain_adds : (b c d : Built) (t u : List ℕ) (m n : ℕ) (cr : Bool) (next : Content)
    → AreBelow b.ancestors (length b.nodes) → c.behind_cr ≡ cr → Grows b [] t [] m c → Adds c next d
    → t ++ text_of cr next ≡ u → m + size (spelling next) ≡ n
    → Grows b (numbers next (length b.nodes)) u
    (nodes_of next (first_of b.ancestors) (length b.nodes) (b.at + m)) n d
plain_adds b c d t u m n cr next below behind first second text bytes =
    let same : length b.nodes + 0 ≡ length b.nodes = omega arith in
    grows_is b d (numbers next (length b.nodes + 0)) (numbers next (length b.nodes))
    (t ++ text_of cr next) u
    (nodes_of next (first_of b.ancestors) (length b.nodes + 0) (b.at + m))
    (nodes_of next (first_of b.ancestors) (length b.nodes) (b.at + m)) (m + size (spelling next)) n
    (ap (λ k. numbers next k) same) text
    (ap (λ k. nodes_of next (first_of b.ancestors) k (b.at + m)) same) bytes
    (then_adds b c d [] t [] m cr next below behind first second)

-- an element, and then a content
pub element_adds : (b c d : Built) (element : Node) (inner : List Node) (m n k : ℕ) (next : Content)
    → AreBelow b.ancestors (length b.nodes) → c.behind_cr ≡ false
    → Grows b (length b.nodes ∷ []) [] (element ∷ inner) m c → Adds c next d
    → m + size (spelling next) ≡ n → length b.nodes + suc (length inner) ≡ k
    → Grows b (length b.nodes ∷ numbers next k) (text_of false next)
    (element ∷ (inner ++ nodes_of next (first_of b.ancestors) k (b.at + m))) n d
element_adds b c d element inner m n k next below behind first second bytes more =
    let all : ℕ = length b.nodes + suc (length inner) in
    grows_is b d (length b.nodes ∷ numbers next all) (length b.nodes ∷ numbers next k)
    (text_of false next)
    (text_of false next)
    (element ∷ (inner ++ nodes_of next (first_of b.ancestors) all (b.at + m)))
    (element ∷ (inner ++ nodes_of next (first_of b.ancestors) k (b.at + m)))
    (m + size (spelling next)) n
    (ap (λ j. length b.nodes ∷ numbers next j) more) refl
    (ap (λ j. element ∷ (inner ++ nodes_of next (first_of b.ancestors) j (b.at + m))) more) bytes
    (then_adds b c d (length b.nodes ∷ []) [] (element ∷ inner) m false next below behind first
    second)

-- an element with what is inside of it
pub nested_grows : (b c : Built) (tag : Tag) (inner : Content) (end : Name) (space : List ℕ)
    → Adds (entered_built tag b) inner c
    → Grows b (length b.nodes ∷ []) []
    (element_of tag (first_of b.ancestors) (numbers inner (suc (length b.nodes)))
    (text_of false inner) b.at
    ∷ nodes_of inner (Some (length b.nodes)) (suc (length b.nodes))
    (b.at + size (60 ∷ (tag_characters tag ++ 62 ∷ []))))
    (size (spelling (Nested tag inner end space Nothing))) (left_built end space c)
nested_grows b c tag inner end space adds = record {
  nodes = adds.nodes
      ∙ (ap (λ l. l ++ nodes_of inner (Some count) (length entered.nodes) entered.at) inside
      ∙ append_assoc before
      (element_of tag (first_of b.ancestors) (numbers inner (length entered.nodes))
      (text_of false inner) b.at ∷ [])
      (nodes_of inner (Some count) (length entered.nodes) entered.at))
      ∙ ap₂ (λ k a. before ++ element_of tag (first_of b.ancestors) (numbers inner k)
      (text_of false inner) b.at
      ∷ nodes_of inner (Some count) k a) longer there
      ∙ ap (λ l. l ++ element_of tag (first_of b.ancestors) (numbers inner (suc count))
      (text_of false inner) b.at
      ∷ nodes_of inner (Some count) (suc count)
      (b.at + size (60 ∷ (tag_characters tag ++ 62 ∷ []))))
      (child_more count b.ancestors b.nodes);
  ancestors = ap without_first adds.ancestors;
  at = omega (
    arith,
    adds.at,
    there,
    size_append (60 ∷ (tag_characters tag ++ 62 ∷ [])) (spelling inner ++ end_tag end space),
    ap size (append_assoc (60 ∷ tag_characters tag) (62 ∷ [])
        (spelling inner ++ end_tag end space)),
    size_append (spelling inner) (end_tag end space),
    size_append (60 ∷ []) (47 ∷ (name_characters end ++ (space ++ 62 ∷ []))),
    size_append (47 ∷ (name_characters end ++ space)) (62 ∷ []),
    ap size (append_assoc (47 ∷ name_characters end) space (62 ∷ [])),
  );
}
  where
    count : ℕ
    count = length b.nodes

    entered : Built
    entered = entered_built tag b

    before : List Node
    before = changed_in (with_child count) b.ancestors b.nodes

    inside : changed (with_more (numbers inner (length entered.nodes)) (text_of false inner)) count
        entered.nodes
        ≡ before ++ element_of tag (first_of b.ancestors) (numbers inner (length entered.nodes))
        (text_of false inner) b.at ∷ []
    inside = subst (λ k. changed (with_more (numbers inner (length entered.nodes))
        (text_of false inner)) k entered.nodes
        ≡ before ++ element_of tag (first_of b.ancestors) (numbers inner (length entered.nodes))
        (text_of false inner) b.at ∷ [])
        (in_length (with_child count) b.ancestors b.nodes)
        (changed_behind (with_more (numbers inner (length entered.nodes)) (text_of false inner))
        before
        (element_of tag (first_of b.ancestors) [] [] b.at) [])

    longer : length entered.nodes ≡ suc count
    longer = length-append before (element_of tag (first_of b.ancestors) [] [] b.at ∷ [])
        ∙ (let same : length before ≡ count = in_length (with_child count) b.ancestors b.nodes in
        omega (arith, same))

    there : entered.at ≡ b.at + size (60 ∷ (tag_characters tag ++ 62 ∷ []))
    there = omega (
      arith,
      size_append (60 ∷ []) (tag_characters tag ++ 62 ∷ []),
      size_append (tag_characters tag) (62 ∷ []),
    )

-- as many elements are open in the tree as in the machine, and they are among those of the tree
abbrev pub Fits : List Frame → List ℕ → ℕ → Type 0
Fits [] [] n = Unit {0}
Fits [] (element ∷ ancestors) n = ⊥
Fits (frame ∷ frames) [] n = ⊥
Fits (frame ∷ frames) (element ∷ ancestors) n = (element < n) × Fits frames ancestors n

pub fits_below : (frames : List Frame) (ancestors : List ℕ) (n : ℕ) → Fits frames ancestors n
    → AreBelow ancestors n
fits_below [] [] n fits = tt
fits_below [] (element ∷ ancestors) n fits = absurd fits
fits_below (frame ∷ frames) [] n fits = absurd fits
fits_below (frame ∷ frames) (element ∷ ancestors) n fits =
    (fits.0, fits_below frames ancestors n fits.1)

pub fits_more : (frames : List Frame) (ancestors : List ℕ) (n m : ℕ) → n ≤ m
    → Fits frames ancestors n
    → Fits frames ancestors m
fits_more [] [] n m most fits = tt
fits_more [] (element ∷ ancestors) n m most fits = absurd fits
fits_more (frame ∷ frames) [] n m most fits = absurd fits
fits_more (frame ∷ frames) (element ∷ ancestors) n m most fits =
    (omega (arith, fits.0), fits_more frames ancestors n m most fits.1)

pub fits_outside : (ancestors : List ℕ) (n : ℕ) → Fits [] ancestors n → ancestors ≡ []
fits_outside [] n fits = refl
fits_outside (element ∷ ancestors) n fits = absurd fits

pub fits_grown : (frames : List Frame) (b c : Built) (ks t : List ℕ) (X : List Node) (m : ℕ)
    → Fits frames b.ancestors (length b.nodes) → Grows b ks t X m c
    → Fits frames c.ancestors (length c.nodes)
fits_grown frames b c ks t X m fits grows =
    let longer : length c.nodes ≡ length b.nodes + length X = grown_length b c ks t X m grows in
    subst (λ a. Fits frames a (length c.nodes)) (sym grows.ancestors)
    (fits_more frames b.ancestors (length b.nodes) (length c.nodes) (omega (arith, longer)) fits)

-- the run goes on behind a content
pub record Done (frames : List Frame) (b : Built) (content : Content) (tail : List ℕ)
    (last : Reader) : Type 0 where
  pub ahead : Ahead
  pub before : ℕ
  pub begun : ℕ
  pub built : Built
  pub adds : Adds b content built
  pub runs : run build_step (reader (state ahead (AtContent before) begun frames) built) tail ≡ Ok
      last

-- a piece without elements, and then a content
pub plain_done : (frames : List Frame) (b : Built) (t u : List ℕ) (m : ℕ) (cr : Bool)
    (next : Content)
    (tail : List ℕ) (last : Reader) → Fits frames b.ancestors (length b.nodes)
    → (piece : Piece frames b [] t [] m cr (spelling next ++ tail) last)
    → (more : Done frames piece.built next tail last) → t ++ text_of cr next ≡ u
    → Grows b (numbers next (length b.nodes)) u
    (nodes_of next (first_of b.ancestors) (length b.nodes) (b.at + m)) (m + size (spelling next))
    more.built
plain_done frames b t u m cr next tail last fits piece more text =
    plain_adds b piece.built more.built t u m (m + size (spelling next)) cr next
    (fits_below frames b.ancestors (length b.nodes) fits) piece.behind piece.grows more.adds text
    refl
