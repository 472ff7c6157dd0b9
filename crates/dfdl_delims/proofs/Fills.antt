-- A list is put into a register, and taken out of it.
use Rattle.std.proofs.Common.{◌≡◌, ℕ, ◌+◌, ◌<◌, ◌≤◌, List, [], ◌∷◌, ◌++◌, length, take, drop, get_or, Bool, refl, sym, ap, ◌∙◌, arith, append_assoc, length-append}
use Rattle.std.proofs.Math.Seq.{take-append_seam}
use Rattle.std.proofs.lemmas.List.{append-nil, drop_more, drop_all}
use Rattle.dfdl_forms.specs.declared.encoding.Encoding.{Encoding}
use Rattle.dfdl_forms.specs.declared.literals.Piece.{Piece}
use Rattle.dfdl_delims.specs.declared.candidate.Candidate.{Candidate}
use Rattle.dfdl_delims.specs.declared.mark.Mark.{Mark}
use Rattle.dfdl_delims.specs.Lists.{Opened}
use Rattle.dfdl_delims.specs.Registers.{BeginsWith, Flat, Holds, Register, filled, no_lists, pieces_of, start_of, starts_of, units_in, units_of, with_list, with_lists}

-- the literals one after the other

pub starts_kept : (place : ℕ) (encoding : Encoding) (fold : Bool) (literals : List (List Piece)) (at : ℕ) (literal : List Piece)
    (starts new_starts all : List Candidate) (pieces new_pieces : List Piece) → at < length literals → literal ≡ get_or literals at literal
    → new_starts ≡ starts ++ start_of place encoding fold (length pieces) literal → new_pieces ≡ pieces ++ filled literal
    → starts ++ starts_of place encoding fold (length pieces) (drop at literals) ≡ all
    → new_starts ++ starts_of place encoding fold (length new_pieces) (drop (at + 1) literals) ≡ all
unfolding starts_of
starts_kept place encoding fold literals at literal starts new_starts all pieces new_pieces within is puts_start puts_pieces before =
    let rest : List (List Piece) = drop (at + 1) literals in
    let next : drop at literals ≡ literal ∷ rest = drop_more literals at literal within ∙ ap (λ l. l ∷ rest) (sym is) in
    ap (λ s. s ++ starts_of place encoding fold (length new_pieces) rest) puts_start
    ∙ append_assoc starts (start_of place encoding fold (length pieces) literal) (starts_of place encoding fold (length new_pieces) rest)
    ∙ ap (λ n. starts ++ (start_of place encoding fold (length pieces) literal ++ starts_of place encoding fold n rest))
    (ap length puts_pieces ∙ length-append pieces (filled literal))
    ∙ ap (λ l. starts ++ starts_of place encoding fold (length pieces) l) (sym next) ∙ before

pub pieces_kept : (literals : List (List Piece)) (at : ℕ) (literal : List Piece) (pieces new_pieces all : List Piece) → at < length literals
    → literal ≡ get_or literals at literal → new_pieces ≡ pieces ++ filled literal → pieces ++ pieces_of (drop at literals) ≡ all
    → new_pieces ++ pieces_of (drop (at + 1) literals) ≡ all
pieces_kept literals at literal pieces new_pieces all within is puts_pieces before =
    let rest : List (List Piece) = drop (at + 1) literals in
    let next : drop at literals ≡ literal ∷ rest = drop_more literals at literal within ∙ ap (λ l. l ∷ rest) (sym is) in
    ap (λ p. p ++ pieces_of rest) puts_pieces ∙ append_assoc pieces (filled literal) (pieces_of rest)
    ∙ ap (λ l. pieces ++ pieces_of l) (sym next) ∙ before

pub starts_end : (place : ℕ) (encoding : Encoding) (fold : Bool) (literals : List (List Piece)) (at n : ℕ) (starts all : List Candidate)
    → length literals ≤ at → starts ++ starts_of place encoding fold n (drop at literals) ≡ all → starts ≡ all
unfolding starts_of
starts_end place encoding fold literals at n starts all past before =
    sym (append-nil starts) ∙ ap (λ l. starts ++ starts_of place encoding fold n l) (sym (drop_all at literals past)) ∙ before

-- one list

pub with_last : (flat : Flat) (lists : List Opened) (list : Opened) → with_lists flat (lists ++ list ∷ []) ≡ with_list (with_lists flat lists) list
unfolding with_lists
with_last flat [] list = refl
with_last flat (first ∷ lists) list = with_last (with_list flat first) lists list

abbrev flat_with : List Mark → List Candidate → List Piece → Flat
flat_with marks starts pieces = record { marks = marks; starts = starts; pieces = pieces }

abbrev mark_with : ℕ → ℕ → Mark
mark_with starts pieces = record { starts = starts; pieces = pieces }

pub same_flat : (a b : List Mark) (c d : List Candidate) (e f : List Piece) → a ≡ b → c ≡ d → e ≡ f
    → flat_with a c e ≡ flat_with b d f
same_flat a b c d e f marks starts pieces = λ i. record { marks = marks i; starts = starts i; pieces = pieces i }

same_mark : (a b c d : ℕ) → a ≡ b → c ≡ d → mark_with a c ≡ mark_with b d
same_mark a b c d starts pieces = λ i. record { starts = starts i; pieces = pieces i }

pub pushed : (flat new : Flat) (lists : List Opened) (list : Opened) (place starts pieces : ℕ) → flat ≡ with_lists no_lists lists
    → place ≡ length flat.marks → starts ≡ length flat.starts → pieces ≡ length flat.pieces
    → new.marks ≡ flat.marks ++ record { starts = starts; pieces = pieces } ∷ []
    → new.starts ≡ flat.starts ++ starts_of place list.encoding list.fold (length flat.pieces) list.literals
    → new.pieces ≡ flat.pieces ++ pieces_of list.literals
    → new ≡ with_lists no_lists (lists ++ list ∷ [])
pushed flat new lists list place starts pieces is place_is starts_is pieces_is new_marks new_starts new_pieces =
    same_flat new.marks (with_list flat list).marks new.starts (with_list flat list).starts new.pieces (with_list flat list).pieces
    (new_marks ∙ ap (λ m. flat.marks ++ m ∷ []) (same_mark starts (length flat.starts) pieces (length flat.pieces) starts_is pieces_is))
    (new_starts ∙ ap (λ p. flat.starts ++ starts_of p list.encoding list.fold (length flat.pieces) list.literals) place_is) new_pieces
    ∙ ap (λ f. with_list f list) is ∙ sym (with_last no_lists lists list)

same_front : (xs ys : List Mark) (x y : Mark) → xs ++ x ∷ [] ≡ ys ++ y ∷ [] → (xs ≡ ys) × (x ≡ y)
same_front [] [] x y is = (refl, cc)
same_front [] (b ∷ []) x y is = let no_it : ⊥ = cc in absurd no_it
same_front [] (b ∷ c ∷ ys) x y is = let no_it : ⊥ = cc in absurd no_it
same_front (a ∷ []) [] x y is = let no_it : ⊥ = cc in absurd no_it
same_front (a ∷ b ∷ xs) [] x y is = let no_it : ⊥ = cc in absurd no_it
same_front (a ∷ xs) (b ∷ ys) x y is =
    let heads : a ≡ b = cc in
    let tails : xs ++ x ∷ [] ≡ ys ++ y ∷ [] = cc in
    let rest = same_front xs ys x y tails in
    ((λ i. heads i ∷ rest.0 i), rest.1)

pub popped : (flat new : Flat) (lists : List Opened) (list : Opened) (mark : Mark) → flat ≡ with_lists no_lists (lists ++ list ∷ [])
    → flat.marks ≡ new.marks ++ mark ∷ [] → new.starts ≡ take mark.starts flat.starts → new.pieces ≡ take mark.pieces flat.pieces
    → new ≡ with_lists no_lists lists
popped flat new lists list mark is last new_starts new_pieces =
    let before : Flat = with_lists no_lists lists in
    let whole : flat ≡ with_list before list = is ∙ with_last no_lists lists list in
    let ends = same_front new.marks before.marks mark (record { starts = length before.starts; pieces = length before.pieces })
    (sym last ∙ ap (λ (f : Flat). f.marks) whole) in
    same_flat new.marks before.marks new.starts before.starts new.pieces before.pieces ends.0
    (new_starts ∙ ap (λ (m : Mark). take m.starts flat.starts) ends.1 ∙ ap (λ (f : Flat). take (length before.starts) f.starts) whole
    ∙ take-append_seam before.starts (starts_of (length before.marks) list.encoding list.fold (length before.pieces) list.literals))
    (new_pieces ∙ ap (λ (m : Mark). take m.pieces flat.pieces) ends.1 ∙ ap (λ (f : Flat). take (length before.pieces) f.pieces) whole
    ∙ take-append_seam before.pieces (pieces_of list.literals))

pub not_none : (flat : Flat) (lists : List Opened) (list : Opened) → flat ≡ with_lists no_lists (lists ++ list ∷ []) → length flat.marks ≡ 0 → ⊥
not_none flat lists list is none =
    let before : Flat = with_lists no_lists lists in
    let count = ap (λ (f : Flat). length f.marks) (is ∙ with_last no_lists lists list)
    ∙ length-append before.marks (record { starts = length before.starts; pieces = length before.pieces } ∷ []) in
    omega (arith, none, count)

pub opened : (marks : List Mark) (starts : List Candidate) (pieces : List Piece) → marks ≡ [] → starts ≡ [] → pieces ≡ []
    → flat_with marks starts pieces ≡ with_lists no_lists []
unfolding with_lists
opened marks starts pieces no_marks no_starts no_pieces = same_flat marks [] starts [] pieces [] no_marks no_starts no_pieces

-- where no list is, nothing is taken
pub taken : (flat : Flat) (marks : List Mark) (mark : Mark) → flat ≡ with_lists no_lists [] → flat.marks ≡ marks ++ mark ∷ [] → ⊥
unfolding with_lists
taken flat marks mark is last =
    let count = ap length (sym last ∙ ap (λ (f : Flat). f.marks) is) in
    let sum = length-append marks (mark ∷ []) in
    omega (arith, count, sum)

pub untaken : (flat : Flat) (marks : List Mark) → flat ≡ with_lists no_lists [] → length flat.marks ≡ 0 → flat.marks ≡ marks ++ []
    → flat_with marks flat.starts flat.pieces ≡ with_lists no_lists []
untaken flat marks is none same =
    same_flat marks flat.marks flat.starts flat.starts flat.pieces flat.pieces (sym (same ∙ append-nil marks)) refl refl ∙ is

-- what begins with some items

pub begins_then : {X : Type 0} (first some all : List X) → BeginsWith first some → BeginsWith some all → BeginsWith first all
begins_then {X} [] some all begins more = refl
begins_then {X} (x ∷ first) [] all begins more = let no_it : ⊥ = cc in absurd no_it
begins_then {X} (x ∷ first) (y ∷ some) [] begins more = let no_it : ⊥ = cc in absurd no_it
begins_then {X} (x ∷ first) (y ∷ some) (z ∷ all) begins more =
    let head : z ≡ x = cc in
    let tail : take (length first) some ≡ first = cc in
    let rest : take (length some) all ≡ some = cc in
    (λ i. head i ∷ begins_then first some all tail rest i)

-- how many pieces there are

units_are : (literals : List (List Piece)) → length (pieces_of literals) ≡ units_of literals
units_are [] = refl
units_are (literal ∷ literals) =
    length-append (filled literal) (pieces_of literals) ∙ ap (λ n. length (filled literal) + n) (units_are literals)

units_more : (flat : Flat) (lists : List Opened) → length (with_lists flat lists).pieces ≡ length flat.pieces + units_in lists
unfolding with_lists
units_more flat [] = none (length flat.pieces)
  where
    none : (n : ℕ) → n ≡ n + 0
    none n = omega arith
units_more flat (list ∷ lists) =
    let rest = units_more (with_list flat list) lists in
    let sum = length-append flat.pieces (pieces_of list.literals) in
    let own = units_are list.literals in
    omega (arith, rest, sum, own)

pub units_held : (register : Register) (lists : List Opened) → Holds register lists → length register.flat.pieces ≡ units_in lists
units_held register lists holds = ap (λ (f : Flat). length f.pieces) holds.flat ∙ (units_more no_lists lists ∙ from_none (units_in lists))
  where
    from_none : (n : ℕ) → 0 + n ≡ n
    from_none n = omega arith
