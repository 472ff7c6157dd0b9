-- What the begins of the lists that numbers name stand for: the texts of those lists at their places.
use Rattle.std.proofs.Common.{◌≡◌, ℕ, zero, suc, ◌+◌, ◌-◌, List, [], ◌∷◌, ◌++◌, length, map, take, drop, slice_get, Some, None, Bool, true, false, ◌||◌, if◌then◌else◌, refl, sym, ap, subst, ◌∙◌, arith, append_assoc, length-append}
use Rattle.std.proofs.lemmas.List.{append-nil}
use Rattle.std.proofs.Math.Seq.{drop-append_seam, take-append_seam}
use Rattle.std.proofs.lemmas.List.Folds.{list_any-append}
use Rattle.std.specs.List.{list_any}
use Rattle.dfdl_forms.specs.declared.encoding.Encoding.{Encoding}
use Rattle.dfdl_forms.specs.declared.literals.Piece.{Piece}
use Rattle.dfdl_delims.specs.declared.candidate.Candidate.{Candidate}
use Rattle.dfdl_delims.specs.declared.mark.Mark.{Mark}
use Rattle.dfdl_delims.specs.Candidates.{complete, completes_at, have_texts, is_dead, some_dead}
use Rattle.dfdl_delims.specs.Lists.{Opened, is_text_at}
use Rattle.dfdl_delims.specs.Registers.{Flat, begin_of, filled, no_lists, pieces_of, start_of, starts_of, with_list, with_lists}
use Rattle.dfdl_delims.specs.Standing.{StandFor, begins_by, begins_from, begins_in, begins_of, end_by, placed}
use Rattle.dfdl_delims.proofs.Held.{neither, none_stand, starts_complete, starts_live, text_at_last}

-- begins at another place

placed_both : (place : ℕ) (xs ys : List Candidate) → placed place (xs ++ ys) ≡ placed place xs ++ placed place ys
unfolding placed
placed_both place [] ys = refl
placed_both place (x ∷ xs) ys = ap (λ l. record x { list = place } ∷ l) (placed_both place xs ys)

placed_start : (place list : ℕ) (encoding : Encoding) (fold : Bool) (at : ℕ) (literal : List Piece)
    → placed place (start_of list encoding fold at literal) ≡ start_of place encoding fold at literal
unfolding placed start_of
placed_start place list encoding fold at literal = by (have_texts encoding fold literal)
  where
    by : (t : Bool) → placed place (if t then begin_of list encoding fold at (at + length (filled literal)) ∷ [] else [])
        ≡ (if t then begin_of place encoding fold at (at + length (filled literal)) ∷ [] else [])
    by true = refl
    by false = refl

placed_starts : (place list : ℕ) (encoding : Encoding) (fold : Bool) (at : ℕ) (literals : List (List Piece))
    → placed place (starts_of list encoding fold at literals) ≡ starts_of place encoding fold at literals
unfolding placed starts_of
placed_starts place list encoding fold at [] = refl
placed_starts place list encoding fold at (literal ∷ literals) =
    let rest : ℕ = at + length (filled literal) in
    placed_both place (start_of list encoding fold at literal) (starts_of list encoding fold rest literals)
    ∙ ap (λ l. l ++ placed place (starts_of list encoding fold rest literals)) (placed_start place list encoding fold at literal)
    ∙ ap (λ l. start_of place encoding fold at literal ++ l) (placed_starts place list encoding fold rest literals)

-- where a list stands in a register

at_seam : {X : Type 0} (xs : List X) (x : X) (ys : List X) → slice_get (xs ++ x ∷ ys) (length xs) ≡ Some x
at_seam {X} [] x ys = refl
at_seam {X} (y ∷ xs) x ys = at_seam xs x ys

past_all : {X : Type 0} (xs : List X) → slice_get xs (length xs) ≡ None
past_all {X} [] = refl
past_all {X} (x ∷ xs) = past_all xs

abbrev mark_of : ℕ → ℕ → Mark
mark_of starts pieces = record { starts = starts; pieces = pieces }

-- A register with more lists begins with what it had.
record Behind (flat more : Flat) : Type 0 where
  pub marks : List Mark
  pub starts : List Candidate
  pub pieces : List Piece
  pub marks_are : more.marks ≡ flat.marks ++ marks
  pub starts_are : more.starts ≡ flat.starts ++ starts
  pub pieces_are : more.pieces ≡ flat.pieces ++ pieces

behind : (flat : Flat) (lists : List Opened) → Behind flat (with_lists flat lists)
unfolding with_lists
behind flat [] = record {
  marks = [];
  starts = [];
  pieces = [];
  marks_are = sym (append-nil flat.marks);
  starts_are = sym (append-nil flat.starts);
  pieces_are = sym (append-nil flat.pieces);
}
behind flat (list ∷ lists) =
    let mark : Mark = mark_of (length flat.starts) (length flat.pieces) in
    let own : List Candidate = starts_of (length flat.marks) list.encoding list.fold (length flat.pieces) list.literals in
    let rest = behind (with_list flat list) lists in
    record {
      marks = mark ∷ rest.marks;
      starts = own ++ rest.starts;
      pieces = pieces_of list.literals ++ rest.pieces;
      marks_are = rest.marks_are ∙ append_assoc flat.marks (mark ∷ []) rest.marks;
      starts_are = rest.starts_are ∙ append_assoc flat.starts own rest.starts;
      pieces_are = rest.pieces_are ∙ append_assoc flat.pieces (pieces_of list.literals) rest.pieces;
    }

-- the begins of a list end where those of the next start, or at the end of all
ends_there : (flat : Flat) (lists : List Opened)
    → end_by (with_lists flat lists).starts (slice_get (with_lists flat lists).marks (length flat.marks)) ≡ length flat.starts
unfolding with_lists
ends_there flat [] = ap (end_by flat.starts) (past_all flat.marks)
ends_there flat (list ∷ lists) =
    let rest = behind (with_list flat list) lists in
    let mark : Mark = mark_of (length flat.starts) (length flat.pieces) in
    let starts : List Candidate = (with_lists (with_list flat list) lists).starts in
    ap (end_by starts)
    (ap (λ m. slice_get m (length flat.marks)) (rest.marks_are ∙ append_assoc flat.marks (mark ∷ []) rest.marks) ∙ at_seam flat.marks mark rest.marks)

-- where the pieces and the begins of a list stand
record Stands (marks : List Mark) (starts : List Candidate) (pieces : List Piece) (number : ℕ) (list : Opened) : Type 0 where
  pub before : List Piece
  pub behind : List Piece
  pub pieces_are : pieces ≡ before ++ (pieces_of list.literals ++ behind)
  pub begins_are : begins_in marks starts number ≡ starts_of number list.encoding list.fold (length before) list.literals

middle : (before own rest : List Candidate) (from end : ℕ) → from ≡ length before → end ≡ length (before ++ own)
    → begins_from ((before ++ own) ++ rest) from end ≡ own
middle before own rest from end from_is end_is =
    ap (λ l. begins_from l from end) (append_assoc before own rest)
    ∙ ap (λ n. take (end - n) (drop n (before ++ (own ++ rest)))) from_is
    ∙ ap (take (end - length before)) (drop-append_seam before (own ++ rest))
    ∙ ap (λ n. take n (own ++ rest)) (count (length-append before own)) ∙ take-append_seam own rest
  where
    count : length (before ++ own) ≡ length before + length own → end - length before ≡ length own
    count sum = omega (arith, end_is, sum)

-- the first of some lists behind others
first_stands : (flat : Flat) (list : Opened) (lists : List Opened) (all : Flat) → all ≡ with_lists (with_list flat list) lists
    → Stands all.marks all.starts all.pieces (length flat.marks) list
unfolding begins_in
first_stands flat list lists all is =
    subst (λ (f : Flat). Stands f.marks f.starts f.pieces (length flat.marks) list) (sym is) (record {
      before = flat.pieces;
      behind = rest.pieces;
      pieces_are = rest.pieces_are ∙ append_assoc flat.pieces (pieces_of list.literals) rest.pieces;
      begins_are =
          ap (λ o. begins_by whole.starts o (slice_get whole.marks (length flat.marks + 1))) own_mark
          ∙ ap (λ s. begins_from s (length flat.starts) (end_by whole.starts (slice_get whole.marks (length flat.marks + 1)))) rest.starts_are
          ∙ middle flat.starts own rest.starts (length flat.starts) (end_by whole.starts (slice_get whole.marks (length flat.marks + 1))) refl ends;
    })
  where
    whole : Flat
    whole = with_lists (with_list flat list) lists

    own : List Candidate
    own = starts_of (length flat.marks) list.encoding list.fold (length flat.pieces) list.literals

    rest : Behind (with_list flat list) whole
    rest = behind (with_list flat list) lists

    own_mark : slice_get whole.marks (length flat.marks) ≡ Some (mark_of (length flat.starts) (length flat.pieces))
    own_mark =
        ap (λ m. slice_get m (length flat.marks)) (rest.marks_are ∙ append_assoc flat.marks (mark_of (length flat.starts) (length flat.pieces) ∷ []) rest.marks)
        ∙ at_seam flat.marks (mark_of (length flat.starts) (length flat.pieces)) rest.marks

    ends : end_by whole.starts (slice_get whole.marks (length flat.marks + 1)) ≡ length (flat.starts ++ own)
    ends = ap (λ n. end_by whole.starts (slice_get whole.marks n)) (sym (length-append flat.marks (mark_of (length flat.starts) (length flat.pieces) ∷ [])))
        ∙ ends_there (with_list flat list) lists

-- any of them
stands_in : (flat : Flat) (lists : List Opened) (number : ℕ) (list : Opened) (all : Flat) → all ≡ with_lists flat lists → slice_get lists number ≡ Some list
    → Stands all.marks all.starts all.pieces (length flat.marks + number) list
unfolding with_lists
stands_in flat [] number list all is there = let no_it : ⊥ = cc in absurd no_it
stands_in flat (first ∷ lists) zero list all is there =
    let same : first ≡ list = cc in
    subst (λ (n : ℕ). Stands all.marks all.starts all.pieces n list) (none (length flat.marks))
    (first_stands flat list lists all (is ∙ ap (λ l. with_lists (with_list flat l) lists) same))
  where
    none : (n : ℕ) → n ≡ n + 0
    none n = omega arith
stands_in flat (first ∷ lists) (suc number) list all is there =
    subst (λ (n : ℕ). Stands all.marks all.starts all.pieces n list)
    (count (length-append flat.marks (mark_of (length flat.starts) (length flat.pieces) ∷ [])))
    (stands_in (with_list flat first) lists number list all is there)
  where
    count : length (flat.marks ++ mark_of (length flat.starts) (length flat.pieces) ∷ []) ≡ length flat.marks + 1
        → length (flat.marks ++ mark_of (length flat.starts) (length flat.pieces) ∷ []) + number ≡ length flat.marks + suc number
    count sum = omega (arith, sum)

-- one list more
one_opened : (marks : List Mark) (starts : List Candidate) (pieces : List Piece) (number : ℕ) (list : Opened) (live : List Candidate) (opened : List Opened)
    → Stands marks starts pieces number list → StandFor pieces live opened
    → StandFor pieces (live ++ placed (length opened) (begins_in marks starts number)) (opened ++ list ∷ [])
unfolding complete some_dead
one_opened marks starts pieces number list live opened there stands =
    let own : List Candidate = starts_of (length opened) list.encoding list.fold (length there.before) list.literals in
    let own_is : placed (length opened) (begins_in marks starts number) ≡ own
    = ap (placed (length opened)) there.begins_are
    ∙ placed_starts (length opened) number list.encoding list.fold (length there.before) list.literals in
    subst (λ l. StandFor pieces (live ++ l) (opened ++ list ∷ [])) (sym own_is) (record {
      is = λ place bytes.
          list_any-append (completes_at pieces place bytes) live own
          ∙ ap (λ b. b || list_any (completes_at pieces place bytes) own) (stands.is place bytes)
          ∙ ap (λ b. is_text_at opened place bytes || b)
          (ap (λ p. list_any (completes_at p place bytes) own) there.pieces_are
          ∙ starts_complete place (length opened) list.encoding list.fold list.literals there.before there.behind bytes)
          ∙ sym (text_at_last opened list place bytes);
      live = list_any-append (is_dead pieces) live own
          ∙ neither _ _ stands.live
          (ap (λ p. list_any (is_dead p) own) there.pieces_are
          ∙ starts_live (length opened) list.encoding list.fold list.literals there.before there.behind);
    })

from_none : (n : ℕ) → 0 + n ≡ n
from_none n = omega arith

more_opened : (flat : Flat) (all : List Opened) → flat ≡ with_lists no_lists all → (numbers : List ℕ) (opened : List Opened)
    → map (slice_get all) numbers ≡ map Some opened → (live : List Candidate) (before : List Opened) → StandFor flat.pieces live before
    → StandFor flat.pieces (live ++ begins_of flat.marks flat.starts (length before) numbers) (before ++ opened)
unfolding begins_of
more_opened flat all is [] [] named live before stands =
    subst (λ l. StandFor flat.pieces l (before ++ [])) (sym (append-nil live)) (subst (StandFor flat.pieces live) (sym (append-nil before)) stands)
more_opened flat all is [] (list ∷ opened) named live before stands = let no_it : ⊥ = cc in absurd no_it
more_opened flat all is (number ∷ numbers) [] named live before stands = let no_it : ⊥ = cc in absurd no_it
more_opened flat all is (number ∷ numbers) (list ∷ opened) named live before stands =
    let there : slice_get all number ≡ Some list = cc in
    let rest : map (slice_get all) numbers ≡ map Some opened = cc in
    let own : List Candidate = placed (length before) (begins_in flat.marks flat.starts number) in
    let one = one_opened flat.marks flat.starts flat.pieces number list live before
    (subst (λ (n : ℕ). Stands flat.marks flat.starts flat.pieces n list) (from_none number) (stands_in no_lists all number list flat is there)) stands in
    let last = more_opened flat all is numbers opened rest (live ++ own) (before ++ list ∷ []) one in
    subst (λ l. StandFor flat.pieces l (before ++ list ∷ opened))
    (ap (λ n. (live ++ own) ++ begins_of flat.marks flat.starts n numbers) (length-append before (list ∷ []))
    ∙ append_assoc live own (begins_of flat.marks flat.starts (length before + 1) numbers))
    (subst (StandFor flat.pieces ((live ++ own) ++ begins_of flat.marks flat.starts (length (before ++ list ∷ [])) numbers))
    (append_assoc before (list ∷ []) opened) last)

pub all_opened : (flat : Flat) (all : List Opened) (numbers : List ℕ) (opened : List Opened) → flat ≡ with_lists no_lists all
    → map (slice_get all) numbers ≡ map Some opened → (live : List Candidate) → live ≡ begins_of flat.marks flat.starts 0 numbers
    → StandFor flat.pieces live opened
all_opened flat all numbers opened is named live live_is =
    subst (λ l. StandFor flat.pieces l opened) (sym live_is) (more_opened flat all is numbers opened named [] [] (none_stand flat.pieces))
