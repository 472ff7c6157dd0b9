-- The begins of lists of a register, one list after the other.
use Rattle.std.proofs.Common.{◌≡◌, ℕ, ◌+◌, ◌<◌, ◌≤◌, List, [], ◌∷◌, ◌++◌, length, drop, get_or, sym, ap, ◌∙◌, append_assoc}
use Rattle.std.proofs.lemmas.List.{append-nil, drop_more, drop_all}
use Rattle.dfdl_delims.specs.declared.candidate.Candidate.{Candidate}
use Rattle.dfdl_delims.specs.declared.mark.Mark.{Mark}
use Rattle.dfdl_delims.specs.Standing.{begins_from, begins_in, begins_of, placed}
use Rattle.dfdl_delims.proofs.Pieces.{an_item, no_item, no_items_left}

-- the begins of one list

pub no_begin : (starts : List Candidate) (from end : ℕ) → end ≤ from → begins_from starts from end ≡ []
no_begin starts from end past = no_item starts from end past

pub no_more_begins : (starts : List Candidate) (from end : ℕ) → length starts ≤ from → begins_from starts from end ≡ []
no_more_begins starts from end past = no_items_left starts from end past

pub a_begin : (starts : List Candidate) (from end : ℕ) (d : Candidate) → from < end → from < length starts
    → begins_from starts from end ≡ get_or starts from d ∷ begins_from starts (from + 1) end
a_begin starts from end d before within = an_item starts from end d before within

pub begin_kept : (place : ℕ) (begin : Candidate) (all live new left rest : List Candidate) → left ≡ begin ∷ rest
    → new ≡ live ++ record begin { list = place } ∷ [] → live ++ placed place left ≡ all → new ++ placed place rest ≡ all
unfolding placed
begin_kept place begin all live new left rest left_is new_is before =
    ap (λ l. l ++ placed place rest) new_is ∙ append_assoc live (record begin { list = place } ∷ []) (placed place rest)
    ∙ ap (λ l. live ++ placed place l) (sym left_is) ∙ before

pub begins_end : (place : ℕ) (all live left : List Candidate) → left ≡ [] → live ++ placed place left ≡ all → live ≡ all
unfolding placed
begins_end place all live left none before = sym (append-nil live) ∙ ap (λ l. live ++ placed place l) (sym none) ∙ before

-- list after list

pub list_kept : (marks : List Mark) (starts : List Candidate) (numbers : List ℕ) (place d : ℕ) (all live new : List Candidate) → place < length numbers
    → new ≡ live ++ placed place (begins_in marks starts (get_or numbers place d))
    → live ++ begins_of marks starts place (drop place numbers) ≡ all → new ++ begins_of marks starts (place + 1) (drop (place + 1) numbers) ≡ all
unfolding begins_of
list_kept marks starts numbers place d all live new within new_is before =
    let number : ℕ = get_or numbers place d in
    let rest : List ℕ = drop (place + 1) numbers in
    ap (λ l. l ++ begins_of marks starts (place + 1) rest) new_is
    ∙ append_assoc live (placed place (begins_in marks starts number)) (begins_of marks starts (place + 1) rest)
    ∙ ap (λ l. live ++ begins_of marks starts place l) (sym (drop_more numbers place d within)) ∙ before

pub lists_end : (marks : List Mark) (starts : List Candidate) (numbers : List ℕ) (place : ℕ) (all live : List Candidate) → length numbers ≤ place
    → live ++ begins_of marks starts place (drop place numbers) ≡ all → live ≡ all
unfolding begins_of
lists_end marks starts numbers place all live past before =
    sym (append-nil live) ∙ ap (λ l. live ++ begins_of marks starts place l) (sym (drop_all place numbers past)) ∙ before

pub none_behind : (live : List Candidate) (place : ℕ) → live ≡ live ++ placed place []
unfolding placed
none_behind live place = sym (append-nil live)
