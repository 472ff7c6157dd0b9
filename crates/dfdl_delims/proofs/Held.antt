-- What the begins in a register stand for: the texts of the lists that it holds.
use Rattle.std.proofs.Common.{◌≡◌, ◌↔◌, ℕ, zero, suc, ◌+◌, ◌-◌, ◌<◌, ◌≤◌, List, [], ◌∷◌, ◌++◌, length, take, drop, Bool, true, false, ◌&&◌, ◌||◌, ◌==◌, not, if◌then◌else◌, ◌⊎◌, inl, inr, refl, sym, ap, subst, ◌∙◌, arith, append_assoc, length-append}
use Rattle.std.proofs.Math.Seq.{take-append_seam, drop-append_seam}
use Rattle.std.proofs.lemmas.Bool.{cases_lt}
use Rattle.std.proofs.lemmas.Bool.Decides.{nat_tests}
use Rattle.std.proofs.lemmas.List.{append-nil, drop-append-le, length-drop, take-append-le}
use Rattle.std.proofs.lemmas.List.Folds.{list_any-append}
use Rattle.std.specs.List.{list_any}
use Rattle.dfdl_forms.specs.declared.encoding.Encoding.{Encoding}
use Rattle.dfdl_forms.specs.declared.literals.Piece.{Piece}
use Rattle.dfdl_literal_texts.specs.Texts.{after_bytes, after_piece, is_text, is_text_of_some}
use Rattle.dfdl_delims.specs.declared.candidate.Candidate.{Candidate}
use Rattle.dfdl_delims.specs.Lists.{Opened, is_text_at, is_text_in}
use Rattle.dfdl_delims.specs.Candidates.{complete, completes_at, have_texts, is_dead, is_tail, left_bytes, pieces_from, some_dead}
use Rattle.dfdl_delims.specs.Standing.{StandFor}
use Rattle.dfdl_delims.specs.Registers.{Flat, Holds, IsFull, Register, begin_of, filled, no_lists, pieces_of, start_of, starts_of, units_in, units_of, with_list, with_lists}
use Rattle.dfdl_delims.proofs.Fills.{units_held}
use Rattle.dfdl_delims.proofs.Pieces.{no_piece}
use Rattle.dfdl_delims.proofs.Never.{no_text_at_all}

-- the pieces of a literal

take_some : (front behind : List Piece) (n : ℕ) → n ≡ length front → take n (front ++ behind) ≡ front
take_some front behind n is = ap (λ k. take k (front ++ behind)) is ∙ take-append_seam front behind

there : (before literal behind : List Piece) → pieces_from (before ++ (literal ++ behind)) (length before) (length before + length literal) ≡ literal
there before literal behind =
    ap (take (length before + length literal - length before)) (drop-append_seam before (literal ++ behind))
    ∙ take_some literal behind (length before + length literal - length before) (omega arith)

same_filled : (encoding : Encoding) (fold : Bool) (literal : List Piece) (bytes : List ℕ)
    → is_text encoding fold (filled literal) bytes ≡ is_text encoding fold literal bytes
unfolding is_text after_piece
same_filled encoding fold [] bytes = refl
same_filled encoding fold (piece ∷ pieces) bytes = refl

same_have : (encoding : Encoding) (fold : Bool) (literal : List Piece) → have_texts encoding fold (filled literal) ≡ have_texts encoding fold literal
unfolding have_texts
same_have encoding fold [] = refl
same_have encoding fold (piece ∷ pieces) = refl

and_false : (a : Bool) → (a && false) ≡ false
and_false true = refl
and_false false = refl

or_false : (b : Bool) → (b || false) ≡ b
or_false true = refl
or_false false = refl

both : (t a b : Bool) → ((t && a) || (t && b)) ≡ (t && (a || b))
both true a b = refl
both false a b = refl

pub neither : (a b : Bool) → a ≡ false → b ≡ false → (a || b) ≡ false
neither true b first second = first
neither false b first second = second

no_not : (t : Bool) → t ≡ true → not t ≡ false
no_not true is = refl
no_not false is = let no_it : ⊥ = cc in absurd no_it

-- the begin of one literal

start_completes : (place list : ℕ) (encoding : Encoding) (fold : Bool) (literal all : List Piece) (at : ℕ) (bytes : List ℕ)
    → pieces_from all at (at + length (filled literal)) ≡ filled literal
    → list_any (completes_at all place bytes) (start_of list encoding fold at literal) ≡ ((list == place) && is_text encoding fold literal bytes)
unfolding start_of
start_completes place list encoding fold literal all at bytes is = by (have_texts encoding fold literal) refl
  where
    by : (t : Bool) → have_texts encoding fold literal ≡ t
        → list_any (completes_at all place bytes) (if t then begin_of list encoding fold at (at + length (filled literal)) ∷ [] else [])
        ≡ ((list == place) && is_text encoding fold literal bytes)
    by true some =
        or_false (completes_at all place bytes (begin_of list encoding fold at (at + length (filled literal))))
        ∙ ap (λ l. (list == place) && is_text encoding fold l bytes) is ∙ ap (λ b. (list == place) && b) (same_filled encoding fold literal bytes)
    by false none = sym (ap (λ b. (list == place) && b) (no_text_at_all encoding fold literal none bytes) ∙ and_false (list == place))

start_lives : (list : ℕ) (encoding : Encoding) (fold : Bool) (literal all : List Piece) (at : ℕ)
    → pieces_from all at (at + length (filled literal)) ≡ filled literal → list_any (is_dead all) (start_of list encoding fold at literal) ≡ false
unfolding start_of
start_lives list encoding fold literal all at is = by (have_texts encoding fold literal) refl
  where
    by : (t : Bool) → have_texts encoding fold literal ≡ t
        → list_any (is_dead all) (if t then begin_of list encoding fold at (at + length (filled literal)) ∷ [] else []) ≡ false
    by true some =
        neither (is_dead all (begin_of list encoding fold at (at + length (filled literal)))) false
        (no_not _ (ap (have_texts encoding fold) is ∙ same_have encoding fold literal ∙ some)) refl
    by false none = refl

-- the candidates end in so many pieces
abbrev EndIn : ℕ → List Candidate → Type 0
EndIn count [] = Unit {0}
EndIn count (candidate ∷ candidates) = (candidate.end ≤ count) × EndIn count candidates

both_end : (count : ℕ) (xs ys : List Candidate) → EndIn count xs → EndIn count ys → EndIn count (xs ++ ys)
both_end count [] ys first second = second
both_end count (x ∷ xs) ys first second = (first.0, both_end count xs ys first.1 second)

start_ends : (list : ℕ) (encoding : Encoding) (fold : Bool) (literal : List Piece) (at count : ℕ) → at + length (filled literal) ≤ count
    → EndIn count (start_of list encoding fold at literal)
unfolding start_of
start_ends list encoding fold literal at count within = by (have_texts encoding fold literal)
  where
    by : (t : Bool) → EndIn count (if t then begin_of list encoding fold at (at + length (filled literal)) ∷ [] else [])
    by true = (within, tt)
    by false = tt

-- the begins of literals

split_pieces : (before first rest behind : List Piece) → before ++ ((first ++ rest) ++ behind) ≡ (before ++ first) ++ (rest ++ behind)
split_pieces before first rest behind =
    ap (λ l. before ++ l) (append_assoc first rest behind) ∙ sym (append_assoc before first (rest ++ behind))

there_first : (before first rest behind : List Piece) → pieces_from (before ++ ((first ++ rest) ++ behind)) (length before) (length before + length first) ≡ first
there_first before first rest behind =
    ap (λ l. pieces_from (before ++ l) (length before) (length before + length first)) (append_assoc first rest behind) ∙ there before first (rest ++ behind)

pub starts_complete : (place list : ℕ) (encoding : Encoding) (fold : Bool) (literals : List (List Piece)) (before behind : List Piece) (bytes : List ℕ)
    → list_any (completes_at (before ++ (pieces_of literals ++ behind)) place bytes) (starts_of list encoding fold (length before) literals)
    ≡ ((list == place) && is_text_of_some encoding fold literals bytes)
unfolding starts_of
starts_complete place list encoding fold [] before behind bytes = sym (and_false (list == place))
starts_complete place list encoding fold (literal ∷ literals) before behind bytes =
    let all : List Piece = before ++ ((filled literal ++ pieces_of literals) ++ behind) in
    let rest : List Candidate = starts_of list encoding fold (length before + length (filled literal)) literals in
    list_any-append (completes_at all place bytes) (start_of list encoding fold (length before) literal) rest
    ∙ ap (λ b. b || list_any (completes_at all place bytes) rest)
    (start_completes place list encoding fold literal all (length before) bytes (there_first before (filled literal) (pieces_of literals) behind))
    ∙ ap (λ b. ((list == place) && is_text encoding fold literal bytes) || b)
    (ap (λ n. list_any (completes_at all place bytes) (starts_of list encoding fold n literals)) (sym (length-append before (filled literal)))
    ∙ ap (λ p. list_any (completes_at p place bytes) (starts_of list encoding fold (length (before ++ filled literal)) literals))
    (split_pieces before (filled literal) (pieces_of literals) behind)
    ∙ starts_complete place list encoding fold literals (before ++ filled literal) behind bytes)
    ∙ both (list == place) (is_text encoding fold literal bytes) (is_text_of_some encoding fold literals bytes)

pub starts_live : (list : ℕ) (encoding : Encoding) (fold : Bool) (literals : List (List Piece)) (before behind : List Piece)
    → list_any (is_dead (before ++ (pieces_of literals ++ behind))) (starts_of list encoding fold (length before) literals) ≡ false
unfolding starts_of
starts_live list encoding fold [] before behind = refl
starts_live list encoding fold (literal ∷ literals) before behind =
    let all : List Piece = before ++ ((filled literal ++ pieces_of literals) ++ behind) in
    let rest : List Candidate = starts_of list encoding fold (length before + length (filled literal)) literals in
    list_any-append (is_dead all) (start_of list encoding fold (length before) literal) rest
    ∙ neither _ _
    (start_lives list encoding fold literal all (length before) (there_first before (filled literal) (pieces_of literals) behind))
    (ap (λ n. list_any (is_dead all) (starts_of list encoding fold n literals)) (sym (length-append before (filled literal)))
    ∙ ap (λ p. list_any (is_dead p) (starts_of list encoding fold (length (before ++ filled literal)) literals))
    (split_pieces before (filled literal) (pieces_of literals) behind)
    ∙ starts_live list encoding fold literals (before ++ filled literal) behind)

starts_end : (list : ℕ) (encoding : Encoding) (fold : Bool) (literals : List (List Piece)) (at count : ℕ) → at + length (pieces_of literals) ≤ count
    → EndIn count (starts_of list encoding fold at literals)
unfolding starts_of
starts_end list encoding fold [] at count within = tt
starts_end list encoding fold (literal ∷ literals) at count within =
    let sum = length-append (filled literal) (pieces_of literals) in
    both_end count (start_of list encoding fold at literal) (starts_of list encoding fold (at + length (filled literal)) literals)
    (start_ends list encoding fold literal at count (omega (arith, within, sum)))
    (starts_end list encoding fold literals (at + length (filled literal)) count (omega (arith, within, sum)))

-- more pieces behind change nothing

same_pieces : (pieces more : List Piece) (at end : ℕ) → end ≤ length pieces → pieces_from (pieces ++ more) at end ≡ pieces_from pieces at end
same_pieces pieces more at end within = by (cases_lt at end)
  where
    by : (at < end) ⊎ (end ≤ at) → pieces_from (pieces ++ more) at end ≡ pieces_from pieces at end
    by (inl before) =
        let count = length-drop at pieces in
        ap (take (end - at)) (drop-append-le at pieces more (omega (arith, before, within)))
        ∙ take-append-le (end - at) (drop at pieces) more (omega (arith, before, within, count))
    by (inr past) = no_piece (pieces ++ more) at end past ∙ sym (no_piece pieces at end past)

same_any : (f g : Candidate → Bool) (count : ℕ) (candidates : List Candidate) → ((c : Candidate) → c.end ≤ count → f c ≡ g c)
    → EndIn count candidates → list_any f candidates ≡ list_any g candidates
same_any f g count [] same within = refl
same_any f g count (c ∷ candidates) same within =
    ap (λ b. b || list_any f candidates) (same c within.0) ∙ ap (λ b. g c || b) (same_any f g count candidates same within.1)

more_ends : (few many : ℕ) (candidates : List Candidate) → few ≤ many → EndIn few candidates → EndIn many candidates
more_ends few many [] more within = tt
more_ends few many (c ∷ candidates) more within = (omega (arith, more, within.0), more_ends few many candidates more within.1)

-- a list behind others

apart : (n : ℕ) → (0 == suc n) ≡ false
apart n = grind (arith, nat_tests)

apart_too : (n : ℕ) → (suc n == 0) ≡ false
apart_too n = grind (arith, nat_tests)

both_more : (n m : ℕ) → (suc n == suc m) ≡ (n == m)
both_more n m = grind (arith, nat_tests)

pub text_at_last : (lists : List Opened) (list : Opened) (place : ℕ) (bytes : List ℕ)
    → is_text_at (lists ++ list ∷ []) place bytes ≡ (is_text_at lists place bytes || ((length lists == place) && is_text_in list bytes))
unfolding is_text_at
text_at_last [] list zero bytes = refl
text_at_last [] list (suc place) bytes = sym (ap (λ b. b && is_text_in list bytes) (apart place))
text_at_last (first ∷ lists) list zero bytes =
    sym (ap (λ b. is_text_in first bytes || (b && is_text_in list bytes)) (apart_too (length lists)) ∙ or_false (is_text_in first bytes))
text_at_last (first ∷ lists) list (suc place) bytes =
    text_at_last lists list place bytes ∙ ap (λ b. is_text_at lists place bytes || (b && is_text_in list bytes)) (sym (both_more (length lists) place))

-- The begins of a register stand for the texts of its lists.
pub record StandsFor (flat : Flat) (lists : List Opened) : Type 0 where
  pub marks : length flat.marks ≡ length lists
  pub texts : StandFor flat.pieces flat.starts lists
  pub within : EndIn (length flat.pieces) flat.starts

pub none_stand : (pieces : List Piece) → StandFor pieces [] []
unfolding complete some_dead is_text_at
none_stand pieces = record { is = λ place bytes. refl; live = refl }

at_first : (flat : Flat) → flat ≡ no_lists → StandsFor flat []
at_first flat is = subst (λ f. StandsFor f []) (sym is) (record { marks = refl; texts = none_stand []; within = tt })

one_more : (flat : Flat) (lists : List Opened) (list : Opened) → StandsFor flat lists → StandsFor (with_list flat list) (lists ++ list ∷ [])
unfolding complete some_dead
one_more flat lists list stands =
    let behind : (with_list flat list).pieces ≡ flat.pieces ++ (pieces_of list.literals ++ []) = ap (λ l. flat.pieces ++ l) (sym (append-nil (pieces_of list.literals))) in
    let added : List Candidate = starts_of (length flat.marks) list.encoding list.fold (length flat.pieces) list.literals in
    let count = length-append flat.pieces (pieces_of list.literals) in
    record {
      marks = (let old = stands.marks in
          let first = length-append flat.marks (record { starts = length flat.starts; pieces = length flat.pieces } ∷ []) in
          let second = length-append lists (list ∷ []) in
          omega (arith, old, first, second));
      texts = record {
        is = λ place bytes.
            (list_any-append (completes_at (flat.pieces ++ pieces_of list.literals) place bytes) flat.starts added
            ∙ ap (λ b. b || list_any (completes_at (flat.pieces ++ pieces_of list.literals) place bytes) added)
            (same_any (completes_at (flat.pieces ++ pieces_of list.literals) place bytes) (completes_at flat.pieces place bytes) (length flat.pieces) flat.starts
            (λ c ends. ap (λ l. (c.list == place) && after_bytes (left_bytes c.left) (is_tail c.encoding c.fold c.loops l) bytes)
            (same_pieces flat.pieces (pieces_of list.literals) c.at c.end ends)) stands.within ∙ stands.texts.is place bytes)
            ∙ ap (λ b. is_text_at lists place bytes || b)
            (ap (λ p. list_any (completes_at p place bytes) added) behind
            ∙ starts_complete place (length flat.marks) list.encoding list.fold list.literals flat.pieces [] bytes
            ∙ ap (λ n. (n == place) && is_text_in list bytes) stands.marks)
            ∙ sym (text_at_last lists list place bytes));
        live = list_any-append (is_dead (flat.pieces ++ pieces_of list.literals)) flat.starts added
            ∙ neither _ _
            (same_any (is_dead (flat.pieces ++ pieces_of list.literals)) (is_dead flat.pieces) (length flat.pieces) flat.starts
            (λ c ends. ap (λ l. not (have_texts c.encoding c.fold l)) (same_pieces flat.pieces (pieces_of list.literals) c.at c.end ends)) stands.within ∙ stands.texts.live)
            (ap (λ p. list_any (is_dead p) added) behind ∙ starts_live (length flat.marks) list.encoding list.fold list.literals flat.pieces []);
      };
      within = both_end (length (flat.pieces ++ pieces_of list.literals)) flat.starts added
          (more_ends (length flat.pieces) (length (flat.pieces ++ pieces_of list.literals)) flat.starts (omega (arith, count)) stands.within)
          (starts_end (length flat.marks) list.encoding list.fold list.literals (length flat.pieces) (length (flat.pieces ++ pieces_of list.literals)) (omega (arith, count)));
    }

more_lists : (flat : Flat) (lists more : List Opened) → StandsFor flat lists → StandsFor (with_lists flat more) (lists ++ more)
unfolding with_lists
more_lists flat lists [] stands = subst (StandsFor flat) (sym (append-nil lists)) stands
more_lists flat lists (list ∷ more) stands =
    subst (StandsFor (with_lists (with_list flat list) more)) (append_assoc lists (list ∷ []) more)
    (more_lists (with_list flat list) (lists ++ list ∷ []) more (one_more flat lists list stands))

pub held : (flat : Flat) (lists : List Opened) → flat ≡ with_lists no_lists lists → StandsFor flat lists
held flat lists is = subst (λ f. StandsFor f lists) (sym is) (more_lists no_lists [] lists (at_first no_lists refl))

-- how full a register is
pub full_by : (register : Register) (lists : List Opened) (literals : List (List Piece)) → Holds register lists
    → IsFull register literals ↔ ((register.lists < length lists + 1) ⊎ (register.units < units_in lists + units_of literals))
full_by register lists literals holds =
    let count = (held register.flat lists holds.flat).marks in
    let units = units_held register lists holds in
    (to count units, back count units)
  where
    to : length register.flat.marks ≡ length lists → length register.flat.pieces ≡ units_in lists → IsFull register literals
        → (register.lists < length lists + 1) ⊎ (register.units < units_in lists + units_of literals)
    to count units (inl few) = inl (omega (arith, few, count))
    to count units (inr small) = inr (omega (arith, small, units))

    back : length register.flat.marks ≡ length lists → length register.flat.pieces ≡ units_in lists
        → (register.lists < length lists + 1) ⊎ (register.units < units_in lists + units_of literals) → IsFull register literals
    back count units (inl few) = inl (omega (arith, few, count))
    back count units (inr small) = inr (omega (arith, small, units))
