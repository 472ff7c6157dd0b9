-- What the first bytes of a list's texts tell.
use Rattle.std.proofs.Common.{◌≡◌, ℕ, ◌+◌, ◌<◌, ◌≤◌, List, [], ◌∷◌, ◌++◌, length, drop, Option, Some, None, Bool, true, false, ◌&&◌, ◌||◌, ◌==◌, is_some, nat_eq, nat_lt, ◌⊎◌, inl, inr, refl, sym, ap, subst, ◌∙◌, arith}
use Rattle.std.proofs.lemmas.Bool.{cases_lt}
use Rattle.std.proofs.lemmas.Bool.Decides.{nat_tests}
use Rattle.std.proofs.Math.Seq.{drop-append_seam}
use Rattle.std.proofs.lemmas.List.{append-nil}
use Rattle.std.specs.List.{list_any}
use Rattle.dfdl_bits.specs.ByteSets.{has_byte}
use Rattle.dfdl_bits.specs.declared.byte_set.ByteSet.{ByteSet}
use Rattle.dfdl_forms.specs.declared.literals.Piece.{Piece}
use Rattle.dfdl_delims.specs.declared.candidate.Candidate.{Candidate}
use Rattle.dfdl_delims.specs.Candidates.{complete, has_more, some_dead}
use Rattle.dfdl_delims.specs.Firsts.{HasByte, Tells}
use Rattle.dfdl_delims.specs.Hits.{IsLast}
use Rattle.dfdl_delims.specs.Lists.{Opened, is_text_in}
use Rattle.dfdl_delims.specs.Registers.{pieces_of, starts_of}
use Rattle.dfdl_delims.specs.Verdicts.{IsTold, StandAt, TellsBelow}
use Rattle.dfdl_delims.proofs.Going.{none_goes, some_goes}
use Rattle.dfdl_delims.proofs.Held.{starts_complete, starts_live}

equal : (n : ℕ) → (n == n) ≡ true
equal n = grind (arith, nat_tests)

by_place : (place : ℕ) (b : Bool) → ((place == place) && b) ≡ b
by_place place b = ap (λ t. t && b) (equal place)

second : (a b : Bool) → (a && b) ≡ true → b ≡ true
second true b is = is
second false b is = let no_it : ⊥ = cc in absurd no_it

at_place : (pieces : List Piece) (live : List Candidate) (place : ℕ) (is_text : List ℕ → Bool) → StandAt pieces live place is_text
    → (bytes : List ℕ) → complete pieces place live bytes ≡ is_text bytes
at_place pieces live place is_text stands bytes = stands.is place bytes ∙ by_place place (is_text bytes)

pub whole_by : (pieces : List Piece) (live : List Candidate) (best : Option ℕ) → IsLast (λ n. complete pieces n live []) best
    → (place : ℕ) (is_text : List ℕ → Bool) → StandAt pieces live place is_text → is_some best ≡ is_text []
whole_by pieces live None is place is_text stands = sym (is place) ∙ at_place pieces live place is_text stands []
whole_by pieces live (Some last) is place is_text stands = sym (second (place == last) (is_text []) (sym (stands.is last []) ∙ is.0))

pub longer_by : (pieces : List Piece) (live : List Candidate) (place : ℕ) (is_text : List ℕ → Bool) → StandAt pieces live place is_text
    → list_any (has_more pieces) live ≡ true → HasByte is_text
longer_by pieces live place is_text stands more =
    let goes = some_goes pieces live stands.live more in
    record {
      next = goes.next;
      more = goes.more;
      is = second (place == goes.place) (is_text (goes.next ∷ goes.more)) (sym (stands.is goes.place (goes.next ∷ goes.more)) ∙ goes.is);
    }

pub none_by : (pieces : List Piece) (live : List Candidate) (place : ℕ) (is_text : List ℕ → Bool) → StandAt pieces live place is_text
    → list_any (has_more pieces) live ≡ false → (byte : ℕ) (rest : List ℕ) → is_text (byte ∷ rest) ≡ false
none_by pieces live place is_text stands none byte rest =
    sym (at_place pieces live place is_text stands (byte ∷ rest)) ∙ none_goes pieces live none place byte rest

-- behind a byte
pub stands_behind : (pieces : List Piece) (from new : List Candidate) (byte : ℕ)
    → (some_dead pieces from ≡ false → some_dead pieces new ≡ false)
    → ((place : ℕ) (rest : List ℕ) → complete pieces place new rest ≡ complete pieces place from (byte ∷ rest))
    → (place : ℕ) (is_text : List ℕ → Bool) → StandAt pieces from place is_text → StandAt pieces new place (λ rest. is_text (byte ∷ rest))
stands_behind pieces from new byte dead completes place is_text stands = record {
  is = λ other bytes. completes other bytes ∙ stands.is other (byte ∷ bytes);
  live = dead stands.live;
}

-- byte after byte

or_none : (a t : Bool) → a ≡ (a || (t && false))
or_none true t = refl
or_none false true = refl
or_none false false = refl

pub counted_not : (set : ByteSet) (byte other : ℕ) → has_byte set other ≡ (has_byte set other || (nat_eq byte other && false))
counted_not set byte other = or_none (has_byte set other) (nat_eq byte other)

and_true : (t : Bool) → t ≡ (t && true)
and_true true = refl
and_true false = refl

pub counted_too : (set : Bool) (t : Bool) → (set || t) ≡ (set || (t && true))
counted_too set t = ap (λ b. set || b) (and_true t)

one_more : (n byte : ℕ) (alone : Bool) (is_text : List ℕ → Bool) → alone ≡ is_text (n ∷ [])
    → ((nat_lt byte n && is_text (byte ∷ [])) || (nat_eq n byte && alone)) ≡ (nat_lt byte (n + 1) && is_text (byte ∷ []))
one_more n byte alone is_text alone_is = by (cases_lt byte n)
  where
    here : (byte ≡ n) → ((nat_lt byte n && is_text (byte ∷ [])) || (nat_eq n byte && alone)) ≡ (nat_lt byte (n + 1) && is_text (byte ∷ []))
    here same =
        let less : nat_lt byte n ≡ false = grind (arith, nat_tests) in
        let equal : nat_eq n byte ≡ true = grind (arith, nat_tests) in
        let below : nat_lt byte (n + 1) ≡ true = grind (arith, nat_tests) in
        ap (λ b. (b && is_text (byte ∷ [])) || (nat_eq n byte && alone)) less ∙ ap (λ b. b && alone) equal ∙ alone_is
        ∙ ap (λ m. is_text (m ∷ [])) (sym same) ∙ ap (λ b. b && is_text (byte ∷ [])) (sym below)

    past : n < byte → ((nat_lt byte n && is_text (byte ∷ [])) || (nat_eq n byte && alone)) ≡ (nat_lt byte (n + 1) && is_text (byte ∷ []))
    past more =
        let less : nat_lt byte n ≡ false = grind (arith, nat_tests) in
        let equal : nat_eq n byte ≡ false = grind (arith, nat_tests) in
        let below : nat_lt byte (n + 1) ≡ false = grind (arith, nat_tests) in
        ap (λ b. (b && is_text (byte ∷ [])) || (nat_eq n byte && alone)) less ∙ ap (λ b. b && alone) equal
        ∙ ap (λ b. b && is_text (byte ∷ [])) (sym below)

    not_less : (n < byte) ⊎ (byte ≤ n) → n ≤ byte → ((nat_lt byte n && is_text (byte ∷ [])) || (nat_eq n byte && alone)) ≡ (nat_lt byte (n + 1) && is_text (byte ∷ []))
    not_less (inl more) least = past more
    not_less (inr most) least = here (omega (arith, most, least))

    by : (byte < n) ⊎ (n ≤ byte) → ((nat_lt byte n && is_text (byte ∷ [])) || (nat_eq n byte && alone)) ≡ (nat_lt byte (n + 1) && is_text (byte ∷ []))
    by (inr least) = not_less (cases_lt n byte) least
    by (inl before) =
        let less : nat_lt byte n ≡ true = grind (arith, nat_tests) in
        let equal : nat_eq n byte ≡ false = grind (arith, nat_tests) in
        let below : nat_lt byte (n + 1) ≡ true = grind (arith, nat_tests) in
        ap (λ b. (b && is_text (byte ∷ [])) || (nat_eq n byte && alone)) less ∙ ap (λ b. is_text (byte ∷ []) || (b && alone)) equal
        ∙ or_false (is_text (byte ∷ [])) ∙ ap (λ b. b && is_text (byte ∷ [])) (sym below)
      where
        or_false : (b : Bool) → (b || false) ≡ b
        or_false true = refl
        or_false false = refl

neither_is : (a b : Bool) → (a || b) ≡ false → (a ≡ false) × (b ≡ false)
neither_is true b is = let no_it : ⊥ = cc in absurd no_it
neither_is false b is = (refl, is)

pub byte_told : (n : ℕ) (ones more new_ones new_more : ByteSet) (alone longer : Bool) (is_text : List ℕ → Bool)
    → ((other : ℕ) → other < 256 → has_byte new_ones other ≡ (has_byte ones other || (nat_eq n other && alone)))
    → ((other : ℕ) → other < 256 → has_byte new_more other ≡ (has_byte more other || (nat_eq n other && longer)))
    → IsTold alone longer is_text n → TellsBelow n ones more is_text → TellsBelow (n + 1) new_ones new_more is_text
byte_told n ones more new_ones new_more alone longer is_text ones_is more_is told before = record {
  ones_are = λ byte less.
      ones_is byte less ∙ ap (λ b. b || (nat_eq n byte && alone)) (before.ones_are byte less) ∙ one_more n byte alone is_text told.alone_is;
  more_are = λ byte less below none next rest. by byte less below (neither_is (has_byte more byte) (nat_eq n byte && longer) (sym (more_is byte less) ∙ none)) next rest (cases_lt byte n);
}
  where
    by : (byte : ℕ) → byte < 256 → byte < n + 1 → (has_byte more byte ≡ false) × ((nat_eq n byte && longer) ≡ false) → (next : ℕ) (rest : List ℕ)
        → (byte < n) ⊎ (n ≤ byte) → is_text (byte ∷ next ∷ rest) ≡ false
    by byte less below none next rest (inl before_it) = before.more_are byte less before_it none.0 next rest
    by byte less below none next rest (inr least) =
        let same : n ≡ byte = omega (arith, below, least) in
        let equal : nat_eq n byte ≡ true = grind (arith, nat_tests) in
        ap (λ m. is_text (m ∷ next ∷ rest)) (sym same) ∙ told.none (sym (ap (λ b. b && longer) equal) ∙ none.1) next rest

pub none_told : (ones more : ByteSet) (is_text : List ℕ → Bool) → ((byte : ℕ) → byte < 256 → has_byte ones byte ≡ false) → TellsBelow 0 ones more is_text
none_told ones more is_text none = record {
  ones_are = λ byte less. none byte less ∙ ap (λ b. b && is_text (byte ∷ [])) (never byte);
  more_are = λ byte less below. absurd (omega (arith, below));
}
  where
    never : (byte : ℕ) → false ≡ nat_lt byte 0
    never byte = grind (arith, nat_tests)

pub all_told : (ones more : ByteSet) (empty some : Bool) (n : ℕ) (is_text : List ℕ → Bool) → 256 ≤ n → TellsBelow n ones more is_text
    → empty ≡ is_text [] → (some ≡ true → HasByte is_text) → (some ≡ false → (byte : ℕ) (rest : List ℕ) → is_text (byte ∷ rest) ≡ false)
    → Tells (record { ones = ones; more = more; empty = empty; some = some }) is_text
all_told ones more empty some n is_text least told empty_is some_is none_is = record {
  empty = empty_is;
  some = some_is;
  none = none_is;
  ones = λ byte less. told.ones_are byte less ∙ ap (λ b. b && is_text (byte ∷ [])) (below byte less);
  more = λ byte less none. told.more_are byte less (omega (arith, less, least)) none;
}
  where
    below : (byte : ℕ) → byte < 256 → nat_lt byte n ≡ true
    below byte less = grind (arith, nat_tests)

-- the begins of a list that was put behind others
pub list_stands : (pieces : List Piece) (place : ℕ) (list : Opened)
    → StandAt (pieces ++ pieces_of list.literals) (starts_of place list.encoding list.fold (length pieces) list.literals) place (is_text_in list)
unfolding complete some_dead
list_stands pieces place list =
    let behind : pieces ++ pieces_of list.literals ≡ pieces ++ (pieces_of list.literals ++ []) = ap (λ l. pieces ++ l) (sym (append-nil (pieces_of list.literals))) in
    record {
      is = λ other bytes.
          ap (λ p. complete p other (starts_of place list.encoding list.fold (length pieces) list.literals) bytes) behind
          ∙ starts_complete other place list.encoding list.fold list.literals pieces [] bytes;
      live = ap (λ p. some_dead p (starts_of place list.encoding list.fold (length pieces) list.literals)) behind
          ∙ starts_live place list.encoding list.fold list.literals pieces [];
    }

pub put_stands : (pieces new_pieces : List Piece) (starts new_starts : List Candidate) (from place : ℕ) (list : Opened) → from ≡ length starts
    → new_pieces ≡ pieces ++ pieces_of list.literals → new_starts ≡ starts ++ starts_of place list.encoding list.fold (length pieces) list.literals
    → StandAt new_pieces (drop from new_starts) place (is_text_in list)
put_stands pieces new_pieces starts new_starts from place list from_is pieces_are starts_are =
    subst (λ p. StandAt p (drop from new_starts) place (is_text_in list)) (sym pieces_are)
    (subst (λ l. StandAt (pieces ++ pieces_of list.literals) l place (is_text_in list)) (sym behind) (list_stands pieces place list))
  where
    behind : drop from new_starts ≡ starts_of place list.encoding list.fold (length pieces) list.literals
    behind = ap (λ n. drop n new_starts) from_is ∙ ap (drop (length starts)) starts_are
        ∙ drop-append_seam starts (starts_of place list.encoding list.fold (length pieces) list.literals)
