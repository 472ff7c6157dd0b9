-- What is added to candidates.
use Rattle.std.proofs.Common.{◌≡◌, ℕ, ◌+◌, ◌<◌, List, [], ◌∷◌, ◌++◌, length, drop, get_or, Option, Bool, true, false, ◌||◌, if◌then◌else◌, ◌≤◌, refl, sym, ap, subst, ◌∙◌}
use Rattle.std.proofs.lemmas.List.{drop_more, drop_all}
use Rattle.std.proofs.lemmas.List.Folds.{list_any-append, list_any_at}
use Rattle.std.specs.List.{list_any}
use Rattle.dfdl_delims.specs.declared.candidate.Candidate.{Candidate}
use Rattle.dfdl_forms.specs.declared.literals.Piece.{Piece}
use Rattle.dfdl_chars.specs.Encodings.{encoded_of}
use Rattle.dfdl_delims.specs.declared.left.Left.{Left}
use Rattle.dfdl_delims.specs.Candidates.{Adding, Adds, begun, begun_each, begun_from, begun_piece, further, left_behind, passes, pieces_from, step, stepped}

or_false : (b : Bool) → (b || false) ≡ b
or_false true = refl
or_false false = refl

pub or_assoc : (a b c : Bool) → ((a || b) || c) ≡ (a || (b || c))
or_assoc true b c = refl
or_assoc false b c = refl

absorbed : (a b : Bool) → (b ≡ true → a ≡ true) → a ≡ (a || (b || false))
absorbed true b is = refl
absorbed false true is = is refl
absorbed false false is = refl

-- one that is there adds nothing
pub there : (candidates : List Candidate) (i : ℕ) (d candidate : Candidate) → i < length candidates → get_or candidates i d ≡ candidate
    → (test : Candidate → Bool) → list_any test candidates ≡ (list_any test candidates || list_any test (candidate ∷ []))
there candidates i d candidate within is test =
    absorbed (list_any test candidates) (test candidate) (λ holds. list_any_at test candidates i d within (ap test is ∙ holds))

-- candidates that are alike are one
pub one_candidate : (a b : Candidate) → a.list ≡ b.list → a.encoding ≡ b.encoding → a.fold ≡ b.fold → a.left ≡ b.left → a.loops ≡ b.loops
    → a.at ≡ b.at → a.end ≡ b.end → a ≡ b
one_candidate a b list encoding fold left loops at end = λ i. record {
  list = list i;
  encoding = encoding i;
  fold = fold i;
  left = left i;
  loops = loops i;
  at = at i;
  end = end i;
}

-- nothing is added
pub adds_none : (old : List Candidate) → Adds old [] old
adds_none old = λ test. sym (or_false (list_any test old))

-- one is put behind
pub adds_one : (old : List Candidate) (candidate : Candidate) → Adds old (candidate ∷ []) (old ++ candidate ∷ [])
adds_one old candidate = λ test. list_any-append test old (candidate ∷ [])

-- something is added, and then more
pub adds_both : (old some now more new : List Candidate) → Adds old some now → Adds now more new → Adds old (some ++ more) new
adds_both old some now more new first second = λ test.
    second test ∙ ap (λ b. b || list_any test more) (first test) ∙ or_assoc (list_any test old) (list_any test some) (list_any test more)
    ∙ ap (λ b. list_any test old || b) (sym (list_any-append test some more))

-- while something is being added

pub adding_more : (old all now some rest new : List Candidate) → Adds now some new → Adding old all now (some ++ rest) → Adding old all new rest
adding_more old all now some rest new more before = λ test.
    ap (λ b. b || list_any test rest) (more test) ∙ or_assoc (list_any test now) (list_any test some) (list_any test rest)
    ∙ ap (λ b. list_any test now || b) (sym (list_any-append test some rest)) ∙ before test

pub adding_end : (old all now : List Candidate) → Adding old all now [] → Adds old all now
adding_end old all now last = λ test. sym (or_false (list_any test now)) ∙ last test

pub each_more : (characters : List ℕ) (byte : ℕ) (next : Candidate) (i : ℕ) (d : ℕ) → i < length characters
    → begun_each (drop i characters) byte next
    ≡ (begun (left_behind (encoded_of next.encoding (get_or characters i d)) byte) next ++ begun_each (drop (i + 1) characters) byte next)
unfolding begun_each
each_more characters byte next i d within = ap (λ l. begun_each l byte next) (drop_more characters i d within)

pub each_kept : (old all now new : List Candidate) (characters : List ℕ) (byte : ℕ) (next : Candidate) (i : ℕ) (d : ℕ) (left : Option Left)
    → i < length characters → left ≡ left_behind (encoded_of next.encoding (get_or characters i d)) byte → Adds now (begun left next) new
    → Adding old all now (begun_each (drop i characters) byte next) → Adding old all new (begun_each (drop (i + 1) characters) byte next)
each_kept old all now new characters byte next i d left within is more before =
    adding_more old all now (begun (left_behind (encoded_of next.encoding (get_or characters i d)) byte) next)
    (begun_each (drop (i + 1) characters) byte next) new (subst (λ l. Adds now (begun l next) new) is more)
    (subst (Adding old all now) (each_more characters byte next i d within) before)

pub each_end : (old all now : List Candidate) (characters : List ℕ) (byte : ℕ) (next : Candidate) (i : ℕ) → length characters ≤ i
    → Adding old all now (begun_each (drop i characters) byte next) → Adds old all now
unfolding begun_each
each_end old all now characters byte next i past before =
    adding_end old all now (subst (λ l. Adding old all now (begun_each l byte next)) (drop_all i characters past) before)

-- the pieces one after the other

pub from_more : (old all now new : List Candidate) (pieces : List Piece) (byte at end : ℕ) (piece : Piece) (place : Candidate)
    → pieces_from pieces at end ≡ piece ∷ pieces_from pieces (at + 1) end
    → Adds now (begun_piece piece byte (further place)) new
    → Adding old all now (begun_from (pieces_from pieces at end) byte place)
    → Adding old all new (if passes piece then begun_from (pieces_from pieces (at + 1) end) byte (further place) else [])
unfolding begun_from
from_more old all now new pieces byte at end piece place is more before =
    adding_more old all now (begun_piece piece byte (further place)) _ new more
    (subst (λ l. Adding old all now (begun_from l byte place)) is before)

pub goes_by : (old all now rest : List Candidate) (t : Bool) → t ≡ true → Adding old all now (if t then rest else []) → Adding old all now rest
goes_by old all now rest true is before = before
goes_by old all now rest false is before = let no_it : ⊥ = cc in absurd no_it

pub stops_by : (old all now rest : List Candidate) (t : Bool) → t ≡ false → Adding old all now (if t then rest else []) → Adds old all now
stops_by old all now rest true is before = let no_it : ⊥ = cc in absurd no_it
stops_by old all now rest false is before = adding_end old all now before

pub from_end : (old all now : List Candidate) (pieces : List Piece) (byte : ℕ) (place : Candidate) → pieces ≡ []
    → Adding old all now (begun_from pieces byte place) → Adds old all now
unfolding begun_from
from_end old all now pieces byte place is before =
    adding_end old all now (subst (λ l. Adding old all now (begun_from l byte place)) is before)

-- the candidates one after the other

pub step_kept : (all now new from : List Candidate) (pieces : List Piece) (byte : ℕ) (i : ℕ) (d : Candidate) → i < length from
    → Adds now (stepped pieces byte (get_or from i d).left (get_or from i d)) new
    → Adding [] all now (step pieces byte (drop i from)) → Adding [] all new (step pieces byte (drop (i + 1) from))
unfolding step
step_kept all now new from pieces byte i d within more before =
    adding_more [] all now _ (step pieces byte (drop (i + 1) from)) new more
    (subst (λ l. Adding [] all now (step pieces byte l)) (drop_more from i d within) before)

pub step_end : (all now from : List Candidate) (pieces : List Piece) (byte : ℕ) (i : ℕ) → length from ≤ i
    → Adding [] all now (step pieces byte (drop i from)) → Adds [] all now
unfolding step
step_end all now from pieces byte i past before =
    adding_end [] all now (subst (λ l. Adding [] all now (step pieces byte l)) (drop_all i from past) before)
