-- Mirror for the prover: what was laid stays settled as it grows.
use Rattle.std.specs.Prelude.{◌≡◌, ◌≢◌, ◌⊎◌, Bool, true, false, if◌then◌else◌, ℕ, zero, suc, ◌+◌, ◌<◌, ◌≤◌, List, [], ◌∷◌, ◌++◌, length, slice_get, slice_set, All, Option, None, Some, refl}
use Rattle.std.proofs.Common.{◌∙◌, ap, sym, subst, arith, inl, inr, le_refl, lt_of_lt_of_le, le_trans, le_of_eq, length-append, length-set, append-nil, append_assoc}
use Rattle.std.proofs.lemmas.Bool.{cases_eq, cases_lt}
use Rattle.std.proofs.lemmas.List.Elements.{All-append, All-cons, All-nil, All-weaker}
use Rattle.std.proofs.lemmas.Option.{same_Some, slice_get_past, slice_get_within}
use Rattle.dfdl_cells.specs.Books.{Book}
use Rattle.dfdl_cells.specs.Growth.{Grows, HasEarlier, HasGrown, HasSlot, HasSlots, AreSteps, IsAround, IsBefore, IsBound, IsCell, IsCellIf, IsComplex, IsContent, IsEarlier, IsMark, IsNamed, IsPiece, IsPlace, IsSettled, IsStands, IsStep, IsTold, IsToldIf}
use Rattle.dfdl_cells.specs.Growing.{is_waiting, with_cell, with_complex, with_given, with_inside, with_markup, with_piece, with_step, with_step_in}
use Rattle.dfdl_cells.specs.Places.{complex_at, steps_in}
use Rattle.dfdl_cells.specs.declared.cell.Cell.{Cell}
use Rattle.dfdl_cells.specs.declared.cell.Cell.TheVariants as cell_of
use Rattle.dfdl_cells.specs.declared.complex.Complex.{Complex}
use Rattle.dfdl_cells.specs.declared.piece.Bound.{Bound}
use Rattle.dfdl_cells.specs.declared.piece.Earlier.{Earlier}
use Rattle.dfdl_cells.specs.declared.piece.Earlier.TheVariants as earlier
use Rattle.dfdl_cells.specs.declared.piece.Piece.{Piece}
use Rattle.dfdl_cells.specs.declared.piece.Piece.TheVariants as piece
use Rattle.dfdl_cells.specs.declared.piece.Stands.{Stands}
use Rattle.dfdl_cells.specs.declared.piece.Stands.TheVariants as stands_by
use Rattle.dfdl_cells.specs.declared.step.Mark.{Mark}
use Rattle.dfdl_cells.specs.declared.step.Place.{Place}
use Rattle.dfdl_cells.specs.declared.step.Step.{Step}
use Rattle.dfdl_cells.specs.declared.step.Step.TheVariants as step

pub record Found {X : Type 0} (xs : List X) (i : ℕ) : Type 0 where
  pub one : X
  pub is : slice_get xs i ≡ Some one

pub found : {X : Type 0} (xs : List X) (i : ℕ) → i < length xs → Found xs i
found [] i low = absurd (omega arith)
found (x ∷ xs) zero low = record { one = x; is = refl }
found (x ∷ xs) (suc i) low = let rest : Found xs i = found xs i (omega arith) in record { one = rest.one; is = rest.is }

none_some : {X : Type 0} {x : X} → ◌≡◌ {A = Option X} None (Some x) → ⊥
none_some is = cc

-- a list that has at least what another has is at least as long
at_least : {X : Type 0} (old new : List X) → ((i : ℕ) (x : X) → slice_get old i ≡ Some x → slice_get new i ≢ None) → length old ≤ length new
at_least old new has = elim (cases_lt (length new) (length old)) [
  | inl fewer ↦
      let at : Found old (length new) = found old (length new) fewer in
      absurd (has (length new) at.one at.is (slice_get_past new (length new) (le_refl (length new))))
  | inr enough ↦ enough
]

-- behind the last element of a list stands what is pushed
pub pushed_at : {X : Type 0} (xs : List X) (x : X) → slice_get (xs ++ x ∷ []) (length xs) ≡ Some x
pushed_at [] x = refl
pushed_at (y ∷ xs) x = pushed_at xs x

pub kept_at : {X : Type 0} (xs : List X) (x y : X) (i : ℕ) → slice_get xs i ≡ Some y → slice_get (xs ++ x ∷ []) i ≡ Some y
kept_at [] x y i is = absurd (none_some is)
kept_at (z ∷ xs) x y zero is = is
kept_at (z ∷ xs) x y (suc i) is = kept_at xs x y i is

-- an element of a list with one more is one of the list, or that one
pub either_at : {X : Type 0} (xs : List X) (x y : X) (i : ℕ) → slice_get (xs ++ x ∷ []) i ≡ Some y → (slice_get xs i ≡ Some y) ⊎ (y ≡ x)
either_at [] x y zero is = inr (sym (same_Some x y is))
either_at [] x y (suc i) is = absurd (none_some is)
either_at (z ∷ xs) x y zero is = inl is
either_at (z ∷ xs) x y (suc i) is = either_at xs x y i is

-- an element of a list with one more is one of the list, or that one behind it
placed_at : {X : Type 0} (xs : List X) (x y : X) (i : ℕ) → slice_get (xs ++ x ∷ []) i ≡ Some y → (slice_get xs i ≡ Some y) ⊎ ((i ≡ length xs) × (y ≡ x))
placed_at [] x y zero is = inr (refl, sym (same_Some x y is))
placed_at [] x y (suc i) is = absurd (none_some is)
placed_at (z ∷ xs) x y zero is = inl is
placed_at (z ∷ xs) x y (suc i) is = elim (placed_at xs x y i is) [
  | inl was ↦ inl was
  | inr now ↦ inr (ap suc now.0, now.1)
]

-- lists in which one element is another
pub set_other : {X : Type 0} (xs : List X) (i j : ℕ) (x : X) → j ≢ i → slice_get (slice_set xs i x) j ≡ slice_get xs j
set_other [] i j x apart = refl
set_other (y ∷ xs) zero zero x apart = absurd (apart refl)
set_other (y ∷ xs) zero (suc j) x apart = refl
set_other (y ∷ xs) (suc i) zero x apart = refl
set_other (y ∷ xs) (suc i) (suc j) x apart = set_other xs i j x (λ e. apart (ap suc e))

pub set_same : {X : Type 0} (xs : List X) (i : ℕ) (x : X) → i < length xs → slice_get (slice_set xs i x) i ≡ Some x
set_same [] i x low = absurd (omega arith)
set_same (y ∷ xs) zero x low = refl
set_same (y ∷ xs) (suc i) x low = set_same xs i x (omega arith)

set_either : {X : Type 0} (xs : List X) (i j : ℕ) (x y : X) → slice_get (slice_set xs i x) j ≡ Some y → (slice_get xs j ≡ Some y) ⊎ (y ≡ x)
set_either [] i j x y is = inl is
set_either (z ∷ xs) zero zero x y is = inr (sym (same_Some x y is))
set_either (z ∷ xs) zero (suc j) x y is = inl is
set_either (z ∷ xs) (suc i) zero x y is = inl is
set_either (z ∷ xs) (suc i) (suc j) x y is = set_either xs i j x y is

module _ {old new : Book} (grows : Grows old new) where
  pub complexes_grow : length old.complexes ≤ length new.complexes
  complexes_grow = at_least old.complexes new.complexes (λ number one is past. none_some (sym past ∙ (grows.complexes number one is).is))

  pub pieces_grow : length old.pieces ≤ length new.pieces
  pieces_grow = at_least old.pieces new.pieces (λ number one is past. none_some (sym past ∙ grows.pieces number one is))

  pub markups_grow : length old.markups ≤ length new.markups
  markups_grow = at_least old.markups new.markups (λ number one is past. none_some (sym past ∙ grows.markups number one is))

  pub told_grows : (number : ℕ) → IsTold old.cells number → IsTold new.cells number
  told_grows number is = elim (grows.cells number is.one is.is) [
    | inl same ↦ record { one = is.one; is = same; told = is.told }
    | inr waits ↦ absurd (is.told waits)
  ]

  pub cell_grows : (number : ℕ) → IsCell old.cells number → IsCell new.cells number
  cell_grows number is = lt_of_lt_of_le is grows.as_many

  pub cell_if_grows : (number : Option ℕ) → IsCellIf old.cells number → IsCellIf new.cells number
  cell_if_grows None is = cc
  cell_if_grows (Some number) is = cell_grows number is

  pub told_if_grows : (number : Option ℕ) → IsToldIf old.cells number → IsToldIf new.cells number
  told_if_grows None is = cc
  told_if_grows (Some number) is = told_grows number is

  pub mark_grows : (mark : Mark) → IsMark old.cells mark → IsMark new.cells mark
  mark_grows mark is = record { value = told_grows mark.value is.value; length = cell_grows mark.length is.length }

  pub step_grows : (one : Step) → IsStep old.cells one → IsStep new.cells one
  step_grows (step.Fixed bits) is = cc
  step_grows (step.Align bits) is = cc
  step_grows (step.Marked mark) is = mark_grows mark is
  step_grows (step.Length number) is = cell_grows number is
  step_grows (step.Separator number) is = cell_grows number is

  pub steps_grow : (steps : List Step) → All (IsStep old.cells) steps → All (IsStep new.cells) steps
  steps_grow steps are = All-weaker (IsStep old.cells) (IsStep new.cells) step_grows steps are

  pub around_grows : (around : Option ℕ) → IsAround old around → IsAround new around
  around_grows None is = cc
  around_grows (Some number) is = lt_of_lt_of_le is complexes_grow

  pub inside_grows : (around : Option ℕ) → IsAround old around → length (steps_in (complex_at old around)) ≤ length (steps_in (complex_at new around))
  inside_grows None is = le_refl 0
  inside_grows (Some number) is =
      let at : Found old.complexes number = found old.complexes number is in
      let grown : HasGrown at.one (slice_get new.complexes number) = grows.complexes number at.one at.is in
      let was : length (steps_in (slice_get old.complexes number)) ≡ length at.one.inside = ap (λ (o : Option Complex). length (steps_in o)) at.is in
      let now : length (steps_in (slice_get new.complexes number)) ≡ length (at.one.inside ++ grown.more) =
      ap (λ (o : Option Complex). length (steps_in o)) grown.is ∙ ap (λ (steps : List Step). length steps) grown.inside in
      let both : length (at.one.inside ++ grown.more) ≡ length at.one.inside + length grown.more = length-append at.one.inside grown.more in
      omega (arith, was, now, both)

  pub are_steps_grow : (around : Option ℕ) (first count : ℕ) → IsAround old around → AreSteps old around first count → AreSteps new around first count
  are_steps_grow around first count is are = le_trans are (inside_grows around is)

  pub place_grows : (place : Place) → IsPlace old place → IsPlace new place
  place_grows place is = record {
    around = around_grows place.around is.around;
    after = cell_if_grows place.after is.after;
    steps = are_steps_grow place.around place.first place.count is.around is.steps;
  }

  pub stands_grow : (stands : Stands) → IsStands old stands → IsStands new stands
  stands_grow stands_by.Always is = cc
  stands_grow (stands_by.IfLong slot) is = around_grows slot.around is
  stands_grow (stands_by.IfLater slot later) is = (around_grows slot.around is.0, cell_if_grows later is.1)

  pub earlier_grows : (before : Earlier) → IsEarlier old before → IsEarlier new before
  earlier_grows earlier.None is = cc
  earlier_grows earlier.Some is = cc
  earlier_grows (earlier.IfLong slot) is = around_grows slot.around is
  earlier_grows (earlier.Told number) is = cell_grows number is

  pub slot_grows : (slot : Stands) → IsStands old slot → HasSlot old slot → HasSlot new slot
  slot_grows stands_by.Always is has = cc
  slot_grows (stands_by.IfLong slot) is has = are_steps_grow slot.around slot.first slot.count is has
  slot_grows (stands_by.IfLater slot later) is has = are_steps_grow slot.around slot.first slot.count is.0 has

  pub earlier_slot_grows : (before : Earlier) → IsEarlier old before → HasEarlier old before → HasEarlier new before
  earlier_slot_grows earlier.None is has = cc
  earlier_slot_grows earlier.Some is has = cc
  earlier_slot_grows (earlier.IfLong slot) is has = are_steps_grow slot.around slot.first slot.count is has
  earlier_slot_grows (earlier.Told number) is has = cc

  pub slots_grow : (one : Piece) → IsPiece old one → HasSlots old one → HasSlots new one
  slots_grow (piece.Skip bits fill place bound) is has = cc
  slots_grow (piece.Align bits fill place bound) is has = cc
  slots_grow (piece.Delimiter component list) is has = cc
  slots_grow (piece.Marked component list mark) is has = cc
  slots_grow (piece.Separator component list position slot before) is has = (slot_grows slot is.0 has.0, earlier_slot_grows before is.1 has.1)
  slots_grow (piece.Prefix component form number value markup) is has = cc
  slots_grow (piece.Content component first markup place) is has = cc
  slots_grow (piece.Rest inside bits fill place) is has = cc
  slots_grow (piece.End fill place) is has = cc
  slots_grow piece.Missing is has = cc

  pub bound_grows : (bound : Option Bound) → IsBound old bound → IsBound new bound
  bound_grows None is = cc
  bound_grows (Some bound) is = around_grows (Some bound.complex) is

  pub content_grows : (first markup : ℕ) → IsContent old first markup → IsContent new first markup
  content_grows first markup is = record { value = told_grows first is.value; markup_is = lt_of_lt_of_le is.markup_is markups_grow }

  pub piece_grows : (one : Piece) → IsPiece old one → IsPiece new one
  piece_grows (piece.Skip bits fill place bound) is = (place_grows place is.0, bound_grows bound is.1)
  piece_grows (piece.Align bits fill place bound) is = (place_grows place is.0, bound_grows bound is.1)
  piece_grows (piece.Delimiter component list) is = cc
  piece_grows (piece.Marked component list mark) is = mark_grows mark is
  piece_grows (piece.Separator component list position slot before) is = (stands_grow slot is.0, earlier_grows before is.1)
  piece_grows (piece.Prefix component form number value markup) is =
      (cell_grows number is.0, (told_if_grows value is.1.0, lt_of_lt_of_le is.1.1 markups_grow))
  piece_grows (piece.Content component first markup place) is = (content_grows first markup is.0, place_grows place is.1)
  piece_grows (piece.Rest inside bits fill place) is = (cell_grows inside is.0, place_grows place is.1)
  piece_grows (piece.End fill place) is = place_grows place is
  piece_grows piece.Missing is = cc

  pub named_grows : (one : Cell) → IsNamed old one → IsNamed new one
  named_grows cell_of.Waiting is = cc
  named_grows (cell_of.Faulty cause) is = cc
  named_grows (cell_of.Given value) is = cc
  named_grows cell_of.Nil is = cc
  named_grows (cell_of.Items items) is = cc
  named_grows (cell_of.ValueLength component first) is = told_grows first is
  named_grows (cell_of.ContentLength component first markup) is = content_grows first markup is
  named_grows (cell_of.Reached place) is = place_grows place is
  named_grows (cell_of.Boxed size inside) is = cell_grows inside is
  named_grows (cell_of.Bits number) is = lt_of_lt_of_le is pieces_grow

  pub complex_grows : (number : ℕ) (one : Complex) → IsComplex old number one → IsComplex new number one
  complex_grows number one is = record {
    around = is.around;
    start = elim is.start [ inl first ↦ inl first | inr there ↦ inr (cell_grows one.start there) ];
    lead = steps_grow one.lead is.lead;
    inside = steps_grow one.inside is.inside;
  }

-- what was laid is itself with nothing more
pub grows_same : (book : Book) → Grows book book
grows_same book = record {
  as_many = le_refl (length book.cells);
  cells = λ number one is. inl is;
  pieces = λ number one is. is;
  complexes = λ number one is. record { new = one; is = is; around = refl; start = refl; lead = refl; more = []; inside = sym (append-nil one.inside) };
  markups = λ number one is. is;
}

-- what has grown and grows on has grown
pub grows_on : (old middle new : Book) → Grows old middle → Grows middle new → Grows old new
grows_on old middle new first second = record {
  as_many = le_trans first.as_many second.as_many;
  cells = λ number one is. elim (first.cells number one is) [
    | inl same ↦ second.cells number one same
    | inr waits ↦ inr waits
  ];
  pieces = λ number one is. second.pieces number one (first.pieces number one is);
  complexes = λ number one is.
      let inner : HasGrown one (slice_get middle.complexes number) = first.complexes number one is in
      let outer : HasGrown inner.new (slice_get new.complexes number) = second.complexes number inner.new inner.is in
      record {
        new = outer.new;
        is = outer.is;
        around = outer.around ∙ inner.around;
        start = outer.start ∙ inner.start;
        lead = outer.lead ∙ inner.lead;
        more = inner.more ++ outer.more;
        inside = outer.inside ∙ (ap (λ (steps : List Step). steps ++ outer.more) inner.inside ∙ append_assoc one.inside inner.more outer.more);
      };
  markups = λ number one is. second.markups number one (first.markups number one is);
}

-- what has grown is settled, where what is new is
pub settles : (old new : Book) → Grows old new → IsSettled old
    → ((number : ℕ) (one : Cell) → slice_get new.cells number ≡ Some one → (slice_get old.cells number ≡ Some one) ⊎ IsNamed new one)
    → ((number : ℕ) (one : Piece) → slice_get new.pieces number ≡ Some one → (slice_get old.pieces number ≡ Some one) ⊎ IsPiece new one)
    → ((number : ℕ) (one : Complex) → slice_get new.complexes number ≡ Some one → (slice_get old.complexes number ≡ Some one) ⊎ IsComplex new number one)
    → IsSettled new
settles old new grows settled cells pieces complexes = record {
  cells = λ number one is. elim (cells number one is) [
    | inl was ↦ named_grows grows one (settled.cells number one was)
    | inr now ↦ now
  ];
  pieces = λ number one is. elim (pieces number one is) [
    | inl was ↦ piece_grows grows one (settled.pieces number one was)
    | inr now ↦ now
  ];
  complexes = λ number one is. elim (complexes number one is) [
    | inl was ↦ complex_grows grows number one (settled.complexes number one was)
    | inr now ↦ now
  ];
}

-- an unknown more
pub cell_more : (book : Book) (one : Cell) → Grows book (with_cell one book)
cell_more book one = record {
  as_many = omega (arith, length-append book.cells (one ∷ []));
  cells = λ number other is. inl (kept_at book.cells one other number is);
  pieces = λ number other is. is;
  complexes = λ number other is. record { new = other; is = is; around = refl; start = refl; lead = refl; more = []; inside = sym (append-nil other.inside) };
  markups = λ number other is. is;
}

pub cell_settles : (book : Book) (one : Cell) → IsSettled book → IsNamed book one → IsSettled (with_cell one book)
cell_settles book one settled named =
    let grows : Grows book (with_cell one book) = cell_more book one in
    settles book (with_cell one book) grows settled
    (λ number other is. elim (either_at book.cells one other number is) [
      | inl was ↦ inl was
      | inr now ↦ inr (subst (IsNamed (with_cell one book)) (sym now) (named_grows grows one named))
    ])
    (λ number other is. inl is)
    (λ number other is. inl is)

-- a piece more
pub piece_more : (book : Book) (one : Piece) → Grows book (with_piece one book)
piece_more book one = record {
  as_many = le_refl (length book.cells);
  cells = λ number other is. inl is;
  pieces = λ number other is. kept_at book.pieces one other number is;
  complexes = λ number other is. record { new = other; is = is; around = refl; start = refl; lead = refl; more = []; inside = sym (append-nil other.inside) };
  markups = λ number other is. is;
}

pub piece_settles : (book : Book) (one : Piece) → IsSettled book → IsPiece book one → IsSettled (with_piece one book)
piece_settles book one settled named =
    let grows : Grows book (with_piece one book) = piece_more book one in
    settles book (with_piece one book) grows settled
    (λ number other is. inl is)
    (λ number other is. elim (either_at book.pieces one other number is) [
      | inl was ↦ inl was
      | inr now ↦ inr (subst (IsPiece (with_piece one book)) (sym now) (piece_grows grows one named))
    ])
    (λ number other is. inl is)

-- lists of markup more
pub markup_more : (book : Book) (one : List ℕ) → Grows book (with_markup one book)
markup_more book one = record {
  as_many = le_refl (length book.cells);
  cells = λ number other is. inl is;
  pieces = λ number other is. is;
  complexes = λ number other is. record { new = other; is = is; around = refl; start = refl; lead = refl; more = []; inside = sym (append-nil other.inside) };
  markups = λ number other is. kept_at book.markups one other number is;
}

pub markup_settles : (book : Book) (one : List ℕ) → IsSettled book → IsSettled (with_markup one book)
markup_settles book one settled =
    settles book (with_markup one book) (markup_more book one) settled (λ number other is. inl is) (λ number other is. inl is) (λ number other is. inl is)

-- an element with parts more
pub complex_more : (book : Book) (one : Complex) → Grows book (with_complex one book)
complex_more book one = record {
  as_many = le_refl (length book.cells);
  cells = λ number other is. inl is;
  pieces = λ number other is. is;
  complexes = λ number other is. record { new = other; is = kept_at book.complexes one other number is; around = refl; start = refl; lead = refl; more = []; inside = sym (append-nil other.inside) };
  markups = λ number other is. is;
}

pub complex_settles : (book : Book) (one : Complex) → IsSettled book → IsComplex book (length book.complexes) one → IsSettled (with_complex one book)
complex_settles book one settled named =
    let grows : Grows book (with_complex one book) = complex_more book one in
    settles book (with_complex one book) grows settled
    (λ number other is. inl is)
    (λ number other is. inl is)
    (λ number other is. elim (placed_at book.complexes one other number is) [
      | inl was ↦ inl was
      | inr now ↦ inr (subst (λ (n : ℕ). IsComplex (with_complex one book) n other) (sym now.0)
          (subst (IsComplex (with_complex one book) (length book.complexes)) (sym now.1) (complex_grows grows (length book.complexes) one named)))
    ])

-- an unknown that waited has become another
put_grows : (book : Book) (number : ℕ) (one : Cell) → slice_get book.cells number ≡ Some cell_of.Waiting
    → Grows book (record book { cells = slice_set book.cells number one })
put_grows book number one waits = record {
  as_many = le_of_eq (sym (length-set book.cells number one));
  cells = λ at other is. elim (cases_eq at number) [
    | inl same ↦ inr (same_Some other cell_of.Waiting (sym is ∙ (ap (λ (n : ℕ). slice_get book.cells n) same ∙ waits)))
    | inr apart ↦ inl (set_other book.cells number at one apart ∙ is)
  ];
  pieces = λ at other is. is;
  complexes = λ at other is. record { new = other; is = is; around = refl; start = refl; lead = refl; more = []; inside = sym (append-nil other.inside) };
  markups = λ at other is. is;
}

put_settles : (book : Book) (number : ℕ) (one : Cell) → slice_get book.cells number ≡ Some cell_of.Waiting → IsSettled book → IsNamed book one
    → IsSettled (record book { cells = slice_set book.cells number one })
put_settles book number one waits settled named =
    let now : Book = record book { cells = slice_set book.cells number one } in
    let grows : Grows book now = put_grows book number one waits in
    settles book now grows settled
    (λ at other is. elim (set_either book.cells number at one other is) [
      | inl was ↦ inl was
      | inr is_one ↦ inr (subst (IsNamed now) (sym is_one) (named_grows grows one named))
    ])
    (λ at other is. inl is)
    (λ at other is. inl is)

-- what waits is such an unknown
waits_is : (found : Option Cell) → is_waiting found ≡ true → found ≡ Some cell_of.Waiting
waits_is None is = cc
waits_is (Some cell_of.Waiting) is = refl
waits_is (Some (cell_of.Faulty cause)) is = cc
waits_is (Some (cell_of.Given value)) is = cc
waits_is (Some cell_of.Nil) is = cc
waits_is (Some (cell_of.Items items)) is = cc
waits_is (Some (cell_of.ValueLength component first)) is = cc
waits_is (Some (cell_of.ContentLength component first markup)) is = cc
waits_is (Some (cell_of.Reached place)) is = cc
waits_is (Some (cell_of.Boxed size inside)) is = cc
waits_is (Some (cell_of.Bits piece)) is = cc

given_by : (book : Book) (number : ℕ) (one : Cell) (waits : Bool) → is_waiting (slice_get book.cells number) ≡ waits
    → Grows book (if waits then record book { cells = slice_set book.cells number one } else book)
given_by book number one true is = put_grows book number one (waits_is (slice_get book.cells number) is)
given_by book number one false is = grows_same book

pub given_grows : (book : Book) (number : ℕ) (one : Cell) → Grows book (with_given number one book)
given_grows book number one = given_by book number one (is_waiting (slice_get book.cells number)) refl

settled_by : (book : Book) (number : ℕ) (one : Cell) (waits : Bool) → is_waiting (slice_get book.cells number) ≡ waits → IsSettled book → IsNamed book one
    → IsSettled (if waits then record book { cells = slice_set book.cells number one } else book)
settled_by book number one true is settled named = put_settles book number one (waits_is (slice_get book.cells number) is) settled named
settled_by book number one false is settled named = settled

pub given_settles : (book : Book) (number : ℕ) (one : Cell) → IsSettled book → IsNamed book one → IsSettled (with_given number one book)
given_settles book number one settled named = settled_by book number one (is_waiting (slice_get book.cells number)) refl settled named

-- a step more inside an element with parts
stepped_grows : (book : Book) (number : ℕ) (one : Complex) (more : Step) → slice_get book.complexes number ≡ Some one
    → Grows book (record book { complexes = slice_set book.complexes number (with_inside more one) })
stepped_grows book number one more is = record {
  as_many = le_refl (length book.cells);
  cells = λ at other was. inl was;
  pieces = λ at other was. was;
  complexes = λ at other was. elim (cases_eq at number) [
    | inl same ↦
        let is_one : other ≡ one = same_Some other one (sym was ∙ (ap (λ (n : ℕ). slice_get book.complexes n) same ∙ is)) in
        record {
          new = with_inside more one;
          is = ap (λ (n : ℕ). slice_get (slice_set book.complexes number (with_inside more one)) n) same ∙ set_same book.complexes number (with_inside more one) (slice_get_within book.complexes number one is);
          around = ap (λ (c : Complex). c.around) (sym is_one);
          start = ap (λ (c : Complex). c.start) (sym is_one);
          lead = ap (λ (c : Complex). c.lead) (sym is_one);
          more = more ∷ [];
          inside = ap (λ (c : Complex). c.inside ++ more ∷ []) (sym is_one);
        }
    | inr apart ↦ record {
      new = other;
      is = set_other book.complexes number at (with_inside more one) apart ∙ was;
      around = refl;
      start = refl;
      lead = refl;
      more = [];
      inside = sym (append-nil other.inside);
    }
  ];
  markups = λ at other was. was;
}

stepped_settles : (book : Book) (number : ℕ) (one : Complex) (more : Step) → slice_get book.complexes number ≡ Some one → IsSettled book → IsStep book.cells more
    → IsSettled (record book { complexes = slice_set book.complexes number (with_inside more one) })
stepped_settles book number one more is settled named =
    let now : Book = record book { complexes = slice_set book.complexes number (with_inside more one) } in
    let grows : Grows book now = stepped_grows book number one more is in
    let was : IsComplex book number one = settled.complexes number one is in
    settles book now grows settled
    (λ at other is_other. inl is_other)
    (λ at other is_other. inl is_other)
    (λ at other is_other. elim (cases_eq at number) [
      | inl same ↦
          let is_one : other ≡ with_inside more one =
          same_Some other (with_inside more one) (sym is_other ∙ (ap (λ (n : ℕ). slice_get (slice_set book.complexes number (with_inside more one)) n) same
          ∙ set_same book.complexes number (with_inside more one) (slice_get_within book.complexes number one is))) in
          inr (subst (λ (n : ℕ). IsComplex now n other) (sym same) (subst (IsComplex now number) (sym is_one) (record {
            around = was.around;
            start = was.start;
            lead = was.lead;
            inside = All-append (IsStep book.cells) one.inside (more ∷ []) was.inside (All-cons (IsStep book.cells) more [] named (All-nil (IsStep book.cells)));
          })))
      | inr apart ↦ inl (sym (set_other book.complexes number at (with_inside more one) apart) ∙ is_other)
    ])

step_grows_by : (book : Book) (number : ℕ) (more : Step) (found : Option Complex) → slice_get book.complexes number ≡ found → Grows book (with_step_in found number more book)
step_grows_by book number more None is = grows_same book
step_grows_by book number more (Some one) is = stepped_grows book number one more is

pub step_more : (book : Book) (number : ℕ) (more : Step) → Grows book (with_step number more book)
step_more book number more = step_grows_by book number more (slice_get book.complexes number) refl

step_settles_by : (book : Book) (number : ℕ) (more : Step) (found : Option Complex) → slice_get book.complexes number ≡ found → IsSettled book → IsStep book.cells more
    → IsSettled (with_step_in found number more book)
step_settles_by book number more None is settled named = settled
step_settles_by book number more (Some one) is settled named = stepped_settles book number one more is settled named

pub step_settles : (book : Book) (number : ℕ) (more : Step) → IsSettled book → IsStep book.cells more → IsSettled (with_step number more book)
step_settles book number more settled named = step_settles_by book number more (slice_get book.complexes number) refl settled named
