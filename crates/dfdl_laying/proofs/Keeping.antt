-- Acts of laying keep what was laid whole.
use Rattle.std.proofs.Common.{◌≡◌, ◌≢◌, ◌⊎◌, ◌∙◌, ℕ, zero, suc, ◌+◌, ◌-◌, ◌<◌, ◌≤◌, nat_lt, Bool, true, false, if◌then◌else◌, List, [], ◌∷◌, ◌++◌, length, slice_get, slice_set, All, Option, None, Some, refl, sym, ap, ap₂, subst, inl, inr, arith, le_refl, le_trans, lt_of_lt_of_le, length-append, length-set}
use Rattle.std.proofs.lemmas.List.Elements.{All-append, All-cons, All-nil}
use Rattle.std.proofs.lemmas.Option.{slice_get_within}
use Rattle.dfdl_cells.specs.Books.{Book, numbers_or}
use Rattle.dfdl_cells.specs.Growing.{inside_of, is_waiting, with_step_in, with_cell, with_complex, with_given, with_markup, with_piece, with_step}
use Rattle.dfdl_cells.specs.Growth.{Grows, HasSlots, HaveSlots, IsBound, IsCell, IsCellIf, IsComplex, IsContent, IsNamed, IsPiece, IsPlace, IsSettled, IsStep, IsTold, IsToldIf}
use Rattle.dfdl_cells.specs.Settling.{around_grows, bound_grows, cell_grows, cell_if_grows, cell_more, cell_settles, either_at, slots_grow, complex_more, complex_settles, given_grows, given_settles, grows_on, grows_same, inside_grows, complexes_grow, kept_at, markup_more, markup_settles, markups_grow, piece_more, piece_settles, place_grows, pushed_at, step_more, step_settles, told_grows, told_if_grows}
use Rattle.dfdl_cells.specs.declared.cell.Cell.{Cell}
use Rattle.dfdl_cells.specs.declared.cell.Cell.TheVariants as cell
use Rattle.dfdl_cells.specs.declared.complex.Complex.{Complex}
use Rattle.dfdl_cells.specs.declared.piece.Bound.{Bound}
use Rattle.dfdl_cells.specs.declared.piece.Piece.{Piece}
use Rattle.dfdl_cells.specs.declared.piece.Piece.TheVariants as piece
use Rattle.dfdl_cells.specs.declared.step.Place.{Place}
use Rattle.dfdl_cells.specs.declared.step.Step.{Step}
use Rattle.dfdl_cells.specs.declared.step.Step.TheVariants as step
use Rattle.dfdl_outline.specs.declared.entry.Around.{Around}
use Rattle.dfdl_outline.specs.declared.entry.ContentSize.{ContentSize}
use Rattle.dfdl_outline.specs.declared.entry.ContentSize.TheVariants.{Unbounded, Sized, Prefixed}
use Rattle.dfdl_outline.specs.declared.entry.Edge.{Edge}
use Rattle.dfdl_outline.specs.declared.entry.LengthPrefix.{LengthPrefix}
use Rattle.dfdl_outline.specs.declared.entry.SimpleSort.{SimpleSort}
use Rattle.dfdl_laying.specs.Good.{AreSpots, IsGood, IsSpot, IsValue, Keeps}
use Rattle.dfdl_laying.specs.Laying as laying
use Rattle.dfdl_laying.specs.Laying.{Laid, begun, delimited, edged, filled_to, given, lays, led_in, marked, moved, next, place_before, place_here, prefixed, scoped, skipped, stepped, with_unknown}
use Rattle.dfdl_laying.specs.declared.spot.Own.{Own}
use Rattle.dfdl_laying.specs.declared.spot.Spot.{Spot}
use Rattle.dfdl_laying.specs.declared.spot.Whole.{Whole}

spot_grows : {old new : Book} → Grows old new → (spot : Spot) → IsSpot old spot → IsSpot new spot
spot_grows grows spot is = record {
  complex = lt_of_lt_of_le is.complex (complexes_grow grows);
  since = le_trans is.since (inside_grows grows (Some spot.complex) is.complex);
  after = cell_if_grows grows spot.after is.after;
  length_is = elim is.length_is [ inl none ↦ inl none | inr there ↦ inr (cell_grows grows spot.length there) ];
  bound = bound_grows grows spot.bound is.bound;
  markup = lt_of_lt_of_le is.markup (markups_grow grows);
}

spots_grow : {old new : Book} → Grows old new → (spots : List Spot) → AreSpots old spots → AreSpots new spots
spots_grow grows [] are = cc
spots_grow grows (spot ∷ spots) are = (spot_grows grows spot are.0, spots_grow grows spots are.1)

pub keeps_same : (laid : Laid) → IsGood laid → Keeps laid laid
keeps_same laid good = record { good = good; grows = grows_same laid.book; slots = λ had. had }

pub keeps_on : {old middle new : Laid} → Keeps old middle → Keeps middle new → Keeps old new
keeps_on {old} {middle} {new} first second = record {
  good = second.good;
  grows = grows_on old.book middle.book new.book first.grows second.grows;
  slots = λ had. second.slots (first.slots had);
}

-- another book with as many owners as it has unknowns
keeps_book : (laid : Laid) (book : Book) (owners : List ℕ) → IsGood laid → Grows laid.book book → IsSettled book → length owners ≡ length book.cells
    → ((number : ℕ) (one : Piece) → slice_get book.pieces number ≡ Some one → (slice_get laid.book.pieces number ≡ Some one) ⊎ HasSlots book one)
    → Keeps laid (record laid { book = book; owners = owners })
keeps_book laid book owners good grows settled owned pieces = record {
  slots = λ had number one is. elim (pieces number one is) [
    | inl was ↦ slots_grow grows one (good.settled.pieces number one was) (had number one was)
    | inr has ↦ has
  ];
  good = record {
    settled = settled;
    owned = owned;
    here = spot_grows grows laid.here good.here;
    around = spots_grow grows laid.around good.around;
  };
  grows = grows;
}

one_owner : (laid : Laid) (owner : ℕ) (is : Cell) → IsGood laid → length (laid.owners ++ owner ∷ []) ≡ length (laid.book.cells ++ is ∷ [])
one_owner laid owner is good = omega (arith, length-append laid.owners (owner ∷ []), length-append laid.book.cells (is ∷ []), good.owned)

pub unknown_kept : (laid : Laid) (owner : ℕ) (is : Cell) → IsGood laid → IsNamed laid.book is → Keeps laid (with_unknown owner is laid)
unknown_kept laid owner is good named =
    keeps_book laid (with_cell is laid.book) (laid.owners ++ owner ∷ []) good (cell_more laid.book is) (cell_settles laid.book is good.settled named) (one_owner laid owner is good) (λ number one was. inl was)

-- the next unknown is the one that is made
pub next_is : (laid : Laid) (owner : ℕ) (is : Cell) → IsCell (with_unknown owner is laid).book.cells (next laid)
next_is laid owner is = omega (arith, length-append laid.book.cells (is ∷ []))

pub given_kept : (laid : Laid) (number : ℕ) (is : Cell) → IsGood laid → IsNamed laid.book is → Keeps laid (given number is laid)
given_kept laid number is good named =
    keeps_book laid (with_given number is laid.book) laid.owners good (given_grows laid.book number is) (given_settles laid.book number is good.settled named)
    (good.owned ∙ given_many laid.book number is) (same_pieces laid.book number is)
  where
    given_many : (book : Book) (number : ℕ) (is : Cell) → length book.cells ≡ length (with_given number is book).cells
    given_many book number is = many_by book number is (is_waiting (slice_get book.cells number))
      where
        many_by : (book : Book) (number : ℕ) (is : Cell) (waits : Bool)
            → length book.cells ≡ length (if waits then record book { cells = slice_set book.cells number is } else book).cells
        many_by book number is true = sym (length-set book.cells number is)
        many_by book number is false = refl

    same_pieces : (book : Book) (number : ℕ) (is : Cell) (at : ℕ) (one : Piece) → slice_get (with_given number is book).pieces at ≡ Some one
        → (slice_get book.pieces at ≡ Some one) ⊎ HasSlots (with_given number is book) one
    same_pieces book number is at one was = inl (sym (pieces_by book number is at (is_waiting (slice_get book.cells number))) ∙ was)
      where
        pieces_by : (book : Book) (number : ℕ) (is : Cell) (at : ℕ) (waits : Bool)
            → slice_get (if waits then record book { cells = slice_set book.cells number is } else book).pieces at ≡ slice_get book.pieces at
        pieces_by book number is at true = refl
        pieces_by book number is at false = refl

pub piece_kept : (laid : Laid) (one : Piece) → IsGood laid → IsPiece laid.book one → ((book : Book) → HasSlots book one)
    → Keeps laid (record laid { book = with_piece one laid.book })
piece_kept laid one good named slots =
    keeps_book laid (with_piece one laid.book) laid.owners good (piece_more laid.book one) (piece_settles laid.book one good.settled named) good.owned
    (λ number other is. elim (either_at laid.book.pieces one other number is) [
      | inl was ↦ inl was
      | inr now ↦ inr (subst (HasSlots (with_piece one laid.book)) (sym now) (slots (with_piece one laid.book)))
    ])

pub lays_kept : (laid : Laid) (owner : ℕ) (one : Piece) → IsGood laid → IsPiece laid.book one → ((book : Book) → HasSlots book one) → Keeps laid (lays owner one laid)
lays_kept laid owner one good named slots =
    let first : Keeps laid (record laid { book = with_piece one laid.book }) = piece_kept laid one good named slots in
    keeps_on first (unknown_kept (record laid { book = with_piece one laid.book }) owner (cell.Bits (length laid.book.pieces)) first.good
    (omega (arith, length-append laid.book.pieces (one ∷ []))))

pub step_kept : (laid : Laid) (one : Step) → IsGood laid → IsStep laid.book.cells one → Keeps laid (stepped one laid)
step_kept laid one good named =
    keeps_book laid (with_step laid.here.complex one laid.book) laid.owners good (step_more laid.book laid.here.complex one)
    (step_settles laid.book laid.here.complex one good.settled named) (good.owned ∙ same laid.book laid.here.complex one)
    (same_pieces laid.book laid.here.complex one)
  where
    same : (book : Book) (number : ℕ) (one : Step) → length book.cells ≡ length (with_step number one book).cells
    same book number one = same_by book number one (slice_get book.complexes number)
      where
        same_by : (book : Book) (number : ℕ) (one : Step) (found : Option Complex) → length book.cells ≡ length (with_step_in found number one book).cells
        same_by book number one None = refl
        same_by book number one (Some complex) = refl

    same_pieces : (book : Book) (number : ℕ) (one : Step) (at : ℕ) (other : Piece) → slice_get (with_step number one book).pieces at ≡ Some other
        → (slice_get book.pieces at ≡ Some other) ⊎ HasSlots (with_step number one book) other
    same_pieces book number one at other was = inl (sym (pieces_by book number one at (slice_get book.complexes number)) ∙ was)
      where
        pieces_by : (book : Book) (number : ℕ) (one : Step) (at : ℕ) (found : Option Complex)
            → slice_get (with_step_in found number one book).pieces at ≡ slice_get book.pieces at
        pieces_by book number one at None = refl
        pieces_by book number one at (Some complex) = refl

pub begun_kept : (laid : Laid) (start : ℕ) → IsGood laid → IsCell laid.book.cells start → Keeps laid (begun start laid)
begun_kept laid start good there = record {
  good = record {
    settled = good.settled;
    owned = good.owned;
    here = record {
      complex = good.here.complex;
      since = le_refl (length (inside_of (slice_get laid.book.complexes laid.here.complex)));
      after = there;
      length_is = good.here.length_is;
      bound = good.here.bound;
      markup = good.here.markup;
    };
    around = good.around;
  };
  grows = grows_same laid.book;
  slots = λ had. had;
}

pub place_is : (laid : Laid) (last : ℕ) → IsGood laid → IsPlace laid.book (place_before last laid)
place_is laid last good = record {
  around = good.here.complex;
  after = good.here.after;
  steps = omega (arith, good.here.since);
}

-- ---- framing ----

skipped_by : (laid : Laid) (owner fill bits : ℕ) (is_some : Bool) → IsGood laid
    → Keeps laid (if is_some then stepped (step.Fixed bits) (lays owner (piece.Skip bits fill (place_here laid) laid.here.bound) laid) else laid)
skipped_by laid owner fill bits false good = keeps_same laid good
skipped_by laid owner fill bits true good =
    let first : Keeps laid (lays owner (piece.Skip bits fill (place_here laid) laid.here.bound) laid) = lays_kept laid owner _ good (place_is laid 0 good, good.here.bound) (λ (book : Book). tt) in
    keeps_on first (step_kept _ (step.Fixed bits) first.good cc)

pub skipped_kept : (laid : Laid) (owner fill bits : ℕ) → IsGood laid → Keeps laid (skipped owner fill bits laid)
skipped_kept laid owner fill bits good = skipped_by laid owner fill bits (nat_lt 0 bits) good

filled_by : (laid : Laid) (owner fill bits : ℕ) (is_some : Bool) → IsGood laid
    → Keeps laid (if is_some then stepped (step.Align bits) (lays owner (piece.Align bits fill (place_here laid) laid.here.bound) laid) else laid)
filled_by laid owner fill bits false good = keeps_same laid good
filled_by laid owner fill bits true good =
    let first : Keeps laid (lays owner (piece.Align bits fill (place_here laid) laid.here.bound) laid) = lays_kept laid owner _ good (place_is laid 0 good, good.here.bound) (λ (book : Book). tt) in
    keeps_on first (step_kept _ (step.Align bits) first.good cc)

pub filled_kept : (laid : Laid) (owner fill bits : ℕ) → IsGood laid → Keeps laid (filled_to owner fill bits laid)
filled_kept laid owner fill bits good = filled_by laid owner fill bits (nat_lt 1 bits) good

pub delimited_kept : (laid : Laid) (owner component : ℕ) (edge : Option Edge) → IsGood laid → Keeps laid (delimited owner component edge laid)
delimited_kept laid owner component None good = keeps_same laid good
delimited_kept laid owner component (Some edge) good =
    let first : Keeps laid (lays owner (piece.Delimiter component edge.list) laid) = lays_kept laid owner (piece.Delimiter component edge.list) good tt (λ (book : Book). tt) in
    keeps_on first (step_kept _ (step.Fixed edge.bits) first.good cc)

pub led_kept : (laid : Laid) (owner component : ℕ) (around : Around) → IsGood laid → Keeps laid (led_in owner component around laid)
led_kept laid owner component around good =
    let first : Keeps laid (skipped owner around.fill around.leading_skip laid) = skipped_kept laid owner around.fill around.leading_skip good in
    let second : Keeps (skipped owner around.fill around.leading_skip laid) (filled_to owner around.fill around.alignment (skipped owner around.fill around.leading_skip laid)) =
    filled_kept _ owner around.fill around.alignment first.good in
    keeps_on first (keeps_on second (delimited_kept _ owner component around.initiator second.good))

-- ---- simple elements ----

-- what the pieces of a simple element name is there
pub record IsOwn (book : Book) (own : Own) : Type 0 where
  pub told : IsTold book.cells own.first
  pub length_is : IsCell book.cells own.length
  pub markup : own.markup < length book.markups

own_grows : {old new : Book} → Grows old new → (own : Own) → IsOwn old own → IsOwn new own
own_grows grows own is = record {
  told = told_grows grows own.first is.told;
  length_is = cell_grows grows own.length is.length_is;
  markup = lt_of_lt_of_le is.markup (markups_grow grows);
}

marked_kept : (laid : Laid) (own : Own) (simple : SimpleSort) (edge : Edge) → IsGood laid → IsOwn laid.book own → Keeps laid (marked own simple edge laid)
marked_kept laid own simple edge good is =
    let first : Keeps laid (lays own.owner (piece.Marked own.component edge.list (laying.mark_of own simple edge)) laid) =
    lays_kept laid own.owner (piece.Marked own.component edge.list (laying.mark_of own simple edge)) good (record { value = is.told; length = is.length_is }) (λ (book : Book). tt) in
    let now : IsOwn _ own = own_grows first.grows own is in
    keeps_on first (step_kept _ (step.Marked (laying.mark_of own simple edge)) first.good (record { value = now.told; length = now.length_is }))

edged_by : (laid : Laid) (own : Own) (simple : SimpleSort) (edge : Edge) (always : Bool) → IsGood laid → IsOwn laid.book own
    → Keeps laid (if always then delimited own.owner own.component (Some edge) laid else marked own simple edge laid)
edged_by laid own simple edge true good is = delimited_kept laid own.owner own.component (Some edge) good
edged_by laid own simple edge false good is = marked_kept laid own simple edge good is

edged_kept : (laid : Laid) (own : Own) (simple : SimpleSort) (edge : Option Edge) → IsGood laid → IsOwn laid.book own → Keeps laid (edged own simple edge laid)
edged_kept laid own simple None good is = keeps_same laid good
edged_kept laid own simple (Some edge) good is = edged_by laid own simple edge (laying.always_stands simple edge) good is

pub prefixed_kept : (laid : Laid) (owner component number : ℕ) (value : Option ℕ) (markup : ℕ) (prefix : Option LengthPrefix) → IsGood laid → IsCell laid.book.cells number
    → IsToldIf laid.book.cells value → markup < length laid.book.markups → Keeps laid (prefixed owner component number value markup prefix laid)
prefixed_kept laid owner component number value markup None good there told within = keeps_same laid good
prefixed_kept laid owner component number value markup (Some own) good there told within =
    let first : Keeps laid (lays owner (piece.Prefix component own.prefix number value markup) laid) =
    lays_kept laid owner (piece.Prefix component own.prefix number value markup) good (there, (told, within)) (λ (book : Book). tt) in
    keeps_on first (step_kept _ (step.Fixed own.bits) first.good cc)

moved_kept : (laid : Laid) (owner fill : ℕ) (is_text : Bool) → IsGood laid → Keeps laid (moved owner fill is_text laid)
moved_kept laid owner fill false good = keeps_same laid good
moved_kept laid owner fill true good = filled_kept laid owner fill 8 good

contented_kept : (laid : Laid) (own : Own) → IsGood laid → IsOwn laid.book own → Keeps laid (laying.contented own laid)
contented_kept laid own good is =
    let first : Keeps laid (lays own.owner (piece.Content own.component own.first own.markup (place_here laid)) laid) =
    lays_kept laid own.owner (piece.Content own.component own.first own.markup (place_here laid)) good
    (record { value = is.told; markup_is = is.markup }, place_is laid 0 good) (λ (book : Book). tt) in
    keeps_on first (step_kept _ (step.Length own.length) first.good (own_grows first.grows own is).length_is)

simple_before_kept : (laid : Laid) (own : Own) (simple : SimpleSort) (around : Around) → IsGood laid → IsOwn laid.book own
    → Keeps laid (laying.simple_before own simple around laid)
simple_before_kept laid own simple around good is =
    let first : Keeps laid (skipped own.owner around.fill around.leading_skip laid) = skipped_kept laid own.owner around.fill around.leading_skip good in
    let second : Keeps _ (filled_to own.owner around.fill around.alignment (skipped own.owner around.fill around.leading_skip laid)) =
    filled_kept _ own.owner around.fill around.alignment first.good in
    let two : Keeps laid _ = keeps_on first second in
    let third : Keeps _ (edged own simple around.initiator (filled_to own.owner around.fill around.alignment (skipped own.owner around.fill around.leading_skip laid))) =
    edged_kept _ own simple around.initiator second.good (own_grows two.grows own is) in
    let three : Keeps laid _ = keeps_on two third in
    let now : IsOwn _ own = own_grows three.grows own is in
    let fourth : Keeps _ (prefixed own.owner own.component own.length (Some own.first) own.markup simple.prefix
    (edged own simple around.initiator (filled_to own.owner around.fill around.alignment (skipped own.owner around.fill around.leading_skip laid)))) =
    prefixed_kept _ own.owner own.component own.length (Some own.first) own.markup simple.prefix third.good now.length_is now.told now.markup in
    keeps_on three (keeps_on fourth (moved_kept _ own.owner around.fill simple.is_text fourth.good))

simple_behind_kept : (laid : Laid) (own : Own) (simple : SimpleSort) (around : Around) → IsGood laid → IsOwn laid.book own
    → Keeps laid (laying.simple_behind own simple around laid)
simple_behind_kept laid own simple around good is =
    let first : Keeps laid (edged own simple around.terminator laid) = edged_kept laid own simple around.terminator good is in
    keeps_on first (skipped_kept _ own.owner around.fill around.trailing_skip first.good)

pub simple_kept : (laid : Laid) (own : Own) (simple : SimpleSort) (around : Around) → IsGood laid → IsOwn laid.book own
    → Keeps laid (laying.simple_laid own simple around laid)
simple_kept laid own simple around good is =
    let first : Keeps laid (laying.simple_before own simple around laid) = simple_before_kept laid own simple around good is in
    let second : Keeps _ (laying.contented own (laying.simple_before own simple around laid)) = contented_kept _ own first.good (own_grows first.grows own is) in
    let two : Keeps laid _ = keeps_on first second in
    keeps_on two (simple_behind_kept _ own simple around second.good (own_grows two.grows own is))

-- a list of markup more, where there is one
pub scoped_kept : (laid : Laid) (list : Option ℕ) → IsGood laid → Keeps laid (scoped list laid)
scoped_kept laid None good = keeps_same laid good
scoped_kept laid (Some list) good =
    keeps_book laid (scoped (Some list) laid).book laid.owners good (markup_more laid.book _) (markup_settles laid.book _ good.settled) good.owned (λ number one was. inl was)

pub markup_there : (laid : Laid) (list : Option ℕ) → IsGood laid → laying.markup_of list laid < length (scoped list laid).book.markups
markup_there laid None good = good.here.markup
markup_there laid (Some list) good =
    omega (arith, length-append laid.book.markups ((numbers_or (slice_get laid.book.markups laid.here.markup) ++ list ∷ []) ∷ []))

value_named : (book : Book) (is : Cell) → IsValue is → IsNamed book is
value_named book cell.Waiting is = absurd is
value_named book (cell.Faulty cause) is = tt
value_named book (cell.Given value) is = tt
value_named book cell.Nil is = tt
value_named book (cell.Items items) is = absurd is
value_named book (cell.ValueLength component first) is = absurd is
value_named book (cell.ContentLength component first markup) is = absurd is
value_named book (cell.Reached place) is = absurd is
value_named book (cell.Boxed size inside) is = absurd is
value_named book (cell.Bits piece) is = absurd is

value_told : (is : Cell) → IsValue is → is ≢ cell.Waiting
value_told cell.Waiting is same = is
value_told (cell.Faulty cause) is same = cc
value_told (cell.Given value) is same = cc
value_told cell.Nil is same = cc
value_told (cell.Items items) is same = is
value_told (cell.ValueLength component first) is same = is
value_told (cell.ContentLength component first markup) is same = is
value_told (cell.Reached place) is same = is
value_told (cell.Boxed size inside) is same = is
value_told (cell.Bits piece) is same = is

-- the first unknown of a simple element is told where it is made
first_told : (laid : Laid) (owner : ℕ) (value : Cell) → IsValue value → IsTold (with_unknown owner value laid).book.cells (next laid)
first_told laid owner value is = record { one = value; is = pushed_at laid.book.cells value; told = value_told value is }

value_known_kept : (laid : Laid) (component : ℕ) (value : Cell) → IsGood laid → IsValue value → Keeps laid (laying.value_known component value laid)
value_known_kept laid component value good is =
    let first : Keeps laid (with_unknown laid.elements value laid) = unknown_kept laid laid.elements value good (value_named laid.book value is) in
    keeps_on first (unknown_kept _ laid.elements (cell.ValueLength component (next laid)) first.good (first_told laid laid.elements value is))

lengths_kept : (laid : Laid) (component markup : ℕ) (value : Cell) → IsGood laid → IsValue value → markup < length laid.book.markups
    → Keeps laid (laying.lengths_known component markup value laid)
lengths_kept laid component markup value good is within =
    let first : Keeps laid (with_unknown laid.elements value laid) = unknown_kept laid laid.elements value good (value_named laid.book value is) in
    let second : Keeps (with_unknown laid.elements value laid) (laying.value_known component value laid) =
    unknown_kept _ laid.elements (cell.ValueLength component (next laid)) first.good (first_told laid laid.elements value is) in
    let two : Keeps laid (laying.value_known component value laid) = keeps_on first second in
    keeps_on two (unknown_kept _ laid.elements (cell.ContentLength component (next laid) markup) second.good
    (record { value = told_grows second.grows (next laid) (first_told laid laid.elements value is); markup_is = within }))

simple_begun_kept : (laid : Laid) (component markup : ℕ) (value : Cell) → IsGood laid → IsValue value → markup < length laid.book.markups
    → Keeps laid (laying.simple_begun component markup value laid)
simple_begun_kept laid component markup value good is within =
    let first : Keeps laid (laying.lengths_known component markup value laid) = lengths_kept laid component markup value good is within in
    let second : Keeps (laying.lengths_known component markup value laid) (with_unknown laid.elements (cell.Reached (place_here laid)) (laying.lengths_known component markup value laid)) =
    unknown_kept _ laid.elements (cell.Reached (place_here laid)) first.good (place_grows first.grows (place_here laid) (place_is laid 0 good)) in
    keeps_on first (keeps_on second (begun_kept _ (next (laying.lengths_known component markup value laid)) second.good
    (next_is (laying.lengths_known component markup value laid) laid.elements (cell.Reached (place_here laid)))))

own_is : (laid : Laid) (component markup : ℕ) (value : Cell) → IsGood laid → IsValue value → markup < length laid.book.markups
    → IsOwn (laying.simple_begun component markup value laid).book (laying.simple_own component markup value laid)
own_is laid component markup value good is within =
    let first : Keeps laid (with_unknown laid.elements value laid) = unknown_kept laid laid.elements value good (value_named laid.book value is) in
    let second : Keeps (with_unknown laid.elements value laid) (laying.value_known component value laid) =
    unknown_kept _ laid.elements (cell.ValueLength component (next laid)) first.good (first_told laid laid.elements value is) in
    let third : Keeps (laying.value_known component value laid) (laying.lengths_known component markup value laid) =
    unknown_kept _ laid.elements (cell.ContentLength component (next laid) markup) second.good
    (record { value = told_grows second.grows (next laid) (first_told laid laid.elements value is); markup_is = within }) in
    let fourth : Keeps (laying.lengths_known component markup value laid) (with_unknown laid.elements (cell.Reached (place_here laid)) (laying.lengths_known component markup value laid)) =
    unknown_kept _ laid.elements (cell.Reached (place_here laid)) third.good
    (place_grows (keeps_on (keeps_on first second) third).grows (place_here laid) (place_is laid 0 good)) in
    record {
      told = told_grows (keeps_on (keeps_on second third) fourth).grows (next laid) (first_told laid laid.elements value is);
      length_is = cell_grows fourth.grows _ (next_is (laying.value_known component value laid) laid.elements (cell.ContentLength component (next laid) markup));
      markup = within;
    }

pub with_simple_kept : (laid : Laid) (component : ℕ) (simple : SimpleSort) (around : Around) (value : Cell) → IsGood laid → IsValue value
    → Keeps laid (laying.with_simple component simple around value laid)
unfolding laying.with_simple
with_simple_kept laid component simple around value good is =
    let first : Keeps laid (scoped simple.scanned laid) = scoped_kept laid simple.scanned good in
    let within : laying.markup_of simple.scanned laid < length (scoped simple.scanned laid).book.markups = markup_there laid simple.scanned good in
    let second : Keeps (scoped simple.scanned laid) (laying.simple_begun component (laying.markup_of simple.scanned laid) value (scoped simple.scanned laid)) =
    simple_begun_kept _ component (laying.markup_of simple.scanned laid) value first.good is within in
    keeps_on first (keeps_on second (simple_kept _ (laying.simple_own component (laying.markup_of simple.scanned laid) value (scoped simple.scanned laid)) simple around second.good
    (own_is (scoped simple.scanned laid) component (laying.markup_of simple.scanned laid) value first.good is within)))

-- ---- elements that are calculated, and elements with parts ----

calculated_known_kept : (laid : Laid) → IsGood laid → Keeps laid (laying.calculated_known laid)
calculated_known_kept laid good =
    let first : Keeps laid (with_unknown laid.elements cell.Waiting laid) = unknown_kept laid laid.elements cell.Waiting good cc in
    let there : IsCell (with_unknown laid.elements cell.Waiting laid).book.cells (next laid) = next_is laid laid.elements cell.Waiting in
    let second : Keeps (with_unknown laid.elements cell.Waiting laid) _ = unknown_kept _ laid.elements (cell.Boxed (Some 0) (next laid)) first.good there in
    keeps_on first (keeps_on second (unknown_kept _ laid.elements (cell.Boxed (Some 0) (next laid)) second.good (cell_grows second.grows (next laid) there)))

pub calculated_kept : (laid : Laid) → IsGood laid → Keeps laid (laying.with_calculated laid)
unfolding laying.with_calculated
calculated_kept laid good =
    let first : Keeps laid (laying.calculated_known laid) = calculated_known_kept laid good in
    let second : Keeps (laying.calculated_known laid) (with_unknown laid.elements (cell.Reached (place_here laid)) (laying.calculated_known laid)) =
    unknown_kept _ laid.elements (cell.Reached (place_here laid)) first.good (place_grows first.grows (place_here laid) (place_is laid 0 good)) in
    keeps_on first (keeps_on second (begun_kept _ (next (laying.calculated_known laid)) second.good
    (next_is (laying.calculated_known laid) laid.elements (cell.Reached (place_here laid)))))

waiting_kept : (laid : Laid) (owner count : ℕ) → IsGood laid → Keeps laid (laying.with_waiting owner count laid)
unfolding laying.with_waiting
waiting_kept laid owner zero good = keeps_same laid good
waiting_kept laid owner (suc count) good =
    let first : Keeps laid (with_unknown owner cell.Waiting laid) = unknown_kept laid owner cell.Waiting good cc in
    keeps_on first (waiting_kept (with_unknown owner cell.Waiting laid) owner count first.good)

-- waiting unknowns change nothing else
waiting_here : (laid : Laid) (owner count : ℕ) → ((laying.with_waiting owner count laid).here ≡ laid.here) × ((laying.with_waiting owner count laid).around ≡ laid.around)
unfolding laying.with_waiting
waiting_here laid owner zero = (refl, refl)
waiting_here laid owner (suc count) = waiting_here (with_unknown owner cell.Waiting laid) owner count

values_kept : (laid : Laid) (declared : ℕ) (cause : Option ℕ) → IsGood laid → Keeps laid (laying.values_known declared cause laid)
values_kept laid declared None good =
    let first : Keeps laid (laying.with_waiting laid.elements declared laid) = waiting_kept laid laid.elements declared good in
    keeps_on first (unknown_kept _ laid.elements cell.Waiting first.good cc)
values_kept laid declared (Some cause) good =
    let first : Keeps laid (with_unknown laid.elements (cell.Faulty cause) laid) = unknown_kept laid laid.elements (cell.Faulty cause) good cc in
    keeps_on first (waiting_kept _ laid.elements declared first.good)

values_some : (laid : Laid) (declared : ℕ) (cause : Option ℕ) → IsGood laid → 0 < next (laying.values_known declared cause laid)
values_some laid declared None good = omega (arith, length-append (laying.with_waiting laid.elements declared laid).book.cells (cell.Waiting ∷ []))
values_some laid declared (Some cause) good =
    let first : Keeps laid (with_unknown laid.elements (cell.Faulty cause) laid) = unknown_kept laid laid.elements (cell.Faulty cause) good cc in
    omega (arith, length-append laid.book.cells (cell.Faulty cause ∷ []), (waiting_kept _ laid.elements declared first.good).grows.as_many)

content_known_kept : (laid : Laid) (declared : ℕ) (size : ContentSize) (cause : Option ℕ) → IsGood laid → Keeps laid (laying.content_known declared size cause laid)
content_known_kept laid declared size cause good =
    let first : Keeps laid (laying.values_known declared cause laid) = values_kept laid declared cause good in
    keeps_on first (unknown_kept _ laid.elements (cell.Boxed (laying.size_of size) (next (laying.values_known declared cause laid) - 1)) first.good
    (let some : 0 < next (laying.values_known declared cause laid) = values_some laid declared cause good in omega (arith, some)))

complex_begun_kept : (laid : Laid) (declared : ℕ) (size : ContentSize) (cause : Option ℕ) → IsGood laid → Keeps laid (laying.complex_begun declared size cause laid)
complex_begun_kept laid declared size cause good =
    let first : Keeps laid (laying.content_known declared size cause laid) = content_known_kept laid declared size cause good in
    let second : Keeps (laying.content_known declared size cause laid) (with_unknown laid.elements (cell.Reached (place_here laid)) (laying.content_known declared size cause laid)) =
    unknown_kept _ laid.elements (cell.Reached (place_here laid)) first.good (place_grows first.grows (place_here laid) (place_is laid 0 good)) in
    keeps_on first (keeps_on second (begun_kept _ (next (laying.content_known declared size cause laid)) second.good
    (next_is (laying.content_known declared size cause laid) laid.elements (cell.Reached (place_here laid)))))

-- what the pieces of an element with parts name is there
record IsWhole (book : Book) (whole : Whole) : Type 0 where
  inside : IsCell book.cells whole.inside
  content : IsCell book.cells whole.content
  start : IsCell book.cells whole.start

whole_grows : {old new : Book} → Grows old new → (whole : Whole) → IsWhole old whole → IsWhole new whole
whole_grows grows whole is = record {
  inside = cell_grows grows whole.inside is.inside;
  content = cell_grows grows whole.content is.content;
  start = cell_grows grows whole.start is.start;
}

whole_is : (laid : Laid) (component declared : ℕ) (size : ContentSize) (cause : Option ℕ) → IsGood laid
    → IsWhole (laying.complex_begun declared size cause laid).book (laying.whole_of component declared size cause laid)
whole_is laid component declared size cause good =
    let some : 0 < next (laying.values_known declared cause laid) = values_some laid declared cause good in
    let first : length (laying.content_known declared size cause laid).book.cells ≡ next (laying.values_known declared cause laid) + 1 =
    length-append (laying.values_known declared cause laid).book.cells (_ ∷ []) in
    let second : length (laying.complex_begun declared size cause laid).book.cells ≡ next (laying.content_known declared size cause laid) + 1 =
    length-append (laying.content_known declared size cause laid).book.cells (_ ∷ []) in
    record {
      inside = omega (arith, some, first, second);
      content = omega (arith, first, second);
      start = omega (arith, first, second);
    }

stepped_edge_kept : (laid : Laid) (edge : Option Edge) → IsGood laid → Keeps laid (laying.stepped_edge edge laid)
stepped_edge_kept laid None good = keeps_same laid good
stepped_edge_kept laid (Some edge) good = step_kept laid (step.Fixed edge.bits) good cc

stepped_skip_by : (laid : Laid) (bits : ℕ) (is_some : Bool) → IsGood laid → Keeps laid (if is_some then stepped (step.Fixed bits) laid else laid)
stepped_skip_by laid bits true good = step_kept laid (step.Fixed bits) good cc
stepped_skip_by laid bits false good = keeps_same laid good

complex_before_kept : (laid : Laid) (whole : Whole) (size : ContentSize) (around : Around) → IsGood laid → IsWhole laid.book whole
    → Keeps laid (laying.complex_before whole size around laid)
complex_before_kept laid whole size around good is =
    let led : Laid = led_in whole.owner whole.component around laid in
    let told : Laid = prefixed whole.owner whole.component whole.content None laid.here.markup (laying.prefix_of size) led in
    let long : Laid = stepped (step.Length whole.content) told in
    let edge : Laid = laying.stepped_edge around.terminator long in
    let first : Keeps laid led = led_kept laid whole.owner whole.component around good in
    let second : Keeps led told =
    prefixed_kept led whole.owner whole.component whole.content None laid.here.markup (laying.prefix_of size) first.good (cell_grows first.grows whole.content is.content) tt
    (lt_of_lt_of_le good.here.markup (markups_grow first.grows)) in
    let two : Keeps laid told = keeps_on first second in
    let third : Keeps told long = step_kept told (step.Length whole.content) second.good (cell_grows two.grows whole.content is.content) in
    let three : Keeps laid long = keeps_on two third in
    let fourth : Keeps long edge = stepped_edge_kept long around.terminator third.good in
    keeps_on three (keeps_on fourth (stepped_skip_by edge around.trailing_skip (nat_lt 0 around.trailing_skip) fourth.good))

box_scoped_kept : (laid : Laid) (size : ContentSize) (list : Option ℕ) → IsGood laid → Keeps laid (laying.box_scoped size list laid)
box_scoped_kept laid Unbounded list good = scoped_kept laid list good
box_scoped_kept laid (Sized bits) list good =
    keeps_book laid (with_markup (laying.one_list list) laid.book) laid.owners good (markup_more laid.book _) (markup_settles laid.book _ good.settled) good.owned (λ number one was. inl was)
box_scoped_kept laid (Prefixed prefix) list good =
    keeps_book laid (with_markup (laying.one_list list) laid.book) laid.owners good (markup_more laid.book _) (markup_settles laid.book _ good.settled) good.owned (λ number one was. inl was)

box_markup_there : (laid : Laid) (size : ContentSize) (list : Option ℕ) → IsGood laid
    → laying.box_markup size list laid < length (laying.box_scoped size list laid).book.markups
box_markup_there laid Unbounded list good = markup_there laid list good
box_markup_there laid (Sized bits) list good = omega (arith, length-append laid.book.markups (laying.one_list list ∷ []))
box_markup_there laid (Prefixed prefix) list good = omega (arith, length-append laid.book.markups (laying.one_list list ∷ []))

-- what lies before a content is of fill and delimiters alone
module _ (cells : List Cell) where
  skip_steps_are : (bits : ℕ) (is_some : Bool) → All (IsStep cells) (if is_some then step.Fixed bits ∷ [] else [])
  skip_steps_are bits true = All-cons (IsStep cells) (step.Fixed bits) [] tt (All-nil (IsStep cells))
  skip_steps_are bits false = All-nil (IsStep cells)

  align_steps_are : (bits : ℕ) (is_some : Bool) → All (IsStep cells) (if is_some then step.Align bits ∷ [] else [])
  align_steps_are bits true = All-cons (IsStep cells) (step.Align bits) [] tt (All-nil (IsStep cells))
  align_steps_are bits false = All-nil (IsStep cells)

  edge_steps_are : (edge : Option Edge) → All (IsStep cells) (laying.edge_steps edge)
  edge_steps_are None = All-nil (IsStep cells)
  edge_steps_are (Some edge) = All-cons (IsStep cells) (step.Fixed edge.bits) [] tt (All-nil (IsStep cells))

  prefix_steps_are : (prefix : Option LengthPrefix) → All (IsStep cells) (laying.prefix_steps prefix)
  prefix_steps_are None = All-nil (IsStep cells)
  prefix_steps_are (Some own) = All-cons (IsStep cells) (step.Fixed own.bits) [] tt (All-nil (IsStep cells))

  lead_is : (around : Around) (size : ContentSize) → All (IsStep cells) (laying.lead_of around size)
  lead_is around size =
      All-append (IsStep cells) _ _
      (All-append (IsStep cells) _ _
      (All-append (IsStep cells) _ _ (skip_steps_are around.leading_skip (nat_lt 0 around.leading_skip)) (align_steps_are around.alignment (nat_lt 1 around.alignment)))
      (edge_steps_are around.initiator))
      (prefix_steps_are (laying.prefix_of size))

bound_is : (book : Book) (size : ContentSize) (complex : ℕ) (bound : Option Bound) → complex < length book.complexes → IsBound book bound → IsBound book (laying.bound_of size complex bound)
bound_is book Unbounded complex bound there is = is
bound_is book (Sized bits) complex bound there is = there
bound_is book (Prefixed prefix) complex bound there is = is

gone_in_kept : (laid : Laid) (whole : Whole) (declared : ℕ) (size : ContentSize) (around : Around) (markup : ℕ) → IsGood laid → IsWhole laid.book whole
    → markup < length laid.book.markups → Keeps laid (laying.gone_in whole declared size around markup laid)
gone_in_kept laid whole declared size around markup good is within =
    let one : Complex = record { around = Some laid.here.complex; start = whole.start; lead = laying.lead_of around size; inside = [] } in
    let grows : Grows laid.book (with_complex one laid.book) = complex_more laid.book one in
    let there : length laid.book.complexes < length (with_complex one laid.book).complexes = omega (arith, length-append laid.book.complexes (one ∷ [])) in
    record {
      good = record {
        settled = complex_settles laid.book one good.settled (record {
          around = good.here.complex;
          start = inr is.start;
          lead = lead_is laid.book.cells around size;
          inside = All-nil (IsStep laid.book.cells);
        });
        owned = good.owned;
        here = record {
          complex = there;
          since = omega arith;
          after = cc;
          length_is = inr is.inside;
          bound = bound_is (with_complex one laid.book) size (length laid.book.complexes) laid.here.bound there (bound_grows grows laid.here.bound good.here.bound);
          markup = within;
        };
        around = (spot_grows grows laid.here good.here, spots_grow grows laid.around good.around);
      };
      grows = grows;
      slots = λ had number other was. slots_grow grows other (good.settled.pieces number other was) (had number other was);
    }

gone_inside_kept : (laid : Laid) (whole : Whole) (declared : ℕ) (size : ContentSize) (around : Around) → IsGood laid → IsWhole laid.book whole
    → Keeps laid (laying.gone_inside whole declared size around laid)
gone_inside_kept laid whole declared size around good is =
    let first : Keeps laid (laying.box_scoped size (laying.list_of around.terminator) laid) = box_scoped_kept laid size (laying.list_of around.terminator) good in
    keeps_on first (gone_in_kept _ whole declared size around _ first.good (whole_grows first.grows whole is) (box_markup_there laid size (laying.list_of around.terminator) good))

pub complex_opened_kept : (laid : Laid) (component declared : ℕ) (size : ContentSize) (around : Around) → IsGood laid
    → Keeps laid (laying.complex_opened component declared size around laid)
unfolding laying.complex_opened
complex_opened_kept laid component declared size around good =
    let whole : Whole = laying.whole_of component declared size None laid in
    let first : Keeps laid (laying.complex_begun declared size None laid) = complex_begun_kept laid declared size None good in
    let is : IsWhole (laying.complex_begun declared size None laid).book whole = whole_is laid component declared size None good in
    let second : Keeps (laying.complex_begun declared size None laid) (laying.complex_before whole size around (laying.complex_begun declared size None laid)) =
    complex_before_kept _ whole size around first.good is in
    keeps_on first (keeps_on second (gone_inside_kept _ whole declared size around second.good (whole_grows second.grows whole is)))

edge_behind_kept : (laid : Laid) (owner component : ℕ) (edge : Option Edge) → IsGood laid → Keeps laid (laying.edge_behind owner component edge laid)
edge_behind_kept laid owner component None good = keeps_same laid good
edge_behind_kept laid owner component (Some edge) good = lays_kept laid owner (piece.Delimiter component edge.list) good tt (λ (book : Book). tt)

skip_behind_by : (laid : Laid) (owner fill bits : ℕ) (is_some : Bool) → IsGood laid
    → Keeps laid (if is_some then lays owner (piece.Skip bits fill (place_before 1 laid) laid.here.bound) laid else laid)
skip_behind_by laid owner fill bits true good = lays_kept laid owner _ good (place_is laid 1 good, good.here.bound) (λ (book : Book). tt)
skip_behind_by laid owner fill bits false good = keeps_same laid good

pub complex_behind_kept : (laid : Laid) (owner component : ℕ) (around : Around) → IsGood laid → Keeps laid (laying.complex_behind owner component around laid)
complex_behind_kept laid owner component around good =
    let first : Keeps laid (laying.edge_behind owner component around.terminator laid) = edge_behind_kept laid owner component around.terminator good in
    keeps_on first (skip_behind_by _ owner around.fill around.trailing_skip (nat_lt 0 around.trailing_skip) first.good)

pub missing_kept : (laid : Laid) (owner : ℕ) → IsGood laid → Keeps laid (lays owner piece.Missing laid)
missing_kept laid owner good = lays_kept laid owner piece.Missing good tt (λ (book : Book). tt)

pub complex_missed_kept : (laid : Laid) (component declared : ℕ) (size : ContentSize) (around : Around) (cause : ℕ) → IsGood laid
    → Keeps laid (laying.complex_missed component declared size around cause laid)
unfolding laying.complex_missed
complex_missed_kept laid component declared size around cause good =
    let whole : Whole = laying.whole_of component declared size (Some cause) laid in
    let first : Keeps laid (laying.complex_begun declared size (Some cause) laid) = complex_begun_kept laid declared size (Some cause) good in
    let second : Keeps (laying.complex_begun declared size (Some cause) laid) (laying.complex_before whole size around (laying.complex_begun declared size (Some cause) laid)) =
    complex_before_kept _ whole size around first.good (whole_is laid component declared size (Some cause) good) in
    let third : Keeps _ (lays laid.elements piece.Missing (laying.complex_before whole size around (laying.complex_begun declared size (Some cause) laid))) =
    missing_kept _ laid.elements second.good in
    keeps_on first (keeps_on second (keeps_on third (complex_behind_kept _ laid.elements component around third.good)))

rest_kept : (laid : Laid) (size : ContentSize) (fill : ℕ) → IsGood laid → 0 < length laid.book.cells → Keeps laid (laying.rest_laid size fill laid)
rest_kept laid Unbounded fill good some = keeps_same laid good
rest_kept laid (Sized bits) fill good some =
    lays_kept laid laid.here.owner _ good (
      elim good.here.length_is [
        | inl none ↦ subst (λ (n : ℕ). n < length laid.book.cells) (sym none) some
        | inr there ↦ there
      ],
      place_is laid 0 good,
    ) (λ (book : Book). tt)
rest_kept laid (Prefixed prefix) fill good some = keeps_same laid good

gone_out_by : (laid : Laid) (spots : List Spot) → laid.around ≡ spots → IsGood laid → Keeps laid (laying.gone_out_to spots laid)
gone_out_by laid [] is good = keeps_same laid good
gone_out_by laid (spot ∷ around) is good =
    let are : AreSpots laid.book (spot ∷ around) = subst (AreSpots laid.book) is good.around in
    record {
      good = record { settled = good.settled; owned = good.owned; here = are.0; around = are.1 };
      grows = grows_same laid.book;
      slots = λ had. had;
    }

gone_out_kept : (laid : Laid) → IsGood laid → Keeps laid (laying.gone_out laid)
gone_out_kept laid good = gone_out_by laid laid.around refl good

pub complex_closed_kept : (laid : Laid) (component : ℕ) (size : ContentSize) (around : Around) → IsGood laid → 0 < length laid.book.cells
    → Keeps laid (laying.complex_closed component size around laid)
unfolding laying.complex_closed
complex_closed_kept laid component size around good some =
    let first : Keeps laid (given laid.here.length (cell.Reached (place_here laid)) laid) = given_kept laid laid.here.length (cell.Reached (place_here laid)) good (place_is laid 0 good) in
    let second : Keeps _ (laying.rest_laid size around.fill (given laid.here.length (cell.Reached (place_here laid)) laid)) =
    rest_kept _ size around.fill first.good (lt_of_lt_of_le some first.grows.as_many) in
    let third : Keeps _ (laying.gone_out (laying.rest_laid size around.fill (given laid.here.length (cell.Reached (place_here laid)) laid))) = gone_out_kept _ second.good in
    keeps_on first (keeps_on second (keeps_on third (complex_behind_kept _ laid.here.owner component around third.good)))

-- ---- groups ----

-- other markup is open here
markup_kept : (laid : Laid) (markup : ℕ) → IsGood laid → markup < length laid.book.markups → Keeps laid (record laid { here = record laid.here { markup = markup } })
markup_kept laid markup good within = record {
  good = record {
    settled = good.settled;
    owned = good.owned;
    here = record {
      complex = good.here.complex;
      since = good.here.since;
      after = good.here.after;
      length_is = good.here.length_is;
      bound = good.here.bound;
      markup = within;
    };
    around = good.around;
  };
  grows = grows_same laid.book;
  slots = λ had. had;
}

marked_up_kept : (laid : Laid) (list : Option ℕ) → IsGood laid → Keeps laid (laying.marked_up list laid)
marked_up_kept laid None good = markup_kept laid laid.here.markup good good.here.markup
marked_up_kept laid (Some list) good =
    let first : Keeps laid (scoped (Some list) laid) = scoped_kept laid (Some list) good in
    keeps_on first (markup_kept (scoped (Some list) laid) (length laid.book.markups) first.good (markup_there laid (Some list) good))

pub group_opened_kept : (laid : Laid) (component : ℕ) (around : Around) (separators : Option ℕ) → IsGood laid
    → Keeps laid (laying.group_opened component around separators laid)
unfolding laying.group_opened
group_opened_kept laid component around separators good =
    let first : Keeps laid (led_in laid.here.owner component around laid) = led_kept laid laid.here.owner component around good in
    let second : Keeps _ (laying.marked_up (laying.list_of around.terminator) (led_in laid.here.owner component around laid)) =
    marked_up_kept _ (laying.list_of around.terminator) first.good in
    keeps_on first (keeps_on second (marked_up_kept _ separators second.good))

pub group_closed_kept : (laid : Laid) (component : ℕ) (around : Around) (markup : ℕ) → IsGood laid → markup < length laid.book.markups
    → Keeps laid (laying.group_closed component around markup laid)
unfolding laying.group_closed
group_closed_kept laid component around markup good within =
    let first : Keeps laid (record laid { here = record laid.here { markup = markup } }) = markup_kept laid markup good within in
    let second : Keeps _ (delimited laid.here.owner component around.terminator (record laid { here = record laid.here { markup = markup } })) =
    delimited_kept _ laid.here.owner component around.terminator first.good in
    keeps_on first (keeps_on second (skipped_kept _ laid.here.owner around.fill around.trailing_skip second.good))

branchless_by : (laid : Laid) (first cause : ℕ) (is_some : Bool) → IsGood laid → Keeps laid (if is_some then given first (cell.Faulty cause) laid else laid)
branchless_by laid first cause true good = given_kept laid first (cell.Faulty cause) good cc
branchless_by laid first cause false good = keeps_same laid good

pub branchless_kept : (laid : Laid) (first declared cause : ℕ) → IsGood laid → Keeps laid (laying.branchless first declared cause laid)
branchless_kept laid first declared cause good =
    let one : Keeps laid (if nat_lt 0 declared then given first (cell.Faulty cause) laid else laid) = branchless_by laid first cause (nat_lt 0 declared) good in
    keeps_on one (missing_kept _ laid.here.owner one.good)

pub surplus_kept : (laid : Laid) (cause : ℕ) → IsGood laid → Keeps laid (laying.with_surplus cause laid)
surplus_kept laid cause good =
    let first : Keeps laid (with_unknown laid.elements (cell.Faulty cause) laid) = unknown_kept laid laid.elements (cell.Faulty cause) good cc in
    record {
      good = record { settled = first.good.settled; owned = first.good.owned; here = first.good.here; around = first.good.around };
      grows = first.grows;
      slots = first.slots;
    }

pub document_ended_kept : (laid : Laid) (fill : ℕ) → IsGood laid → Keeps laid (laying.document_ended fill laid)
document_ended_kept laid fill good = lays_kept laid 0 _ good (place_is laid 0 good) (λ (book : Book). tt)
