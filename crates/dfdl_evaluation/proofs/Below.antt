-- An equation over a sound book asks for unknowns that are there.
use Rattle.std.proofs.Common.{ℕ, zero, suc, ◌<◌, ◌==◌, ◌-◌, ◌/◌, not, ◌||◌, Bool, true, false, if◌then◌else◌, List, [], ◌∷◌, take, drop, length, All, IfSome, slice_get, Option, None, Some, subst}
use Rattle.std.specs.List.{list_any}
use Rattle.std.proofs.lemmas.List.Elements.{All-cons, All-drop, All-head, All-nil, All-tail, All-take}
use Rattle.dfdl_suspend.specs.Answers.{Meets, NamesBelow}
use Rattle.dfdl_suspend.specs.Asks.{Asks, Is, Fails, Ask, Gives, Gets, Faults, WaitsFor, at, gives, told as told_at}
use Rattle.dfdl_suspend.specs.declared.equations.Answer.{Answer}
use Rattle.dfdl_suspend.specs.declared.equations.Answer.TheVariants.{Value, Wait, Fault}
use Rattle.dfdl_suspend.specs.declared.known.Held.{Held}
use Rattle.dfdl_terms.specs.Rows.{IsWithin}
use Rattle.dfdl_cells.specs.Books.{Book}
use Rattle.dfdl_cells.specs.Places as places
use Rattle.dfdl_cells.specs.Separators as separators
use Rattle.dfdl_cells.specs.Sound.{ComplexWithin, EarlierWithin, MarkWithin, PlaceWithin, StandsWithin, StepWithin}
use Rattle.dfdl_cells.specs.Values as values
use Rattle.dfdl_cells.specs.declared.cell.Cell.{Cell}
use Rattle.dfdl_cells.specs.declared.complex.Complex.{Complex}
use Rattle.dfdl_cells.specs.declared.piece.Earlier.{Earlier}
use Rattle.dfdl_cells.specs.declared.piece.Earlier.TheVariants as earlier
use Rattle.dfdl_cells.specs.declared.piece.SlotEnd.{SlotEnd}
use Rattle.dfdl_cells.specs.declared.piece.Stands.{Stands}
use Rattle.dfdl_cells.specs.declared.piece.Stands.TheVariants.{Always, IfLong, IfLater}
use Rattle.dfdl_cells.specs.declared.step.Mark.{Mark}
use Rattle.dfdl_cells.specs.declared.step.Place.{Place}
use Rattle.dfdl_cells.specs.declared.step.Step.{Step}
use Rattle.dfdl_cells.specs.declared.step.Step.TheVariants as step

-- each unknown that an equation may ask for is below a number
abbrev pub AsksBelow : ℕ → Asks Held → Type 0
AsksBelow count (Is value) = Unit {0}
AsksBelow count (Fails cause) = Unit {0}
AsksBelow count (Ask cell more) = (cell < count) × ((value : Held) → AsksBelow count (more value))

abbrev pub GivesBelow : ℕ → Gives Held → Type 0
GivesBelow count (Gets value) = Unit {0}
GivesBelow count (Faults cause) = Unit {0}
GivesBelow count (WaitsFor cell) = cell < count

module _ (count : ℕ) where
  -- so is the one that it waits for
  told_below : (one : Option Held) (cell : ℕ) (go : Held → Gives Held) → cell < count → ((value : Held) → GivesBelow count (go value))
      → GivesBelow count (told_at one cell go)
  told_below None cell go within each = within
  told_below (Some value) cell go within each = each value

  pub given_below : (known : List (Option Held)) (equation : Asks Held) → AsksBelow count equation → GivesBelow count (gives equation known)
  given_below known (Is value) below = tt
  given_below known (Fails cause) below = tt
  given_below known (Ask cell more) below =
      told_below (at known cell) cell (λ value. gives (more value) known) below.0 (λ value. given_below known (more value) (below.1 value))

  -- the answer names one
  pub names_below : (equation : Asks Held) (cell : ℕ) (old new : List (Option Held)) (answer : Answer) → AsksBelow count equation
      → Meets equation cell old new answer → NamesBelow count answer
  names_below equation cell old new Value below meets = tt
  names_below equation cell old new (Wait other) below meets = subst (GivesBelow count) meets.0 (given_below old equation below)
  names_below equation cell old new (Fault cause) below meets = tt

  pub below_if : (test : Bool) (first second : Asks Held) → AsksBelow count first → AsksBelow count second → AsksBelow count (if test then first else second)
  below_if true first second one other = one
  below_if false first second one other = other

  pub number_below : (cell : ℕ) (go : ℕ → Asks Held) → cell < count → ((n : ℕ) → AsksBelow count (go n)) → AsksBelow count (values.asked_number cell go)
  number_below cell go within each = (within, λ value. each (values.number_in value))

  go_below : (told : Option values.Told) (go : values.Told → Asks Held) → ((t : values.Told) → AsksBelow count (go t)) → AsksBelow count (values.go_with told go)
  go_below None go each = tt
  go_below (Some told) go each = each told

  pub value_below : (cells : List Cell) (first : ℕ) (go : values.Told → Asks Held) → first < count → ((t : values.Told) → AsksBelow count (go t))
      → AsksBelow count (values.asked_value cells first go)
  value_below cells first go within each = (within, λ value. go_below (values.told_by (slice_get cells first) value) go each)

  normal_below : (mark : Mark) (empties : Bool) (go : Bool → Asks Held) → MarkWithin count mark → ((b : Bool) → AsksBelow count (go b))
      → AsksBelow count (places.marked_by empties mark go)
  normal_below mark true go within each =
      number_below mark.length (λ bits. go (mark.in_empty || not (bits == 0))) within.length (λ bits. each (mark.in_empty || not (bits == 0)))
  normal_below mark false go within each = each true

  marked_in_below : (mark : Mark) (told : values.Told) (go : Bool → Asks Held) → MarkWithin count mark → ((b : Bool) → AsksBelow count (go b))
      → AsksBelow count (places.marked_in mark told go)
  marked_in_below mark values.Nil go within each = each mark.in_nil
  marked_in_below mark (values.Is value) go within each = normal_below mark mark.empties go within each

  pub marked_below : (cells : List Cell) (mark : Mark) (go : Bool → Asks Held) → MarkWithin count mark → ((b : Bool) → AsksBelow count (go b))
      → AsksBelow count (places.marked cells mark go)
  marked_below cells mark go within each =
      value_below cells mark.value (λ told. places.marked_in mark told go) within.value (λ told. marked_in_below mark told go within each)

  module _ (cells : List Cell) where
    passed_below : (one : Step) (n : ℕ) (go : ℕ → Asks Held) → StepWithin count one → ((m : ℕ) → AsksBelow count (go m))
        → AsksBelow count (places.passed cells one n go)
    passed_below (step.Fixed bits) n go within each = each (places.further bits n)
    passed_below (step.Align bits) n go within each = each (places.aligned bits n)
    passed_below (step.Marked mark) n go within each =
        marked_below cells mark (λ stands. go (if stands then places.further mark.bits n else n)) within
        (λ stands. each (if stands then places.further mark.bits n else n))
    passed_below (step.Length cell) n go within each =
        number_below cell (λ bits. go (places.further bits n)) within (λ bits. each (places.further bits n))
    passed_below (step.Separator cell) n go within each =
        number_below cell (λ number. go (places.further (number / 2) n)) within (λ number. each (places.further (number / 2) n))

    pub all_passed_below : (steps : List Step) (n : ℕ) (go : ℕ → Asks Held) → All (StepWithin count) steps → ((m : ℕ) → AsksBelow count (go m))
        → AsksBelow count (places.passed_all cells steps n go)
    all_passed_below [] n go within each = each n
    all_passed_below (one ∷ steps) n go within each =
        passed_below one n (λ after. places.passed_all cells steps after go) (All-head (StepWithin count) one steps within)
        (λ after. all_passed_below steps after go (All-tail (StepWithin count) one steps within) each)

    led_below : (complex : Complex) (n : ℕ) (go : ℕ → Asks Held) → ComplexWithin count complex → ((m : ℕ) → AsksBelow count (go m))
        → AsksBelow count (places.led cells complex n go)
    led_below complex n go within each =
        number_below complex.start (λ start. places.passed_all cells complex.lead (places.further start n) go) within.start
        (λ start. all_passed_below complex.lead (places.further start n) go within.lead each)

  -- an element of a list of which each is so
  pub some_within : {X : Type 0} (P : X → Type 0) (xs : List X) (n : ℕ) → All P xs → IfSome (slice_get xs n) P
  some_within P [] n all = tt
  some_within P (x ∷ xs) zero all = All-head P x xs all
  some_within P (x ∷ xs) (suc n) all = some_within P xs n (All-tail P x xs all)

  unaligned_within : (steps : List Step) → All (StepWithin count) steps → All (StepWithin count) (separators.unaligned steps)
  unaligned_within [] all = all
  unaligned_within (step.Align bits ∷ steps) all = unaligned_within steps (All-tail (StepWithin count) (step.Align bits) steps all)
  unaligned_within (step.Fixed bits ∷ steps) all =
      All-cons (StepWithin count) (step.Fixed bits) (separators.unaligned steps) tt
      (unaligned_within steps (All-tail (StepWithin count) (step.Fixed bits) steps all))
  unaligned_within (step.Marked mark ∷ steps) all =
      All-cons (StepWithin count) (step.Marked mark) (separators.unaligned steps) (All-head (StepWithin count) (step.Marked mark) steps all)
      (unaligned_within steps (All-tail (StepWithin count) (step.Marked mark) steps all))
  unaligned_within (step.Length cell ∷ steps) all =
      All-cons (StepWithin count) (step.Length cell) (separators.unaligned steps) (All-head (StepWithin count) (step.Length cell) steps all)
      (unaligned_within steps (All-tail (StepWithin count) (step.Length cell) steps all))
  unaligned_within (step.Separator cell ∷ steps) all =
      All-cons (StepWithin count) (step.Separator cell) (separators.unaligned steps) (All-head (StepWithin count) (step.Separator cell) steps all)
      (unaligned_within steps (All-tail (StepWithin count) (step.Separator cell) steps all))

  module _ (book : Book) (complexes : All (ComplexWithin count) book.complexes) where
    complex_within : (around : Option ℕ) → IfSome (places.complex_at book around) (ComplexWithin count)
    complex_within None = tt
    complex_within (Some number) = some_within (ComplexWithin count) book.complexes number complexes

    steps_within : (around : Option Complex) → IfSome around (ComplexWithin count) → All (StepWithin count) (places.steps_in around)
    steps_within None within = All-nil (StepWithin count)
    steps_within (Some complex) within = within.inside

    begin_by_below : (most : ℕ) (around : Option Complex) (go : ℕ → Asks Held) → IfSome around (ComplexWithin count)
        → ((m : ℕ) → AsksBelow count (go m)) → AsksBelow count (places.begin_by book most around go)
    begin_by_below zero around go within each = each 0
    begin_by_below (suc most) None go within each = each 0
    begin_by_below (suc most) (Some complex) go within each =
        begin_by_below most (places.complex_at book complex.around) (λ n. places.led book.cells complex n go) (complex_within complex.around)
        (λ n. led_below book.cells complex n go within each)

    pub begin_below : (around : Option ℕ) (go : ℕ → Asks Held) → ((m : ℕ) → AsksBelow count (go m)) → AsksBelow count (places.asked_begin book around go)
    begin_below around go each = begin_by_below (length book.complexes) (places.complex_at book around) go (complex_within around) each

    start_below : (after : Option ℕ) (go : ℕ → Asks Held) → IsWithin count after → ((m : ℕ) → AsksBelow count (go m))
        → AsksBelow count (places.asked_start after go)
    start_below None go within each = each 0
    start_below (Some cell) go within each = number_below cell go within each

    passed_in_below : (around : Option ℕ) (steps : List Step) (n : ℕ) (go : ℕ → Asks Held) → All (StepWithin count) steps
        → ((m : ℕ) → AsksBelow count (go m)) → AsksBelow count (places.passed_in book around steps n go)
    passed_in_below around steps n go within each =
        below_if (list_any places.is_aligned steps) _ _
        (begin_below around (λ begin. places.passed_all book.cells steps (places.further n begin) (λ after. go (after - begin)))
        (λ begin. all_passed_below book.cells steps (places.further n begin) (λ after. go (after - begin)) within (λ after. each (after - begin))))
        (all_passed_below book.cells steps n go within each)

    pub place_below : (place : Place) (go : ℕ → Asks Held) → PlaceWithin count place → ((m : ℕ) → AsksBelow count (go m))
        → AsksBelow count (places.asked_place book place go)
    place_below place go within each =
        start_below place.after (λ start. places.passed_in book place.around (places.steps_to book place) start go) within
        (λ start. passed_in_below place.around (places.steps_to book place) start go
        (All-take (StepWithin count) place.count (drop place.first (places.steps_in (places.complex_at book place.around)))
        (All-drop (StepWithin count) place.first (places.steps_in (places.complex_at book place.around))
        (steps_within (places.complex_at book place.around) (complex_within place.around)))) each)

    pub bit_below : (place : Place) (go : ℕ → Asks Held) → PlaceWithin count place → ((m : ℕ) → AsksBelow count (go m))
        → AsksBelow count (places.asked_bit book place go)
    bit_below place go within each =
        begin_below place.around (λ begin. places.asked_place book place (λ n. go (places.further n begin)))
        (λ begin. place_below place (λ n. go (places.further n begin)) within (λ n. each (places.further n begin)))

    long_below : (slot : SlotEnd) (go : Bool → Asks Held) → ((b : Bool) → AsksBelow count (go b)) → AsksBelow count (separators.is_long book slot go)
    long_below slot go each =
        all_passed_below book.cells (separators.steps_of book slot) 0 (λ bits. go (not (bits == 0)))
        (unaligned_within (take slot.count (drop slot.first (places.steps_in (places.complex_at book slot.around))))
        (All-take (StepWithin count) slot.count (drop slot.first (places.steps_in (places.complex_at book slot.around)))
        (All-drop (StepWithin count) slot.first (places.steps_in (places.complex_at book slot.around))
        (steps_within (places.complex_at book slot.around) (complex_within slot.around)))))
        (λ bits. each (not (bits == 0)))

    later_below : (later : Option ℕ) (go : Bool → Asks Held) → IsWithin count later → ((b : Bool) → AsksBelow count (go b))
        → AsksBelow count (separators.is_later later go)
    later_below None go within each = each false
    later_below (Some cell) go within each =
        number_below cell (λ number. go (separators.is_told number)) within (λ number. each (separators.is_told number))

    pub stands_below : (slot : Stands) (go : Bool → Asks Held) → StandsWithin count slot → ((b : Bool) → AsksBelow count (go b))
        → AsksBelow count (separators.stands book slot go)
    stands_below Always go within each = each true
    stands_below (IfLong slot) go within each = long_below slot go each
    stands_below (IfLater slot later) go within each =
        long_below slot (λ long. if long then go true else separators.is_later later go)
        (λ long. below_if long (go true) (separators.is_later later go) (each true) (later_below later go within each))

    pub earlier_below : (before : Earlier) (go : Bool → Asks Held) → EarlierWithin count before → ((b : Bool) → AsksBelow count (go b))
        → AsksBelow count (separators.is_earlier book before go)
    earlier_below earlier.None go within each = each false
    earlier_below earlier.Some go within each = each true
    earlier_below (earlier.IfLong slot) go within each = long_below slot go each
    earlier_below (earlier.Told cell) go within each =
        number_below cell (λ number. go (separators.is_told number)) within (λ number. each (separators.is_told number))
