-- The answers to what equations ask are those that the definitions give.
use Rattle.std.proofs.Common.{◌≡◌, ℕ, zero, suc, ◌-◌, ◌/◌, ◌==◌, Bool, true, false, not, ◌||◌, if◌then◌else◌, List, [], ◌∷◌, length, Option, None, Some, Result, Ok, Err, refl, subst, sym, ◌∙◌, slice_get}
use Rattle.std.specs.List.{list_any}
use Rattle.dfdl_suspend.specs.Asks.{Asks, Gives, at, gives, told as told_at}
use Rattle.dfdl_suspend.specs.declared.known.Held.{Held}
use Rattle.dfdl_cells.specs.Answers.{Answers}
use Rattle.dfdl_cells.specs.Asking as asking
use Rattle.dfdl_cells.specs.Asking.{begin_by, behind, onward, passed_all}
use Rattle.dfdl_cells.specs.Books.{Book}
use Rattle.dfdl_cells.specs.Places as places
use Rattle.dfdl_cells.specs.Values as values
use Rattle.dfdl_cells.specs.declared.asking.Stop.{Stop}
use Rattle.dfdl_cells.specs.declared.asking.Stop.TheVariants.{Wait, Fault}
use Rattle.dfdl_cells.specs.declared.cell.Cell.{Cell}
use Rattle.dfdl_cells.specs.declared.complex.Complex.{Complex}
use Rattle.dfdl_cells.specs.declared.step.Mark.{Mark}
use Rattle.dfdl_cells.specs.declared.step.Place.{Place}
use Rattle.dfdl_cells.specs.declared.step.Step.{Step}
use Rattle.dfdl_cells.specs.declared.step.Step.TheVariants.{Fixed, Align, Marked, Length, Separator}

-- one question behind another
pub behind_onward : {A B : Type 0} (first : Result A Stop) (next : A → Result B Stop) (go : B → Gives Held)
    → behind (onward first next) go ≡ behind first (λ a. behind (next a) go)
behind_onward (Ok a) next go = refl
behind_onward (Err (Wait cell)) next go = refl
behind_onward (Err (Fault cause)) next go = refl

pub behind_same : {A : Type 0} (answer : Result A Stop) (go other : A → Gives Held) → ((a : A) → go a ≡ other a) → behind answer go ≡ behind answer other
behind_same (Ok a) go other same = same a
behind_same (Err (Wait cell)) go other same = refl
behind_same (Err (Fault cause)) go other same = refl

-- a question, and behind its answer another one
abbrev pub chained : {A B : Type 0} (known : List (Option Held)) (asked : (A → Asks Held) → Asks Held) (then_asked : A → (B → Asks Held) → Asks Held)
    (first : Result A Stop) (next : A → Result B Stop) → Answers asked known first → ((a : A) → Answers (then_asked a) known (next a))
    → Answers (λ (go : B → Asks Held). asked (λ a. then_asked a go)) known (onward first next)
chained known asked then_asked first next is behind_it = record {
  gives_so = λ go.
      is.gives_so (λ a. then_asked a go)
      ∙ (behind_same first (λ a. gives (then_asked a go) known) (λ a. behind (next a) (λ b. gives (go b) known)) (λ a. (behind_it a).gives_so go)
      ∙ sym (behind_onward first next (λ b. gives (go b) known)));
}

-- what needs no question
pub at_once : {A : Type 0} (known : List (Option Held)) (a : A) → Answers (λ (go : A → Asks Held). go a) known (Ok a)
at_once known a = record { gives_so = λ go. refl }

module _ (known : List (Option Held)) where
  number_by : (cell : ℕ) (held : Option Held) (go : ℕ → Asks Held)
      → told_at held cell (λ value. gives (go (values.number_in value)) known) ≡ behind (asking.number_of cell held) (λ n. gives (go n) known)
  number_by cell None go = refl
  number_by cell (Some value) go = refl

  pub number_answers : (cell : ℕ) → Answers (values.asked_number cell) known (asking.number known cell)
  number_answers cell = record { gives_so = number_by cell (at known cell) }

  or_none_by : (told : Option values.Told) (go : values.Told → Asks Held)
      → gives (values.go_with told go) known ≡ behind (asking.or_none told) (λ t. gives (go t) known)
  or_none_by None go = refl
  or_none_by (Some told) go = refl

  value_by : (cells : List Cell) (first : ℕ) (held : Option Held) (go : values.Told → Asks Held)
      → told_at held first (λ value. gives (values.go_with (values.told_by (slice_get cells first) value) go) known)
      ≡ behind (asking.value_of cells first held) (λ t. gives (go t) known)
  value_by cells first None go = refl
  value_by cells first (Some value) go = or_none_by (values.told_by (slice_get cells first) value) go

  pub value_answers : (cells : List Cell) (first : ℕ) → Answers (values.asked_value cells first) known (asking.value cells known first)
  value_answers cells first = record { gives_so = value_by cells first (at known first) }

  normal_by : (mark : Mark) (empties : Bool) → Answers (places.marked_by empties mark) known
      (if empties then onward (asking.number known mark.length) (λ bits. Ok (mark.in_empty || not (bits == 0))) else Ok true)
  normal_by mark true =
      chained known (values.asked_number mark.length) (λ bits (go : Bool → Asks Held). go (mark.in_empty || not (bits == 0))) _ _
      (number_answers mark.length) (λ bits. at_once known (mark.in_empty || not (bits == 0)))
  normal_by mark false = at_once known true

  normal_answers : (mark : Mark) → Answers (places.marked_by mark.empties mark) known (asking.is_normal known mark)
  normal_answers mark = normal_by mark mark.empties

  stands_by_answers : (mark : Mark) (told : values.Told) → Answers (places.marked_in mark told) known (asking.stands_by known mark told)
  stands_by_answers mark values.Nil = at_once known mark.in_nil
  stands_by_answers mark (values.Is value) = normal_answers mark

  module _ (cells : List Cell) where
    pub stands_answers : (mark : Mark) → Answers (places.marked cells mark) known (asking.stands cells known mark)
    stands_answers mark =
        chained known (values.asked_value cells mark.value) (places.marked_in mark) _ _ (value_answers cells mark.value) (stands_by_answers mark)

    pub passed_answers : (step : Step) (n : ℕ) → Answers (places.passed cells step n) known (asking.passed cells known step n)
    passed_answers (Fixed bits) n = at_once known (places.further bits n)
    passed_answers (Align bits) n = at_once known (places.aligned bits n)
    passed_answers (Marked mark) n =
        chained known (places.marked cells mark) (λ is_there (go : ℕ → Asks Held). go (if is_there then places.further mark.bits n else n)) _ _
        (stands_answers mark) (λ is_there. at_once known (if is_there then places.further mark.bits n else n))
    passed_answers (Length cell) n =
        chained known (values.asked_number cell) (λ bits (go : ℕ → Asks Held). go (places.further bits n)) _ _
        (number_answers cell) (λ bits. at_once known (places.further bits n))
    passed_answers (Separator cell) n =
        chained known (values.asked_number cell) (λ told (go : ℕ → Asks Held). go (places.further (told / 2) n)) _ _
        (number_answers cell) (λ told. at_once known (places.further (told / 2) n))

    pub all_passed_answers : (steps : List Step) (n : ℕ) → Answers (places.passed_all cells steps n) known (asking.passed_all cells known steps n)
    unfolding passed_all
    all_passed_answers [] n = at_once known n
    all_passed_answers (step ∷ steps) n =
        chained known (places.passed cells step n) (places.passed_all cells steps) _ _ (passed_answers step n) (all_passed_answers steps)

    led_answers : (complex : Complex) (n : ℕ) → Answers (places.led cells complex n) known (asking.led cells known complex n)
    led_answers complex n =
        chained known (values.asked_number complex.start) (λ start. places.passed_all cells complex.lead (places.further start n)) _ _
        (number_answers complex.start) (λ start. all_passed_answers complex.lead (places.further start n))

  module _ (book : Book) where
    begin_by_answers : (most : ℕ) (around : Option Complex) → Answers (places.begin_by book most around) known (asking.begin_by book known most around)
    unfolding begin_by
    begin_by_answers zero around = at_once known 0
    begin_by_answers (suc most) None = at_once known 0
    begin_by_answers (suc most) (Some complex) =
        chained known (places.begin_by book most (places.complex_at book complex.around)) (places.led book.cells complex) _ _
        (begin_by_answers most (places.complex_at book complex.around)) (led_answers book.cells complex)

    pub begin_answers : (around : Option ℕ) → Answers (places.asked_begin book around) known (asking.begin book known around)
    begin_answers around = begin_by_answers (length book.complexes) (places.complex_at book around)

    start_answers : (after : Option ℕ) → Answers (places.asked_start after) known (asking.start known after)
    start_answers None = at_once known 0
    start_answers (Some cell) = number_answers cell

    aligned_answers : (steps : List Step) (n first : ℕ)
        → Answers (λ (go : ℕ → Asks Held). places.passed_all book.cells steps (places.further n first) (λ after. go (after - first))) known
        (asking.aligned_in book.cells known steps n first)
    aligned_answers steps n first =
        chained known (places.passed_all book.cells steps (places.further n first)) (λ after (go : ℕ → Asks Held). go (after - first)) _ _
        (all_passed_answers book.cells steps (places.further n first)) (λ after. at_once known (after - first))

    passed_by : (around : Option ℕ) (steps : List Step) (n : ℕ) (aligned : Bool)
        → Answers (λ (go : ℕ → Asks Held). if aligned
        then places.asked_begin book around (λ first. places.passed_all book.cells steps (places.further n first) (λ after. go (after - first)))
        else places.passed_all book.cells steps n go) known
        (if aligned then onward (asking.begin book known around) (λ first. asking.aligned_in book.cells known steps n first)
        else asking.passed_all book.cells known steps n)
    passed_by around steps n true =
        chained known (places.asked_begin book around)
        (λ first (go : ℕ → Asks Held). places.passed_all book.cells steps (places.further n first) (λ after. go (after - first))) _ _
        (begin_answers around) (aligned_answers steps n)
    passed_by around steps n false = all_passed_answers book.cells steps n

    passed_in_answers : (around : Option ℕ) (steps : List Step) (n : ℕ)
        → Answers (places.passed_in book around steps n) known (asking.passed_in book known around steps n)
    passed_in_answers around steps n = passed_by around steps n (list_any places.is_aligned steps)

    -- how many bits of its content lie before a place
    pub place_answers : (place : Place) → Answers (places.asked_place book place) known (asking.place book known place)
    place_answers place =
        chained known (places.asked_start place.after) (places.passed_in book place.around (places.steps_to book place)) _ _
        (start_answers place.after) (passed_in_answers place.around (places.steps_to book place))

    further_answers : (place : Place) (first : ℕ)
        → Answers (λ (go : ℕ → Asks Held). places.asked_place book place (λ n. go (places.further n first))) known
        (onward (asking.place book known place) (λ n. Ok (places.further n first)))
    further_answers place first =
        chained known (places.asked_place book place) (λ n (go : ℕ → Asks Held). go (places.further n first)) _ _
        (place_answers place) (λ n. at_once known (places.further n first))

    -- how many bits of the data do
    pub bit_answers : (place : Place) → Answers (places.asked_bit book place) known (asking.bit book known place)
    bit_answers place =
        chained known (places.asked_begin book place.around)
        (λ first (go : ℕ → Asks Held). places.asked_place book place (λ n. go (places.further n first))) _ _
        (begin_answers place.around) (further_answers place)

-- an answer that is the same
pub answers_same : {A : Type 0} (asked : (A → Asks Held) → Asks Held) (known : List (Option Held)) (answer other : Result A Stop)
    → other ≡ answer → Answers asked known answer → Answers asked known other
answers_same asked known answer other same is = subst (Answers asked known) (sym same) is
