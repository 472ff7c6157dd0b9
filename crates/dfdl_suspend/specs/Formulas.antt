-- Equations in memory: sums, copies, numbers, faults, and unknowns that wait for an event.
use Rattle.std.specs.Prelude.{◌≡◌, ℕ, ◌+◌, ◌-◌, ◌^◌, ◌<◌, ◌≤◌, min, Bool, true, false, Option, Some, None, List, length, nat_lt, if◌then◌else◌}
use Rattle.std.specs.List.{slice_get}
use Rattle.std.proofs.Common.{ap, arith, inl, inr}
use Rattle.std.proofs.lemmas.Bool.{ltb-true, lt-ltb, cases_lt}
use Rattle.std.proofs.lemmas.Option.{slice_get_past}
use Rattle.dfdl_suspend.specs.declared.known.Held.{Held}
use Rattle.dfdl_suspend.specs.declared.known.Held.TheVariants.{Given, Number, Value}
use Rattle.dfdl_suspend.specs.declared.table.Formula.{Formula}
use Rattle.dfdl_suspend.specs.declared.table.Formula.TheVariants.{Event, Plain, Fault, Same, Sum}
use Rattle.dfdl_suspend.specs.Asks.{Asks, Is, Fails, Ask, waiting}
use Rattle.dfdl_suspend.specs.Outcomes.{IsOrder}

-- the number of a value; zero for one that is no number
abbrev pub number_of : Held → ℕ
number_of Given = 0
number_of (Number number) = number
number_of (Value value) = 0

-- the equation of an unknown by its formula
abbrev pub equation_of : ℕ → Formula → Asks Held
equation_of cell Event = waiting cell
equation_of cell (Plain number) = Is (Number number)
equation_of cell (Fault cause) = Fails cause
equation_of cell (Same other) = Ask other (λ x. Is (Number (number_of x)))
equation_of cell (Sum first second) = Ask first (λ x. Ask second (λ y. Is (Number (min (number_of x + number_of y) (2 ^ 64 - 1)))))

-- the equation of an unknown that may not be there yet
abbrev pub equation_or : ℕ → Option Formula → Asks Held
equation_or cell None = waiting cell
equation_or cell (Some formula) = equation_of cell formula

-- the equations of a table's rows
abbrev pub equation_in : List Formula → ℕ → Asks Held
equation_in rows cell = equation_or cell (slice_get rows cell)

-- the unknowns that a formula names are there
abbrev pub NamesWithin : ℕ → Formula → Type 0
NamesWithin count Event = Unit {0}
NamesWithin count (Plain number) = Unit {0}
NamesWithin count (Fault cause) = Unit {0}
NamesWithin count (Same other) = other < count
NamesWithin count (Sum first second) = (first < count) × (second < count)

-- each row of a table names rows of the table
abbrev pub AreWithin : List Formula → Type 0
AreWithin rows = (cell : ℕ) (formula : Formula) → slice_get rows cell ≡ Some formula → NamesWithin (length rows) formula

-- a table: its rows, and whether later ones come first
pub record Tabled : Type 0 where
  pub rows : List Formula
  pub backwards : Bool

-- which of two rows comes first
abbrev pub comes_first : Bool → ℕ → ℕ → Bool
comes_first backwards a b = if backwards then nat_lt b a else nat_lt a b

-- the order of rows is strict and total
pub rows_order : (backwards : Bool) (count : ℕ) → IsOrder count (comes_first backwards)
rows_order true count = record {
  apart = λ a within. irreflexive a;
  through = λ a b c x y z e f. lt-ltb c a (let p = ltb-true b a e in let q = ltb-true c b f in omega arith);
  total = λ a b x y apart. elim (cases_lt a b) [
    | inl low ↦ inr (lt-ltb a b low)
    | inr high ↦ inl (lt-ltb b a (omega arith))
  ];
}
  where
    not_true : (b : Bool) → (b ≡ true → ⊥) → b ≡ false
    not_true true no_ = absurd (no_ (cc))
    not_true false no_ = cc

    irreflexive : (a : ℕ) → nat_lt a a ≡ false
    irreflexive a = not_true (nat_lt a a) (λ e. let p = ltb-true a a e in absurd (omega arith))
rows_order false count = record {
  apart = λ a within. irreflexive a;
  through = λ a b c x y z e f. lt-ltb a c (let p = ltb-true a b e in let q = ltb-true b c f in omega arith);
  total = λ a b x y apart. elim (cases_lt a b) [
    | inl low ↦ inl (lt-ltb a b low)
    | inr high ↦ inr (lt-ltb b a (omega arith))
  ];
}
  where
    not_true : (b : Bool) → (b ≡ true → ⊥) → b ≡ false
    not_true true no_ = absurd (no_ (cc))
    not_true false no_ = cc

    irreflexive : (a : ℕ) → nat_lt a a ≡ false
    irreflexive a = not_true (nat_lt a a) (λ e. let p = ltb-true a a e in absurd (omega arith))

-- past the last row an unknown waits for itself
pub rows_beyond : (rows : List Formula) (cell : ℕ) → length rows ≤ cell → equation_in rows cell ≡ waiting cell
rows_beyond rows cell past = ap (equation_or cell) (slice_get_past rows cell past)
