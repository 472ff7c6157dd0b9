-- Binary booleans. 'Simple Types' (binaryBooleanTrueRep, binaryBooleanFalseRep).
use Rattle.std.specs.Prelude.{◌≢◌, ℕ, ◌-◌, ◌^◌, Bool, true, false, ◌==◌, nat_lt, List, Option, Some, None, if◌then◌else◌}
use Rattle.dfdl_bits.specs.Bits.{number_of}
use Rattle.dfdl_forms.specs.declared.binary.BitTruthForm.{BitTruthForm}

-- the two numbers differ
abbrev pub DiffersInNumber : BitTruthForm → Type 0
DiffersInNumber form = form.truth ≢ Some form.falsity

-- the number of the field that begins at a bit
abbrev pub truth_field_of : BitTruthForm → List ℕ → ℕ → ℕ
truth_field_of form bytes bit = number_of bytes bit form.bits form.bytes_by form.bits_by

-- what a number is read as that isn't the false one: true where it is the true one, or there is none
abbrev pub true_reading : Option ℕ → ℕ → Option Bool
true_reading None number = Some true
true_reading (Some truth) number = if number == truth then Some true else None

-- what a field's number is read as
abbrev pub truth_reading : BitTruthForm → ℕ → Option Bool
truth_reading form number = if number == form.falsity then Some false else true_reading form.truth number

-- a number that bits bits can hold
abbrev pub held_in : ℕ → ℕ → Option ℕ
held_in bits number = if nat_lt number (2 ^ bits) then Some number else None

-- the number with all of its bits inverted, if bits bits can hold it
abbrev pub inverted_in : ℕ → ℕ → Option ℕ
inverted_in bits number = if nat_lt number (2 ^ bits) then Some (2 ^ bits - 1 - number) else None

-- True is written as the true number, and where there is none as the false number with all of its bits inverted.
abbrev pub true_number : Option ℕ → ℕ → ℕ → Option ℕ
true_number None bits falsity = inverted_in bits falsity
true_number (Some truth) bits falsity = held_in bits truth

-- the number that a boolean is written as
abbrev pub truth_writing : BitTruthForm → Bool → Option ℕ
truth_writing form false = held_in form.bits form.falsity
truth_writing form true = true_number form.truth form.bits form.falsity
