-- The numbers of binary booleans ('Simple Types', binaryBooleanTrueRep and binaryBooleanFalseRep).
use Rattle.std.specs.Prelude.{ℕ, List, Option, Some, None, option_map, if◌then◌else◌}
use Rattle.dfdl_scope.specs.Expressions.{literal}
use Rattle.dfdl_scope.specs.Scoping.{Told, Value, Absent, Twice}
use Rattle.dfdl_checks.specs.Values.{is_empty, number_within}

-- a number of no more than 32 bits
abbrev pub word_of : List ℕ → Option ℕ
word_of text = number_within 0 4294967295 text

-- the number of true, if there is one, by a text that may be empty
abbrev pub truth_of_text : List ℕ → Option (Option ℕ)
truth_of_text text = if is_empty text then Some None else option_map Some (word_of text)

-- the number of true, if there is one, that is told
abbrev pub truth_told : Told → Option (Option ℕ)
truth_told (Value written) = truth_of_text (literal written)
truth_told Absent = Some None
truth_told (Twice place) = None

-- the number of false that is told
abbrev pub falsity_told : Told → Option ℕ
falsity_told (Value written) = word_of (literal written)
falsity_told Absent = Some 0
falsity_told (Twice place) = None
