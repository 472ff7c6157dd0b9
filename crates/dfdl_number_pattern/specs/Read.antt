-- What a text is read as: the pattern that it spells, if it is one.
use Rattle.std.specs.Prelude.{ℕ, List, if◌then◌else◌, Option, Some, None}
use Rattle.std.specs.Option.{option_and_then}
use Rattle.dfdl_machines.specs.Machines.{run}
use Rattle.dfdl_forms.specs.declared.number_pattern.NumberPattern.{NumberPattern}
use Rattle.dfdl_number_pattern.specs.Machine.{State, start, step, accepts, value}

-- the pattern that was read, if one can end here
abbrev pub pattern_at : State → Option NumberPattern
pattern_at s = if accepts s then Some (value s) else None

-- the pattern of the bytes, or None where they are no pattern
unfoldable pub pattern_read : List ℕ → Option NumberPattern
pattern_read text = option_and_then pattern_at (run step start text)
