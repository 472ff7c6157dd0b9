-- What the reader's fields are to the machine.
use Rattle.std.specs.Prelude.{Option, Some, None}
use Rattle.dfdl_number_pattern.specs.declared.reader.Reader.{Reader}
use Rattle.dfdl_number_pattern.specs.declared.reader.First.{First}
use Rattle.dfdl_number_pattern.specs.Machine.{State, Subpattern}

-- the first sub-pattern, if it has ended
abbrev pub first_seen : Option First → Option Subpattern
first_seen None = None
first_seen (Some f) = Some (record { prefix = f.prefix.items; suffix = f.suffix.items; digits = f.digits })

-- all that was read
abbrev pub state_seen : Reader → State
state_seen r = record { place = r.place; prefix = r.prefix.items; suffix = r.suffix.items; digits = r.digits; first = first_seen r.first }
