-- What stands around the content of a component.
use Rattle.std.specs.Prelude.{None}
use Rattle.dfdl_terms.specs.declared.framing.Framing.{Framing}

-- neither a statement nor fill nor a delimiter
abbrev pub no_fill : Framing
no_fill = record {
  before = record { first = 0; count = 0 };
  openings = record { first = 0; count = 0 };
  settings = record { first = 0; count = 0 };
  leading_skip = 0;
  alignment = 1;
  initiator = None;
  terminator = None;
  trailing_skip = 0;
  behind = record { first = 0; count = 0 };
}
