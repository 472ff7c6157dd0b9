-- What the characters of a list of literals are read as.
use Rattle.std.specs.Prelude.{◌≡◌, ℕ, List, Option, Some, None, Bool, if◌then◌else◌}
use Rattle.dfdl_machines.specs.Machines.{run}
use Rattle.dfdl_forms.specs.declared.literals.Piece.{Piece}
use Rattle.dfdl_literals.specs.Lists.{closed}
use Rattle.dfdl_literals.specs.Steps.{State, accepts, start, step}
use Rattle.dfdl_literals.specs.declared.LiteralFault.{LiteralFault}
use Rattle.dfdl_literals.specs.declared.LiteralFault.TheVariants.{Malformed, MatchesNothing, OutOfMemory}

-- the literals read, if the list may end behind them
abbrev pub literals_whole : Option State → Option (List (List Piece))
literals_whole None = None
literals_whole (Some s) = if accepts s then Some (closed s.ended s.open_pieces) else None

-- the literals of the characters, if they write a list
unfoldable pub literals_reading : Bool → List ℕ → Option (List (List Piece))
literals_reading empty_allowed text = literals_whole (run (step empty_allowed) start text)

-- a fault at a place leaves nothing read
abbrev pub IsUnreadAt : Bool → List ℕ → LiteralFault → Type 0
IsUnreadAt empty_allowed text (Malformed at) = literals_reading empty_allowed text ≡ None
IsUnreadAt empty_allowed text MatchesNothing = Unit {0}
IsUnreadAt empty_allowed text OutOfMemory = Unit {0}
