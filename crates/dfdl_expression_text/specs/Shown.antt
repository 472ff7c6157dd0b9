-- Mirror for the prover: the state that the reader's fields stand for.
use Rattle.std.specs.Prelude.{◌≡◌, ℕ, Bool, true, false, Option, Some, None, Result, Ok, Err, IsErr}
use Rattle.std.specs.VecDeque.{deque_items}
use Rattle.dfdl_layers.specs.Bytes.{Inside}
use Rattle.dfdl_xml_chars.specs.Shown.{bytes_of}
use Rattle.dfdl_expression_text.specs.declared.standing.Standing.{Standing}
use Rattle.dfdl_expression_text.specs.declared.reader.Scanner.{Scanner}
use Rattle.dfdl_expression_text.specs.declared.reader.Reader.{Reader}
use Rattle.dfdl_expression_text.specs.Machine.{At, State}

abbrev pub at_seen : Standing → At
at_seen s = record { mark = s.mark; opened = deque_items s.opened }

abbrev pub state_seen : Scanner → State
state_seen s = record { piece = s.piece; at = at_seen s.at; count = s.count }

abbrev pub inside_seen : Reader → Inside State
inside_seen r = record { state = state_seen r.scanner; read = bytes_of r.begun }

-- true with what is next, and false where nothing is
abbrev pub Takes : Option At → Bool → At → Type 0
Takes next true s = next ≡ Some s
Takes next false s = next ≡ None

-- true with the state behind a step, and false where there is none
abbrev pub Steps : Result State ℕ → Bool → State → Type 0
Steps next true s = next ≡ Ok s
Steps next false s = IsErr next

-- the same over bytes
abbrev pub ByteSteps : Result (Inside State) ℕ → Bool → Inside State → Type 0
ByteSteps next true i = next ≡ Ok i
ByteSteps next false i = IsErr next
