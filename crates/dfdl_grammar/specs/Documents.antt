-- The meaning of data as a document.
use Rattle.std.specs.Prelude.{ℕ, ◌-◌, ◌*◌, List, length}
use Rattle.dfdl_terms.specs.Rows.{Table}
use Rattle.dfdl_grammar.specs.declared.limits.Limits.{Limits}
use Rattle.dfdl_grammar.specs.States.{State, front}
use Rattle.dfdl_grammar.specs.Outcomes.{Outcome}
use Rattle.dfdl_grammar.specs.Rows.{meaning}

-- the state at the front of a document that begins at this byte
abbrev pub front_at : Table → ℕ → State
front_at table start = record (front table) { at = 8 * start }

-- What the data from a byte on are by a table of rows: the root element's row, which is the last, at that byte. Bits count from
-- the front of the data.
abbrev pub document_from : Limits → Table → ℕ → List ℕ → Outcome
document_from limits table start bytes =
    meaning (record { bytes = bytes; limits = limits }) table (length table.rows - 1) (front_at table start)

-- what the data are, from their front on
abbrev pub document : Limits → Table → List ℕ → Outcome
document limits table bytes = document_from limits table 0 bytes
