-- Of which bytes a text of open lists is longer, computed.
use Rattle.std.specs.Prelude.{ℕ, Bool, List, [], ◌∷◌}
use Rattle.std.specs.List.{list_any}
use Rattle.dfdl_forms.specs.declared.literals.Piece.{Piece}
use Rattle.dfdl_delims.specs.declared.candidate.Candidate.{Candidate}
use Rattle.dfdl_delims.specs.Candidates.{has_more, step}
use Rattle.dfdl_delims.specs.Lists.{Opened}
use Rattle.dfdl_delims.specs.Registers.{Flat, no_lists, with_lists}

-- the candidates behind some bytes
unfoldable pub behind : List Piece → List ℕ → List Candidate → List Candidate
behind pieces [] candidates = candidates
behind pieces (byte ∷ bytes) candidates = behind pieces bytes (step pieces byte candidates)

-- some text of the lists in a register is longer than the bytes
abbrev pub goes_on_in : Flat → List ℕ → Bool
goes_on_in flat bytes = list_any (has_more flat.pieces) (behind flat.pieces bytes flat.starts)

-- some text of the lists begins with the bytes and is longer
abbrev pub goes_on : List Opened → List ℕ → Bool
goes_on lists bytes = goes_on_in (with_lists no_lists lists) bytes
