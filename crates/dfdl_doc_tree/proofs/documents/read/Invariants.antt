use Rattle.std.proofs.Common.{◌≡◌, ◌≤◌, ◌-◌, ℕ, List, length, take, Ok}
use Rattle.dfdl_layers.specs.Tellers.{run}
use Rattle.dfdl_markup.specs.Building.{read_start, read_step}
use Rattle.dfdl_doc_tree.specs.ReaderShown.{count_of, inside_seen}
use Rattle.dfdl_doc_tree.specs.declared.reader.Reader.{Reader}
use Rattle.dfdl_doc_tree.proofs.documents.read.Given as goal

-- what was read so far, and how many bytes that is
pub record HasRead (bytes : List ℕ) (at : ℕ) (reader : Reader) : Type 0 where
  pub within : at ≤ length bytes
  pub runs : run read_step read_start (take at bytes) ≡ Ok (inside_seen reader)
  pub counted : count_of reader ≡ at

abbrev pub invariant-loop-at : goal.invariant-loop-at
invariant-loop-at l = HasRead l.bytes l.at l.reader

abbrev pub decreases-loop-at : goal.decreases-loop-at
decreases-loop-at l = length l.bytes - l.at
