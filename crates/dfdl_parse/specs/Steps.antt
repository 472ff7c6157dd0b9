-- What one step of the parser is.
use Rattle.std.specs.Prelude.{◌≡◌, ℕ, Bool, true, false, max}
use Rattle.dfdl_bits.specs.Window.{Held}
use Rattle.dfdl_looks.specs.Tallies.{Tally}
use Rattle.dfdl_parse.specs.declared.parser.Parser.{Parser}
use Rattle.dfdl_parse.specs.Moves.{Move}
use Rattle.dfdl_parse.specs.Shown.{shown}

-- a cost without a look
abbrev pub IsFree : Tally → Type 0
IsFree cost = (cost.looks ≡ 0) × (cost.far ≡ 0)

-- The parser has made this step, in so many looks; a step that waits leaves what it has seen.
pub record Moved (move : Move) (waited : Bool) (old_far : ℕ) (new : Parser) (now_held : Held) (looks_made : ℕ) : Type 0 where
  pub machine : shown new ≡ move.machine
  pub held : now_held ≡ move.held
  pub waits : waited ≡ move.waits
  pub looks : looks_made ≡ move.tally.looks
  pub far : waited ≡ false → new.far ≡ max old_far move.tally.far
  pub stays : waited ≡ true → new.far ≡ old_far
