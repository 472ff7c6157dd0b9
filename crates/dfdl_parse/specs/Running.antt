-- What a run of the machine comes to, over all data with which the window agrees.
use Rattle.std.specs.Prelude.{◌≡◌, ◌<◌, ◌≤◌, ℕ, ◌+◌, ◌-◌, ◌*◌, false, length}
use Rattle.dfdl_bits.specs.Window.{Held, end_of, room_of}
use Rattle.dfdl_terms.specs.Rows.{Table}
use Rattle.dfdl_grammar.specs.States.{Input, State}
use Rattle.dfdl_grammar.specs.Outcomes.{Outcome}
use Rattle.dfdl_parse.specs.declared.frame.Focus.{Focus}
use Rattle.dfdl_parse.specs.declared.frame.Focus.TheVariants.{Enter, Pass, PassRest, Sized, Seek, LookIn, LookBehind, Count, Leave}
use Rattle.dfdl_parse.specs.declared.parser.Parser.{Parser}
use Rattle.dfdl_parse.specs.Shown.{KeepsTo, shown}
use Rattle.dfdl_parse.specs.Runs.{Runs}

-- the window holds no byte more, and none that it gave up was needed
pub record Slid (old new : Held) : Type 0 where
  pub size : new.size ≡ old.size
  pub ended : new.ended ≡ old.ended
  pub end : end_of new ≡ end_of old
  pub base : old.base ≤ new.base

-- No bit behind this byte comes next, and where an end was come to, no byte behind it was given up.
abbrev pub Reaches : ℕ → Held → Focus → State → Type 0
Reaches last held (Enter id) s = s.at ≤ 8 * last
Reaches last held (Pass to) s = s.at ≤ 8 * last
Reaches last held (PassRest bit outer) s = s.at ≤ 8 * last
Reaches last held (Sized prim size) s = s.at ≤ 8 * last
Reaches last held (Seek what) s = s.at ≤ 8 * last
Reaches last held (LookIn slot) s = s.at ≤ 8 * last
Reaches last held (LookBehind slot bit) s = s.at ≤ 8 * last
Reaches last held (Count slot question) s = s.at ≤ 8 * last
Reaches last held (Leave end) s = (held.base ≤ last) × (s.at ≤ 8 * last)

-- The machine has gone on in so many looks, and stands in the work on any data as before.
pub record Advanced (table : Table) (old new : Parser) (before after : Held) (looks_made : ℕ) : Type 0 where
  pub runs : (input : Input) (root : Outcome) (spent : ℕ) → KeepsTo old input.limits
      → Runs input table root (shown old) before spent old.far → Runs input table root (shown new) after (spent + looks_made) new.far
  pub slid : Slid before after

-- The machine has gone on, and waits for a byte: of its looks the last ones were in vain. The data that have come, taken as
-- whole, end in the row that waits. No byte is held before the first that is needed at the look that found none.
pub record Waited (table : Table) (old new : Parser) (before after : Held) (looks_made : ℕ) : Type 0 where
  pub vain : ℕ
  pub few : vain ≤ looks_made
  pub advanced : Advanced table old new before after (looks_made - vain)
  pub ended : before.ended ≡ false
  pub room : 0 < room_of after
  pub missed : (input : Input) (root : Outcome) (spent : ℕ) → KeepsTo old input.limits
      → Runs input table root (shown old) before spent old.far → length input.bytes ≡ end_of before
      → (end_of before < root.tally.far) × ((root.tally.tail ≡ vain) × (length after.bytes ≡ end_of after - root.tally.anchor))
