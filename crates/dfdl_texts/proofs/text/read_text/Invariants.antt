use Rattle.std.proofs.Common.{◌≡◌, ◌≤◌, [], max}
use Rattle.dfdl_bits.specs.Window.{end_of}
use Rattle.dfdl_texts.specs.Readings.{left_of}
use Rattle.dfdl_texts.specs.Texts.{most_of}
use Rattle.dfdl_texts.proofs.text.read_text.Given as goal

-- the whole reading is that of what is left, behind what was read
abbrev pub invariant-units : goal.invariant-units
invariant-units g l =
    (left_of l.fn.window l.task (record { place = l.fn.byte; left = most_of l.fn.extent l.fn.stop l.fn.byte; far = 0 }) [] l.fn.steps
    ≡ left_of l.fn.window l.task l.spot l.into.items l.steps)
    × (l.fn.byte ≤ l.spot.place) × (l.spot.place ≤ max l.fn.byte (end_of l.fn.window)) × (l.fn.steps ≤ l.steps)

abbrev pub decreases-units : goal.decreases-units
decreases-units g l = l.spot.left
