use Rattle.std.proofs.Common.{◌≡◌, ℕ, suc, ◌-◌, ◌/◌, ◌≤◌, Bool, List, max}
use Rattle.dfdl_bits.specs.Window.{end_of, seen_at}
use Rattle.dfdl_delims.specs.Lists.{Decides, Opened}
use Rattle.dfdl_delims.specs.Opening.{Opens}
use Rattle.dfdl_escapes.specs.Contents.{ArePassed}
use Rattle.dfdl_escapes.specs.Reads.{left_of}
use Rattle.dfdl_escapes.proofs.reading.read_content.Given as goal

-- the whole reading is that of what is left, behind what was read
abbrev pub invariant-steps : goal.invariant-steps
invariant-steps g l = record {
  whole : (opened : List Opened) (test : List ℕ → Bool) → Opens l.lists opened → Decides opened test
      → left_of (seen_at l.window) test opened l.fn.scan.form (suc (l.fn.scan.form.stop / 8 - l.fn.scan.at.byte)) l.fn.into.items l.fn.scan.at l.fn.steps 0
      ≡ left_of (seen_at l.window) test opened l.fn.scan.form l.left l.into.items l.scan.at l.steps l.far;
  passed : (opened : List Opened) (test : List ℕ → Bool) → Opens l.lists opened → Decides opened test
      → ArePassed (seen_at l.window) test opened l.fn.scan.form l.fn.scan.at l.fn.into.items l.scan.at l.into.items;
  form : l.scan.form ≡ l.fn.scan.form;
  behind : l.fn.scan.at.byte ≤ l.scan.at.byte;
  come : l.scan.at.byte ≤ max l.fn.scan.at.byte (end_of l.window);
  steps : l.fn.steps ≤ l.steps;
}

abbrev pub decreases-steps : goal.decreases-steps
decreases-steps g l = l.left
