-- What a step makes of the machine, and the step of a leaf.
use Rattle.std.specs.Prelude.{ℕ, Bool, true, false, List, Option, Some, None, if◌then◌else◌}
use Rattle.dfdl_bits.specs.Window.{Held, from_byte, seen_at}
use Rattle.dfdl_report.specs.declared.cause.ParseCause.TheVariants.{LengthOutOfRange}
use Rattle.dfdl_value.specs.declared.value.Value.{Value}
use Rattle.dfdl_terms.specs.declared.delimiters.Delimiters.{Delimiters}
use Rattle.dfdl_terms.specs.declared.row.Primitive.{Primitive}
use Rattle.dfdl_looks.specs.Asks.{Reached, Told, TooFar, Missing, Reading, ask}
use Rattle.dfdl_looks.specs.Tallies.{Tally, needs_from, nothing, plus}
use Rattle.dfdl_grammar.specs.declared.end.End.TheVariants.{Done, Failed}
use Rattle.dfdl_grammar.specs.declared.limits.Limits.{Limits}
use Rattle.dfdl_grammar.specs.States.{State, anchor}
use Rattle.dfdl_grammar.specs.Outcomes.{Outcome}
use Rattle.dfdl_grammar.specs.Delimiters.{lists_of, markup}
use Rattle.dfdl_grammar.specs.Leaves.{Find, content_begins, has_room, land, program_for}
use Rattle.dfdl_parse.specs.declared.frame.Frame.{Frame}
use Rattle.dfdl_parse.specs.declared.frame.Focus.{Focus}
use Rattle.dfdl_parse.specs.declared.frame.Focus.TheVariants.{Leave}

-- what is done next, what is left behind it with the innermost first, and the state
pub record Machine : Type 0 where
  pub focus : Focus
  pub stack : List Frame
  pub state : State

-- what a step costs, the machine behind it, what is held of the data then, and whether the step waits for a byte
pub record Move : Type 0 where
  pub tally : Tally
  pub machine : Machine
  pub held : Held
  pub waits : Bool

-- a step that looks at nothing
abbrev pub pass : Tally → Held → Focus → List Frame → State → Move
pass cost held focus k s = record { tally = cost; machine = record { focus = focus; stack = k; state = s }; held = held; waits = false }

-- whether a byte hasn't come
abbrev pub is_missing : Reached Find → Bool
is_missing (Told found) = false
is_missing TooFar = false
is_missing Missing = true

-- the machine behind the reading of a leaf whose content begins at a bit: as it was, where a byte hasn't come
abbrev pub landed : Limits → Focus → ℕ → Reached Find → List Frame → State → Machine
landed limits focus first Missing k s = record { focus = focus; stack = k; state = s }
landed limits focus first (Told found) k s =
    let o : Outcome = land limits first (Told found) s in record { focus = Leave o.end; stack = k; state = o.state }
landed limits focus first TooFar k s = let o : Outcome = land limits first TooFar s in record { focus = Leave o.end; stack = k; state = o.state }

-- the step of a leaf whose reading this is, behind a cost, with these bytes held behind it
abbrev pub read_move : Tally → Limits → Focus → ℕ → Held → Reading Find → List Frame → State → Move
read_move cost limits focus first sight reading k s = record {
  tally = plus cost (needs_from sight.base reading.tally);
  machine = landed limits focus first reading.reached k s;
  held = sight;
  waits = is_missing reading.reached;
}

-- a leaf, which has to be one of some values that are nil, if there are these, and which gives up the bytes that are no longer needed;
-- its box can't pass the end of the one around it, and the texts of the open lists of the tables are terminating markup
abbrev pub read_leaf : Tally → Limits → Focus → Held → List Delimiters → Option (List Value) → Option Primitive → List Frame → State → Move
read_leaf cost limits focus held delimiters nil None k s = pass cost held (Leave Done) k s
read_leaf cost limits focus held delimiters nil (Some primitive) k s =
    if has_room primitive s.at s.stop
    then (let sight : Held = from_byte held (anchor s) in
    read_move cost limits focus (content_begins primitive s.at) sight
    (ask (seen_at sight) (program_for nil (lists_of delimiters (markup s)) primitive s.at s.stop) nothing) k s)
    else pass cost held (Leave (Failed LengthOutOfRange s.at)) k s
