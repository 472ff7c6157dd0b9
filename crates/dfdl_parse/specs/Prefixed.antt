-- The steps of a length prefix, and of what stands behind it.
use Rattle.std.specs.Prelude.{ℕ, ◌+◌, nat_le, Bool, true, List, ◌∷◌, Option, Some, None, slice_get, if◌then◌else◌}
use Rattle.dfdl_bits.specs.Window.{Held, from_byte, seen_at}
use Rattle.dfdl_report.specs.declared.cause.LimitCause.TheVariants.{Window}
use Rattle.dfdl_report.specs.declared.cause.ParseCause.TheVariants.{LengthOutOfRange}
use Rattle.dfdl_terms.specs.declared.prefix.LengthUnit.{LengthUnit}
use Rattle.dfdl_value.specs.declared.value.Value.{Value}
use Rattle.dfdl_terms.specs.declared.delimiters.Delimiters.{Delimiters}
use Rattle.dfdl_terms.specs.declared.row.Primitive.{Primitive}
use Rattle.dfdl_terms.specs.declared.text.TextSize.{TextSize}
use Rattle.dfdl_terms.specs.declared.text.TextSize.TheVariants.{Bits, Characters, Delimited}
use Rattle.dfdl_looks.specs.Asks.{Reached, Told, TooFar, Missing, Reading, ask}
use Rattle.dfdl_looks.specs.Tallies.{needs_from, nothing, one_row, plus}
use Rattle.dfdl_grammar.specs.declared.end.End.{End}
use Rattle.dfdl_grammar.specs.declared.end.End.TheVariants.{Done, Failed, Stopped}
use Rattle.dfdl_grammar.specs.declared.end.Halt.TheVariants.{Limit}
use Rattle.dfdl_grammar.specs.declared.limits.Limits.{Limits}
use Rattle.dfdl_grammar.specs.States.{State, anchor}
use Rattle.dfdl_grammar.specs.Leaves.{Find, Fails, Finds, FindsOctets, FindsText, content_begins, failing_bit, has_room, program}
use Rattle.dfdl_grammar.specs.Boxes.{boxed_at}
use Rattle.dfdl_grammar.specs.Delimiters.{lists_of, markup}
use Rattle.dfdl_grammar.specs.Prefixes.{bits_of_units, resized, size_of, units_told}
use Rattle.dfdl_parse.specs.declared.frame.Frame.{Frame}
use Rattle.dfdl_parse.specs.declared.frame.Frame.TheVariants.{Box}
use Rattle.dfdl_parse.specs.declared.frame.Focus.{Focus}
use Rattle.dfdl_parse.specs.declared.frame.Focus.TheVariants.{Enter, Leave, Sized}
use Rattle.dfdl_parse.specs.declared.frame.Behind.{Behind}
use Rattle.dfdl_parse.specs.declared.frame.Behind.TheVariants as behind
use Rattle.dfdl_parse.specs.Boxing.{outside}
use Rattle.dfdl_parse.specs.Moves.{Machine, Move, is_missing, pass, read_leaf}

-- the machine at an end
abbrev pub at_end : End → List Frame → State → Machine
at_end end k s = record { focus = Leave end; stack = k; state = s }

-- whether a content of this size that begins at a bit can end in a box that ends at another bit, as far as that is known before its characters are counted
abbrev pub can_fit : TextSize → ℕ → ℕ → Bool
can_fit (Bits bits) at stop = nat_le (at + bits) stop
can_fit (Characters count) at stop = true
can_fit (Delimited scan) at stop = true

-- a leaf of a size that was told begins; it can't pass the end of the box
abbrev pub sized_begins : Option Primitive → ℕ → TextSize → List Frame → State → Machine
sized_begins None prim size k s = at_end Done k s
sized_begins (Some primitive) prim size k s =
    if can_fit size s.at s.stop then record { focus = Sized prim size; stack = k; state = s } else at_end (Failed LengthOutOfRange s.at) k s

-- a box of so many bits begins; it can't pass the end of the one around it
abbrev pub box_begins : ℕ → ℕ → List Frame → State → Machine
box_begins bits body k s =
    if nat_le (s.at + bits) s.stop
    then record { focus = Enter body; stack = Box (outside s) s.at ∷ k; state = boxed_at (s.at + bits) s }
    else at_end (Failed LengthOutOfRange s.at) k s

-- what stands behind a prefix begins, by the number of units that the prefix tells
abbrev pub behind_units : List Primitive → LengthUnit → Behind → ℕ → List Frame → State → Machine
behind_units primitives unit (behind.Leaf prim) units k s = sized_begins (slice_get primitives prim) prim (size_of unit units) k s
behind_units primitives unit (behind.Box body) units k s = box_begins (bits_of_units unit units) body k s

-- behind a prefix before this bit: what follows it begins; without a number of units it fails where the prefix begins
abbrev pub units_begin : ℕ → (ℕ → List Frame → State → Machine) → Option ℕ → List Frame → State → Machine
units_begin end next None k s = at_end (Failed LengthOutOfRange s.at) k s
units_begin end next (Some units) k s = next units k (record s { at = end })

-- the machine behind the reading of a prefix whose content begins at a bit: as it was, where a byte hasn't come
abbrev pub landed_prefix : Limits → ℕ → ℕ → ℕ → (ℕ → List Frame → State → Machine) → Reached Find → List Frame → State → Machine
landed_prefix limits id own first next Missing k s = record { focus = Enter id; stack = k; state = s }
landed_prefix limits id own first next (Told (Fails cause)) k s = at_end (Failed cause (failing_bit cause s.at first)) k s
landed_prefix limits id own first next (Told (Finds content span)) k s = units_begin span.end next (units_told own content) k s
landed_prefix limits id own first next (Told (FindsOctets bytes span)) k s = at_end (Failed LengthOutOfRange s.at) k s
landed_prefix limits id own first next (Told (FindsText bytes span)) k s = at_end (Failed LengthOutOfRange s.at) k s
landed_prefix limits id own first next TooFar k s = at_end (Stopped (Limit Window) limits.window) k s

-- the step of a prefix whose reading this is, with these bytes held behind it
abbrev pub prefix_move : Limits → ℕ → ℕ → ℕ → (ℕ → List Frame → State → Machine) → Held → Reading Find → List Frame → State → Move
prefix_move limits id own first next sight reading k s = record {
  tally = plus one_row (needs_from sight.base reading.tally);
  machine = landed_prefix limits id own first next reading.reached k s;
  held = sight;
  waits = is_missing reading.reached;
}

-- a prefix, which gives up the bytes that are no longer needed; its box can't pass the end of the one around it
abbrev pub read_prefix : Limits → ℕ → Held → List Delimiters → ℕ → (ℕ → List Frame → State → Machine) → Option Primitive → List Frame → State → Move
read_prefix limits id held delimiters own next None k s = pass one_row held (Leave (Failed LengthOutOfRange s.at)) k s
read_prefix limits id held delimiters own next (Some primitive) k s =
    if has_room primitive s.at s.stop
    then (let sight : Held = from_byte held (anchor s) in
    prefix_move limits id own (content_begins primitive s.at) next sight
    (ask (seen_at sight) (program (lists_of delimiters (markup s)) primitive s.at s.stop) nothing) k s)
    else pass one_row held (Leave (Failed LengthOutOfRange s.at)) k s

-- the leaf of a primitive that can have the size that was told
abbrev pub read_resized : Limits → Focus → Held → List Delimiters → Option (List Value) → Option Primitive → List Frame → State → Move
read_resized limits focus held delimiters nil None k s = pass nothing held (Leave (Failed LengthOutOfRange s.at)) k s
read_resized limits focus held delimiters nil (Some primitive) k s = read_leaf nothing limits focus held delimiters nil (Some primitive) k s

-- the leaf of a primitive that has this size in place of its own
abbrev pub read_sized : Limits → Held → List Delimiters → ℕ → TextSize → Option (List Value) → Option Primitive → List Frame → State → Move
read_sized limits held delimiters prim size nil None k s = pass nothing held (Leave Done) k s
read_sized limits held delimiters prim size nil (Some primitive) k s = read_resized limits (Sized prim size) held delimiters nil (resized size primitive) k s
