-- What stands before a content and tells how long that is: a number, or characters that a pattern matches, which belong to the
-- content. 'Lengths' (lengthKind prefixed and pattern).
use Rattle.std.specs.Prelude.{ℕ, ◌-◌, ◌*◌, ◌/◌, ◌%◌, ◌^◌, min, Bool, nat_eq, nat_le, ◌&&◌, ℤ, pos, negsuc, List, Option, Some, None, if◌then◌else◌}
use Rattle.dfdl_forms.specs.Binary.{most_bits}
use Rattle.dfdl_forms.specs.Packed.{most_nibbles}
use Rattle.dfdl_forms.specs.Types.{form_of}
use Rattle.dfdl_report.specs.declared.cause.LimitCause.TheVariants.{Window}
use Rattle.dfdl_report.specs.declared.cause.ParseCause.TheVariants.{LengthOutOfRange}
use Rattle.dfdl_terms.specs.declared.prefix.LengthUnit.{LengthUnit}
use Rattle.dfdl_terms.specs.declared.prefix.LengthUnit.TheVariants as unit
use Rattle.dfdl_terms.specs.declared.prefix.Prefix.{Prefix}
use Rattle.dfdl_terms.specs.declared.delimiters.Delimiters.{Delimiters}
use Rattle.dfdl_terms.specs.declared.row.Primitive.{Primitive}
use Rattle.dfdl_terms.specs.declared.row.Primitive.TheVariants.{Integer, Packed, Truth, Octets, Text, NilOctets, Default, NilValues, Pattern}
use Rattle.dfdl_terms.specs.declared.text.TextSize.{TextSize}
use Rattle.dfdl_terms.specs.declared.text.TextSize.TheVariants.{Bits, Characters, Delimited}
use Rattle.dfdl_value.specs.declared.value.Value.{Value}
use Rattle.dfdl_region.specs.declared.node.Content.{Content}
use Rattle.dfdl_region.specs.declared.node.Content.TheVariants.{Signed, Unsigned}
use Rattle.dfdl_looks.specs.Asks.{Reached, Told, TooFar, Missing, Reading, ask}
use Rattle.dfdl_looks.specs.Looks.{seen_in}
use Rattle.dfdl_looks.specs.Tallies.{needs_from, nothing}
use Rattle.dfdl_grammar.specs.declared.end.End.TheVariants.{Done, Failed, Stopped}
use Rattle.dfdl_grammar.specs.declared.end.Halt.TheVariants.{Limit}
use Rattle.dfdl_grammar.specs.declared.limits.Limits.{Limits}
use Rattle.dfdl_grammar.specs.States.{Input, State, anchor}
use Rattle.dfdl_grammar.specs.Outcomes.{Outcome, ended, spend}
use Rattle.dfdl_grammar.specs.Leaves.{Find, Fails, Finds, FindsOctets, FindsText, content_begins, failing_bit, has_room, leaf, program}
use Rattle.dfdl_grammar.specs.Delimiters.{lists_of, markup}
use Rattle.dfdl_grammar.specs.Boxes.{boxed}

-- So many units as the size of a content. No data have more characters than 64 bits count, so more are taken for so many.
abbrev pub size_of : LengthUnit → ℕ → TextSize
size_of unit.Bits n = Bits n
size_of unit.Bytes n = Bits (8 * n)
size_of unit.Characters n = Characters (min n (2 ^ 64 - 1))

-- so many units as the bits of a box around a complex content, which is not counted in characters
abbrev pub bits_of_units : LengthUnit → ℕ → ℕ
bits_of_units unit.Bits n = n
bits_of_units unit.Bytes n = 8 * n
bits_of_units unit.Characters n = 8 * n

-- whether a number or boolean that has from one to so many bits can have these
abbrev pub is_size : ℕ → ℕ → Bool
is_size most bits = nat_le 1 bits && nat_le bits most

-- the primitive with another size, if it can have that
abbrev pub resized : TextSize → Primitive → Option Primitive
resized (Bits bits) (Integer form) =
    if is_size (most_bits (form_of form.kind)) bits then Some (Integer (record form { bits = bits })) else None
resized (Bits bits) (Packed form) =
    if nat_eq (bits % 4) 0 && is_size (most_nibbles form.rep) (bits / 4) then Some (Packed (record form { nibbles = bits / 4 })) else None
resized (Bits bits) (Truth form) = if is_size 32 bits then Some (Truth (record form { bits = bits })) else None
resized (Bits bits) (Octets form) = Some (Octets (record form { bits = bits }))
resized (Bits bits) (NilOctets form) = Some (NilOctets (record form { octets = record form.octets { bits = bits } }))
resized size (Text form) = Some (Text (record form { size = size }))
resized size (Default form) = Some (Default (record form { size = size }))
resized (Bits bits) (NilValues form) = None
resized (Bits bits) (Pattern form) = None
resized (Characters count) primitive = None
resized (Delimited scan) primitive = None

-- the leaf of a primitive with another size; a size that it can't have fails
abbrev pub leaf_of : Input → List Delimiters → Option (List Value) → Option Primitive → State → Outcome
leaf_of input delimiters nil None s = ended (Failed LengthOutOfRange s.at) s
leaf_of input delimiters nil (Some primitive) s = leaf input delimiters nil (Some primitive) s

-- the leaf of a primitive that has this size in place of its own
abbrev pub sized_leaf : Input → List Delimiters → Option (List Value) → Option Primitive → TextSize → State → Outcome
sized_leaf input delimiters nil None size s = ended Done s
sized_leaf input delimiters nil (Some primitive) size s = leaf_of input delimiters nil (resized size primitive) s

-- how many units are left of a whole number of them, behind those that are the prefix's own; none where that would be less than 0
abbrev pub units_left : ℕ → ℤ → Option ℕ
units_left own (pos n) = if nat_le own n then Some (n - own) else None
units_left own (negsuc n) = None

-- the same of what a prefix was read as
abbrev pub units_told : ℕ → Content → Option ℕ
units_told own (Signed z) = units_left own z
units_told own (Unsigned n) = units_left own (pos n)
units_told own _ = None

-- what follows a prefix before this bit, by the number of units that it tells; without one it fails where the prefix begins
abbrev pub behind_prefix : ℕ → (ℕ → State → Outcome) → State → Option ℕ → Outcome
behind_prefix end next s None = ended (Failed LengthOutOfRange s.at) s
behind_prefix end next s (Some units) = next units (record s { at = end })

-- what a prefix's reading makes of the state, where its content begins at a bit
abbrev pub land_prefix : Limits → ℕ → ℕ → (ℕ → State → Outcome) → Reached Find → State → Outcome
land_prefix limits own first next (Told (Fails cause)) s = ended (Failed cause (failing_bit cause s.at first)) s
land_prefix limits own first next (Told (Finds content span)) s = behind_prefix span.end next s (units_told own content)
land_prefix limits own first next (Told (FindsOctets bytes span)) s = behind_prefix span.end next s None
land_prefix limits own first next (Told (FindsText bytes span)) s = behind_prefix span.end next s None
land_prefix limits own first next TooFar s = ended (Stopped (Limit Window) limits.window) s
land_prefix limits own first next Missing s = ended Done s

-- a length prefix that is read by a primitive, and what follows it, by the number of units that it tells
abbrev pub prefixed : Input → List Delimiters → Option Primitive → ℕ → (ℕ → State → Outcome) → State → Outcome
prefixed input delimiters None own next s = behind_prefix s.at next s None
prefixed input delimiters (Some primitive) own next s =
    if has_room primitive s.at s.stop
    then (let reading : Reading Find =
    ask (seen_in input.bytes input.limits.window (anchor s)) (program (lists_of delimiters (markup s)) primitive s.at s.stop) nothing in
    spend (needs_from (anchor s) reading.tally) (land_prefix input.limits own (content_begins primitive s.at) next reading.reached s))
    else ended (Failed LengthOutOfRange s.at) s

-- a prefix and the leaf whose size it tells
abbrev pub prefixed_leaf : Input → List Delimiters → Option Primitive → Prefix → Option (List Value) → Option Primitive → State → Outcome
prefixed_leaf input delimiters by prefix nil primitive s =
    prefixed input delimiters by prefix.own (λ units after. sized_leaf input delimiters nil primitive (size_of prefix.unit units) after) s

-- a prefix and the box whose size it tells, with what is in it
abbrev pub prefixed_box : Input → List Delimiters → Option Primitive → Prefix → (State → Outcome) → State → Outcome
prefixed_box input delimiters by prefix body s =
    prefixed input delimiters by prefix.own (λ units after. boxed input (bits_of_units prefix.unit units) body after) s
