-- What the reading of a leaf comes to.
use Rattle.std.specs.Prelude.{◌≡◌, ◌≤◌, ℕ, zero, suc, ◌+◌, ◌-◌, ◌*◌, List, length, Option, Some, None, take, drop}
use Rattle.dfdl_bits.specs.declared.window.Seen.{Seen}
use Rattle.dfdl_bits.specs.declared.window.Seen.TheVariants.{Byte, End, Over, NotYet as NotSeen}
use Rattle.dfdl_report.specs.declared.cause.ParseCause.TheVariants.{DataEnds}
use Rattle.dfdl_looks.specs.Asks.{Reached, Told, TooFar, Missing, Reading}
use Rattle.dfdl_terms.specs.declared.row.Primitive.{Primitive}
use Rattle.dfdl_terms.specs.declared.row.Primitive.TheVariants as primitive
use Rattle.dfdl_region.specs.Bytes.{utf8_of}
use Rattle.dfdl_grammar.specs.Leaves.{Find, Fails, Finds, FindsOctets, FindsText}
use Rattle.dfdl_grammar.specs.Spans.{bits_in}
use Rattle.dfdl_grammar.specs.declared.span.Span.{Span}
use Rattle.dfdl_leaves.specs.declared.leaf.Found.{Found}
use Rattle.dfdl_leaves.specs.declared.leaf.Found.TheVariants.{Reads, Octets, Utf8, Text, Fails as HasFailed, Past, NotYet}
use Rattle.dfdl_leaves.specs.declared.leaf.Glance.{Glance}
use Rattle.dfdl_leaves.specs.declared.leaf.Scratch.{Scratch}

-- the span of a string that has so many bytes as UTF-8, whose box ends at a bit and whose value has so many bits, if that is told
abbrev pub text_span : ℕ → ℕ → Option ℕ → Span
text_span count end None = record { end = end; value = bits_in count }
text_span count end (Some value) = record { end = end; value = value }

-- a string that has these bytes as UTF-8
abbrev pub string_shown : List ℕ → ℕ → Option ℕ → Reached Find
string_shown bytes end value = Told (FindsText bytes (text_span (length bytes) end value))

-- what is found in a leaf, where this was read
abbrev pub found_shown : Scratch → Found → Reached Find
found_shown scratch (Reads content span) = Told (Finds content span)
found_shown scratch (Octets span) = Told (FindsOctets scratch.octets.items span)
found_shown scratch (Utf8 span) = Told (FindsText scratch.octets.items span)
found_shown scratch (Text from to end value) = string_shown (utf8_of (take (to - from) (drop from scratch.characters.items))) end value
found_shown scratch (HasFailed cause) = Told (Fails cause)
found_shown scratch Past = TooFar
found_shown scratch NotYet = Missing

-- how far a run of so many bytes from a byte on has seen: the byte behind it, where there is any
abbrev pub far_of_run : ℕ → ℕ → ℕ
far_of_run first zero = 0
far_of_run first (suc count) = first + suc count

-- what a look behind so many bytes of a leaf makes of it, where it sees no byte
abbrev pub CutShort : Seen → ℕ → ℕ → Glance → Type 0
CutShort (Byte byte) first count glance = ⊥
CutShort End first count glance = (glance.found ≡ HasFailed DataEnds) × (glance.far ≡ first + count + 1)
CutShort NotSeen first count glance = (glance.found ≡ NotYet) × (glance.far ≡ far_of_run first count)
CutShort Over first count glance = (glance.found ≡ Past) × (glance.far ≡ far_of_run first count)

-- a leaf that is read lies in the bytes before this one
abbrev pub IsWithin : Found → ℕ → Type 0
IsWithin (Reads content span) last = span.end ≤ 8 * last
IsWithin (Octets span) last = span.end ≤ 8 * last
IsWithin (Utf8 span) last = span.end ≤ 8 * last
IsWithin (Text from to end value) last = end ≤ 8 * last
IsWithin (HasFailed cause) last = Unit {0}
IsWithin Past last = Unit {0}
IsWithin NotYet last = Unit {0}

-- the characters of a string are some of those that were read
abbrev pub HasPiece : Found → Scratch → Type 0
HasPiece (Reads content span) scratch = Unit {0}
HasPiece (Octets span) scratch = Unit {0}
HasPiece (Utf8 span) scratch = Unit {0}
HasPiece (Text from to end value) scratch = (from ≤ to) × (to ≤ length scratch.characters.items)
HasPiece (HasFailed cause) scratch = Unit {0}
HasPiece Past scratch = Unit {0}
HasPiece NotYet scratch = Unit {0}

-- what is found is no string and no hexBinary, and ends at this bit
abbrev pub IsPlain : Found → ℕ → Type 0
IsPlain (Reads content span) at = span.end ≡ at
IsPlain (Octets span) at = ⊥
IsPlain (Utf8 span) at = ⊥
IsPlain (Text from to end value) at = ⊥
IsPlain (HasFailed cause) at = Unit {0}
IsPlain Past at = Unit {0}
IsPlain NotYet at = Unit {0}

-- nothing is read
abbrev pub HasNone : Found → Type 0
HasNone (Reads content span) = ⊥
HasNone (Octets span) = ⊥
HasNone (Utf8 span) = ⊥
HasNone (Text from to end value) = ⊥
HasNone (HasFailed cause) = Unit {0}
HasNone Past = Unit {0}
HasNone NotYet = Unit {0}

-- the primitive is a number or a boolean
abbrev pub IsNumber : Primitive → Type 0
IsNumber (primitive.Integer form) = Unit {0}
IsNumber (primitive.Packed form) = Unit {0}
IsNumber (primitive.Truth form) = Unit {0}
IsNumber (primitive.Octets form) = ⊥
IsNumber (primitive.Text form) = ⊥
IsNumber (primitive.NilOctets form) = ⊥
IsNumber (primitive.Default form) = ⊥
IsNumber (primitive.NilValues form) = ⊥
IsNumber (primitive.Pattern form) = ⊥

-- the answer is this reading of a leaf, in so many looks
pub record Answers (reading : Reading Find) (scratch : Scratch) (glance : Glance) (looks_made : ℕ) : Type 0 where
  pub reached : reading.reached ≡ found_shown scratch glance.found
  pub looks : reading.tally.looks ≡ looks_made
  pub far : reading.tally.far ≡ glance.far
