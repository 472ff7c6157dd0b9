-- What the content of a simple element is read as. 'Simple Types'.
use Rattle.std.specs.Prelude.{ℕ, zero, suc, ◌+◌, ◌-◌, ◌*◌, ◌/◌, ◌%◌, min, Bool, true, false, not, nat_eq, nat_le, ◌&&◌, List, [], ◌++◌, length, Option, Some, None, Result, Ok, Err, slice_get, if◌then◌else◌}
use Rattle.std.specs.List.{list_any}
use Rattle.std.specs.Ordering.{int_eq}
use Rattle.std.specs.Str.{bytes_eq}
use Rattle.dfdl_report.specs.declared.cause.LimitCause.TheVariants.{Window, Text as TextLimit}
use Rattle.dfdl_report.specs.declared.cause.ParseCause.{ParseCause}
use Rattle.dfdl_report.specs.declared.cause.ParseCause.TheVariants.{BadCharacter, BadNibble, DataEnds, LengthOutOfRange, NotANumber, NotFilled, PastType, RequiredEmpty, UnknownBoolean}
use Rattle.dfdl_value.specs.declared.value.Value.{Value}
use Rattle.dfdl_value.specs.declared.value.Value.TheVariants.{Int, Uns, Dec}
use Rattle.dfdl_value.specs.declared.value.Value.TheVariants as value
use Rattle.dfdl_int_binary.specs.Integers.{field_of, integer_reading}
use Rattle.dfdl_int_binary.specs.Truths.{truth_field_of, truth_reading}
use Rattle.dfdl_number_text.specs.NumberReading.{reading as number_reading}
use Rattle.dfdl_number_text.specs.declared.fault.NumberFault.{NumberFault}
use Rattle.dfdl_number_text.specs.declared.fault.NumberFault.TheVariants as number
use Rattle.dfdl_packed.specs.Packed.{nibbles_in, packed_reading}
use Rattle.dfdl_packed.specs.Zoned.{zoned_reading}
use Rattle.dfdl_packed.specs.declared.fault.PackedFault.{PackedFault}
use Rattle.dfdl_packed.specs.declared.fault.PackedFault.TheVariants as packed
use Rattle.dfdl_terms.specs.declared.delimiters.Delimiters.{Delimiters}
use Rattle.dfdl_terms.specs.declared.row.Primitive.{Primitive}
use Rattle.dfdl_terms.specs.declared.row.Primitive.TheVariants.{Integer, Packed, Truth, Octets, Text, NilOctets, Default, NilValues, Pattern}
use Rattle.dfdl_terms.specs.declared.text.DefaultForm.{DefaultForm}
use Rattle.dfdl_terms.specs.declared.text.NilForm.{NilForm}
use Rattle.dfdl_terms.specs.declared.text.NilOctets.{NilOctets as NilOctetsForm}
use Rattle.dfdl_terms.specs.declared.text.OctetForm.{OctetForm}
use Rattle.dfdl_terms.specs.declared.text.PatternForm.{PatternForm}
use Rattle.dfdl_terms.specs.declared.text.TextContent.{TextContent}
use Rattle.dfdl_terms.specs.declared.text.TextContent.TheVariants.{Plain, Octets as TextOctets, Number, Zoned, Truth as TextTruth, Nil}
use Rattle.dfdl_terms.specs.declared.text.TextForm.{TextForm}
use Rattle.dfdl_terms.specs.declared.text.TextSize.{TextSize}
use Rattle.dfdl_terms.specs.declared.text.TextSize.TheVariants.{Bits, Characters, Delimited}
use Rattle.dfdl_text_string.specs.Padding.{trimmed}
use Rattle.dfdl_text_string.specs.Truths.{truth_of}
use Rattle.dfdl_forms.specs.declared.encoding.Encoding.TheVariants.{Iso88591}
use Rattle.dfdl_chars.specs.Encodings.{encoded_text}
use Rattle.dfdl_delims.specs.Lists.{Opened}
use Rattle.dfdl_escapes.specs.Contents.{Content as DelimitedContent}
use Rattle.dfdl_escapes.specs.Steps.{Step}
use Rattle.dfdl_escapes.specs.Steps as steps
use Rattle.dfdl_escapes.specs.Trims.{trimmed_content}
use Rattle.dfdl_texts.specs.Texts.{Text as TextRead, Reads, HasBad, IsCut, IsBoxed, text_at}
use Rattle.dfdl_texts.specs.declared.extent.Extent.TheVariants as extent
use Rattle.dfdl_region.specs.Bytes.{utf8_of}
use Rattle.dfdl_region.specs.declared.node.Content.{Content}
use Rattle.dfdl_region.specs.declared.node.Content.TheVariants as content
use Rattle.dfdl_region.specs.declared.node.Content.TheVariants.{Signed, Unsigned, Decimal}
use Rattle.dfdl_region.specs.Nodes.{with_content}
use Rattle.dfdl_looks.specs.Asks.{Ask, Answer, Reached, Told, TooFar, Missing, Reading, and_then, ask, look_at}
use Rattle.dfdl_looks.specs.Looks.{seen_in}
use Rattle.dfdl_looks.specs.Tallies.{needs_from, nothing}
use Rattle.dfdl_grammar.specs.declared.end.End.TheVariants.{Done, Failed, Stopped}
use Rattle.dfdl_grammar.specs.declared.end.Halt.TheVariants.{Limit}
use Rattle.dfdl_grammar.specs.declared.instead.Instead.{Instead}
use Rattle.dfdl_grammar.specs.declared.instead.Instead.TheVariants.{Nothing, Nil as InsteadNil, Empty, Tried}
use Rattle.dfdl_grammar.specs.declared.limits.Limits.{Limits}
use Rattle.dfdl_grammar.specs.States.{Input, State, anchor}
use Rattle.dfdl_grammar.specs.Outcomes.{Outcome, ended, spend}
use Rattle.dfdl_grammar.specs.Framing.{aligned}
use Rattle.dfdl_grammar.specs.Spans.{filled, kept_to, vacant, with_span}
use Rattle.dfdl_grammar.specs.declared.span.Span.{Span}
use Rattle.dfdl_grammar.specs.Delimiters.{lists_of, markup}
use Rattle.dfdl_grammar.specs.Delimited.{first_step, plain, scanned}
use Rattle.dfdl_grammar.specs.Nils.{are_nil, is_nil}
use Rattle.dfdl_grammar.specs.Patterns.{matched_width, most_sought}
use Rattle.dfdl_grammar.specs.Octets.{octets_from}

-- What a leaf finds: why it fails; or its content, the bytes of a hexBinary or those of a string, as UTF-8, and the bit behind
-- its box, with the length of its value.
pub data Find : Type 0 where
  Fails : ParseCause → Find
  Finds : Content → Span → Find
  FindsOctets : List ℕ → Span → Find
  FindsText : List ℕ → Span → Find

-- how many bytes some bits of the data lie in, at least one of them in the first byte
abbrev pub bytes_spanned : ℕ → ℕ → ℕ
bytes_spanned bit bits = (bit % 8 + bits + 7) / 8

-- how many bits the box of a text has, as far as that is known before its characters are counted
abbrev pub bits_of_text : TextSize → ℕ
bits_of_text (Bits bits) = bits
bits_of_text (Characters count) = 0
bits_of_text (Delimited scan) = 0

-- the same of a primitive
abbrev pub bits_of : Primitive → ℕ
bits_of (Integer form) = form.bits
bits_of (Packed form) = 4 * form.nibbles
bits_of (Truth form) = form.bits
bits_of (Octets form) = form.bits
bits_of (Text form) = bits_of_text form.size
bits_of (NilOctets form) = form.octets.bits
bits_of (Default form) = bits_of_text form.size
bits_of (NilValues form) = 0
bits_of (Pattern form) = 0

-- the bit at which a text without bits begins whose box begins at this one: a string there, and else the next whole byte
abbrev pub empty_begins : TextContent → ℕ → ℕ
empty_begins Plain bit = bit
empty_begins _ bit = aligned 8 bit

-- the bit at which a text begins whose box begins at this one: the next whole byte, where the box has any bit
abbrev pub text_begins : TextContent → TextSize → ℕ → ℕ
text_begins content (Bits zero) bit = empty_begins content bit
text_begins content (Bits (suc bits)) bit = aligned 8 bit
text_begins content (Characters count) bit = aligned 8 bit
text_begins content (Delimited scan) bit = aligned 8 bit

-- the bit at which an empty representation begins whose box begins at this one
abbrev pub default_begins : TextSize → ℕ → ℕ
default_begins (Bits bits) bit = bit
default_begins (Characters count) bit = bit
default_begins (Delimited scan) bit = aligned 8 bit

-- the bit at which the content of a primitive begins whose box begins at this one
abbrev pub content_begins : Primitive → ℕ → ℕ
content_begins (Integer form) bit = bit
content_begins (Packed form) bit = bit
content_begins (Truth form) bit = bit
content_begins (Octets form) bit = bit
content_begins (Text form) bit = text_begins form.content form.size bit
content_begins (NilOctets form) bit = bit
content_begins (Default form) bit = default_begins form.size bit
content_begins (NilValues form) bit = bit
content_begins (Pattern form) bit = bit

-- the bit at which the box of a text ends whose box begins at a bit; where its characters are counted, or end at markup, it is that of the
-- box around
abbrev pub text_ends : TextSize → ℕ → ℕ → ℕ
text_ends (Bits bits) bit stop = bit + bits
text_ends (Characters count) bit stop = stop
text_ends (Delimited scan) bit stop = stop

-- the same of a primitive
abbrev pub content_ends : Primitive → ℕ → ℕ → ℕ
content_ends (Integer form) bit stop = bit + form.bits
content_ends (Packed form) bit stop = bit + 4 * form.nibbles
content_ends (Truth form) bit stop = bit + form.bits
content_ends (Octets form) bit stop = bit + form.bits
content_ends (Text form) bit stop = text_ends form.size bit stop
content_ends (NilOctets form) bit stop = bit + form.octets.bits
content_ends (Default form) bit stop = text_ends form.size bit stop
content_ends (NilValues form) bit stop = bit
content_ends (Pattern form) bit stop = stop

-- the box of a primitive that begins at a bit ends in the box around it, and its content begins in it
abbrev pub has_room : Primitive → ℕ → ℕ → Bool
has_room primitive bit stop =
    nat_le (content_ends primitive bit stop) stop && nat_le (content_begins primitive bit) (content_ends primitive bit stop)

-- What a number of this span is found as, by its value. Where it is no value of its type, it fails.
abbrev pub find_of : Span → Option Value → Find
find_of span (Some (Int z)) = Finds (Signed z) span
find_of span (Some (Uns n)) = Finds (Unsigned n) span
find_of span (Some (Dec d)) = Finds (Decimal d) span
find_of span _ = Fails PastType

-- what a packed or zoned number of this span is found as
abbrev pub packed_find : Span → Result Value PackedFault → Find
packed_find span (Ok value) = find_of span (Some value)
packed_find span (Err packed.BadNibble) = Fails BadNibble
packed_find span (Err packed.PastType) = Fails PastType

-- what a text number of this span is found as
abbrev pub number_find : Span → Result Value NumberFault → Find
number_find span (Ok value) = find_of span (Some value)
number_find span (Err number.NotANumber) = Fails NotANumber
number_find span (Err number.PastType) = Fails PastType

-- what a boolean of this span is found as; where it is neither true nor false, it fails
abbrev pub truth_find : Span → Option Bool → Find
truth_find span (Some truth) = Finds (content.Truth truth) span
truth_find span None = Fails UnknownBoolean

-- what the leaf of a primitive finds whose box begins at a bit, in the bytes that its bits lie in
abbrev pub find_in : Primitive → ℕ → List ℕ → Find
find_in (Integer form) bit bytes = find_of (filled bit form.bits) (integer_reading form (field_of form bytes (bit % 8)))
find_in (Packed form) bit bytes = packed_find (filled bit (4 * form.nibbles)) (packed_reading form (nibbles_in form bytes (bit % 8)))
find_in (Truth form) bit bytes = truth_find (filled bit form.bits) (truth_reading form (truth_field_of form bytes (bit % 8)))
find_in (Octets form) bit bytes = FindsOctets (octets_from form.bits_by bytes (bit % 8) (form.bits / 8)) (filled bit form.bits)
find_in (Text form) bit bytes = FindsText [] (vacant bit)
find_in (NilOctets form) bit bytes = FindsOctets [] (vacant bit)
find_in (Default form) bit bytes = FindsOctets [] (vacant bit)
find_in (NilValues form) bit bytes = FindsOctets [] (vacant bit)
find_in (Pattern form) bit bytes = FindsOctets [] (vacant bit)

-- The bits of a field are found by a look at each byte that they lie in, in the order of the data.
abbrev pub field : Primitive → ℕ → Ask Find
field primitive bit = look_at (bytes_spanned bit (bits_of primitive)) (bit / 8) (Fails DataEnds) (find_in primitive bit)

-- the bytes of a hexBinary: a box without bits has none, and one that is no whole number of bytes is refused before any look
abbrev pub octets : OctetForm → ℕ → Ask Find
octets form bit =
    if nat_eq form.bits 0 then Answer (FindsOctets [] (vacant bit))
    else if nat_eq (form.bits % 8) 0 then field (Octets form) bit
    else Answer (Fails NotFilled)

-- what bytes or characters of this span are found as that have to be nil; where they aren't, another representation follows
abbrev pub nil_find : Span → Bool → Find
nil_find span is = if is then Finds content.Nil span else Fails RequiredEmpty

-- what the bytes of a box are found as that have to be nil
abbrev pub nil_octets_find : NilForm → Find → Find
nil_octets_find form (Fails cause) = Fails cause
nil_octets_find form (Finds content span) = Fails RequiredEmpty
nil_octets_find form (FindsOctets bytes span) = nil_find span (are_nil form bytes)
nil_octets_find form (FindsText bytes span) = Fails RequiredEmpty

-- the bytes of a box that have to be nil
abbrev pub nil_octets : NilOctetsForm → ℕ → Ask Find
nil_octets form bit = and_then (octets form.octets bit) (λ find. Answer (nil_octets_find form.nil find))

-- what a value is found as in a box without bits
abbrev pub default_find : ℕ → Value → Find
default_find bit (value.Int z) = Finds (Signed z) (vacant bit)
default_find bit (value.Uns n) = Finds (Unsigned n) (vacant bit)
default_find bit (value.Dec d) = Finds (Decimal d) (vacant bit)
default_find bit (value.Text text) = FindsText text (vacant bit)
default_find bit (value.Truth truth) = Finds (content.Truth truth) (vacant bit)
default_find bit (value.Bytes bytes) = FindsOctets bytes (vacant bit)

-- both are true, or both are false
abbrev pub is_truth : Bool → Bool → Bool
is_truth true y = y
is_truth false y = not y

-- the value of a number or boolean is this one
abbrev pub is_value : Content → Value → Bool
is_value (Signed x) (value.Int y) = int_eq x y
is_value (Unsigned x) (value.Uns y) = nat_eq x y
is_value (Decimal x) (value.Dec y) = int_eq x.mantissa y.mantissa && nat_eq x.scale y.scale
is_value (content.Truth x) (value.Truth y) = is_truth x y
is_value content value = false

-- the value of a hexBinary is this one
abbrev pub is_bytes : List ℕ → Value → Bool
is_bytes xs (value.Bytes ys) = bytes_eq xs ys
is_bytes xs value = false

-- the value of a string is this one
abbrev pub is_text : List ℕ → Value → Bool
is_text xs (value.Text ys) = bytes_eq xs ys
is_text xs value = false

-- what is found that has to be one of some values, which are nil; where it isn't, another representation follows
abbrev pub nil_value_find : List Value → Find → Find
nil_value_find values (Fails cause) = Fails cause
nil_value_find values (Finds content span) = nil_find span (list_any (is_value content) values)
nil_value_find values (FindsOctets bytes span) = nil_find span (list_any (is_bytes bytes) values)
nil_value_find values (FindsText bytes span) = nil_find span (list_any (is_text bytes) values)

-- there is no bit in a box of this size
abbrev pub is_no_size : TextSize → Bool
is_no_size (Bits bits) = nat_eq bits 0
is_no_size (Characters count) = nat_eq count 0
is_no_size (Delimited scan) = false

-- what a content is found as by its first step, which stands for a value at a bit where it ends the content; where it doesn't, another
-- representation follows
abbrev pub default_by_step : Value → ℕ → Step → Find
default_by_step value bit (steps.Takes c escaped next) = Fails RequiredEmpty
default_by_step value bit (steps.Passes next) = Fails RequiredEmpty
default_by_step value bit (steps.Closes which) = default_find bit value
default_by_step value bit steps.RunsOut = default_find bit value
default_by_step value bit (steps.Fails cause) = Fails RequiredEmpty

-- the value that a content of this size stands for that has no bit; where it has any, another representation follows
abbrev pub default_of_size : Value → List Opened → TextSize → ℕ → ℕ → Ask Find
default_of_size value lists (Delimited scan) bit stop =
    and_then (first_step lists scan bit stop) (λ step. Answer (default_by_step value (aligned 8 bit) step))
default_of_size value lists size bit stop = Answer (if is_no_size size then default_find bit value else Fails RequiredEmpty)

-- the same of an empty representation
abbrev pub default_of : DefaultForm → List Opened → ℕ → ℕ → Ask Find
default_of form lists bit stop = default_of_size form.value lists form.size bit stop

-- the bit behind the box of a text that begins at a bit, where its characters end before this byte
abbrev pub text_behind : TextSize → ℕ → ℕ → ℕ
text_behind (Bits bits) bit end = bit + bits
text_behind (Characters count) bit end = 8 * end
text_behind (Delimited scan) bit end = 8 * end

-- what the bytes of a hexBinary of this span are found as, where its characters have them
abbrev pub octets_find : Span → Option (List ℕ) → Find
octets_find span (Some bytes) = FindsOctets bytes span
octets_find span None = Fails BadCharacter

-- what characters of this span are found as, by what they are read as
abbrev pub content_find : TextContent → List ℕ → Span → Find
content_find Plain characters span = FindsText (utf8_of characters) span
content_find TextOctets characters span = octets_find span (encoded_text Iso88591 characters)
content_find (Number form kind) characters span = number_find span (number_reading form kind characters)
content_find (Zoned form) characters span = packed_find span (zoned_reading form characters)
content_find (TextTruth form) characters span = truth_find span (truth_of form characters)
content_find (Nil form) characters span = nil_find span (is_nil form characters)

-- what the characters are found as that trimming keeps of a text whose box ends at a bit: they are the value's, as they stand in the data
abbrev pub kept_find : TextForm → ℕ → List ℕ → Find
kept_find form end characters = content_find form.content characters (kept_to end form.encoding characters)

-- what the characters of a text whose box begins at a bit are found as: they are read after trimming
abbrev pub text_find : TextForm → ℕ → TextRead → Find
text_find form bit (Reads characters end) = kept_find form (text_behind form.size bit end) (trimmed form.pad characters)
text_find form bit HasBad = Fails BadCharacter
text_find form bit IsCut = Fails DataEnds
text_find form bit IsBoxed = Fails LengthOutOfRange

-- a text whose box has so many bits from its first character on, which are no whole number of bytes or are read as characters
abbrev pub boxed_text : TextForm → ℕ → ℕ → ℕ → Ask Find
boxed_text form bit first end =
    if nat_eq ((end - first) % 8) 0
    then and_then (text_at form.encoding form.replaces extent.Box end (first / 8)) (λ text. Answer (text_find form bit text))
    else Answer (Fails NotFilled)

-- what is found where a content ends so, if it isn't broken
abbrev pub unless_broken : Step → Find → Find
unless_broken (steps.Takes c escaped next) find = find
unless_broken (steps.Passes next) find = find
unless_broken (steps.Closes which) find = find
unless_broken steps.RunsOut find = find
unless_broken (steps.Fails cause) find = Fails cause

-- what a content that markup ends is found as: it is read after trimming, which leaves escaped characters, up to the byte at which it ends
abbrev pub delimited_find : TextForm → DelimitedContent → Find
delimited_find form content =
    unless_broken content.ends (kept_find form (8 * content.last.byte) (plain (trimmed_content form.pad content.characters)))

-- a text of a size, in a box that begins at a bit, inside of one that ends at another bit, where texts of these lists are terminating markup
abbrev pub text_of_size : TextForm → TextSize → List Opened → ℕ → ℕ → Ask Find
text_of_size form (Bits bits) lists bit stop = boxed_text form bit (text_begins form.content (Bits bits) bit) (bit + bits)
text_of_size form (Delimited scan) lists bit stop = and_then (scanned lists scan bit stop) (λ content. Answer (delimited_find form content))
text_of_size form (Characters count) lists bit stop =
    and_then (text_at form.encoding form.replaces (extent.Characters count) stop (aligned 8 bit / 8)) (λ text. Answer (text_find form bit text))

-- the bit at which a content begins, at this bit or behind it, of which a pattern matches so many bytes: one with any begins at the next
-- whole byte
abbrev pub matched_from : ℕ → ℕ → ℕ
matched_from bit zero = bit
matched_from bit (suc width) = aligned 8 bit

-- what the characters are found as in which a pattern is sought from a bit on: the number of bytes that it matches, in a box without
-- bits where these begin
abbrev pub pattern_find : PatternForm → ℕ → TextRead → Find
pattern_find form bit (Reads characters end) =
    Finds (Unsigned (matched_width form characters)) (vacant (matched_from bit (matched_width form characters)))
pattern_find form bit HasBad = Fails BadCharacter
pattern_find form bit IsCut = Fails DataEnds
pattern_find form bit IsBoxed = Fails LengthOutOfRange

-- the text in which a pattern is sought from a bit on, up to the first bad unit, in a box that ends at another bit
abbrev pub text_sought : PatternForm → ℕ → ℕ → Ask TextRead
text_sought form first stop = text_at form.encoding false extent.Front (min stop (first + most_sought)) (first / 8)

-- a pattern at a bit, which is sought from the next whole byte on
abbrev pub sought : PatternForm → ℕ → ℕ → Ask Find
sought form bit stop = and_then (text_sought form (aligned 8 bit) stop) (λ text. Answer (pattern_find form bit text))

-- what the leaf of a primitive finds whose box begins at a bit, inside of a box that ends at another bit, where texts of these lists are
-- terminating markup
abbrev pub program : List Opened → Primitive → ℕ → ℕ → Ask Find
program lists (Integer form) bit stop = field (Integer form) bit
program lists (Packed form) bit stop = field (Packed form) bit
program lists (Truth form) bit stop = field (Truth form) bit
program lists (Octets form) bit stop = octets form bit
program lists (Text form) bit stop = text_of_size form form.size lists bit stop
program lists (NilOctets form) bit stop = nil_octets form bit
program lists (Default form) bit stop = default_of form lists bit stop
program lists (NilValues form) bit stop = Answer (Fails RequiredEmpty)
program lists (Pattern form) bit stop = sought form bit stop

-- what the leaf of a primitive finds, which has to be one of some values that are nil, if there are these
abbrev pub program_for : Option (List Value) → List Opened → Primitive → ℕ → ℕ → Ask Find
program_for None lists primitive bit stop = program lists primitive bit stop
program_for (Some values) lists primitive bit stop =
    and_then (program lists primitive bit stop) (λ find. Answer (nil_value_find values find))

-- the values of an element that are nil, where a primitive tells them
abbrev pub values_in : Option Primitive → Option (List Value)
values_in (Some (NilValues form)) = Some form.values
values_in _ = None

-- the number of the primitive by which a leaf is read: this one, unless it tells values
abbrev pub reading_prim : Option (List Value) → ℕ → ℕ → ℕ
reading_prim None instead prim = instead
reading_prim (Some values) instead prim = prim

-- the values that are nil, where an element has to have one of them, by what its content is read by in place of its own primitive
abbrev pub nil_values : List Primitive → Instead → Option (List Value)
nil_values primitives Nothing = None
nil_values primitives (InsteadNil prim) = values_in (slice_get primitives prim)
nil_values primitives (Empty prim) = None
nil_values primitives Tried = None

-- the number of the primitive by which a leaf is read whose own has this number
abbrev pub read_by : List Primitive → Instead → ℕ → ℕ
read_by primitives Nothing prim = prim
read_by primitives (InsteadNil instead) prim = reading_prim (values_in (slice_get primitives instead)) instead prim
read_by primitives (Empty instead) prim = instead
read_by primitives Tried prim = prim

-- the bit at which a leaf fails: that of its box where this is longer than it can be, and else that of its content
abbrev pub failing_bit : ParseCause → ℕ → ℕ → ℕ
failing_bit LengthOutOfRange box content = box
failing_bit _ box content = content

-- the open element gets a content of this span
abbrev pub taken_as : Content → Span → State → State
taken_as content span s =
    with_span (span.end - s.at) span.value (record s { at = span.end; nodes = with_content s.nodes s.inside content })

-- the open element gets bytes as its value, where all such values are not more bytes than there may be
abbrev pub hold : ℕ → (ℕ → ℕ → Content) → List ℕ → Span → State → Outcome
hold most content bytes span s =
    if nat_le (length s.text + length bytes) most
    then ended Done (record (taken_as (content (length s.text) (length bytes)) span s) { text = s.text ++ bytes })
    else ended (Stopped (Limit TextLimit) most) s

-- what a leaf's reading makes of the state, where its content begins at a bit
abbrev pub land : Limits → ℕ → Reached Find → State → Outcome
land limits first (Told (Fails cause)) s = ended (Failed cause (failing_bit cause s.at first)) s
land limits first (Told (Finds content span)) s = ended Done (taken_as content span s)
land limits first (Told (FindsOctets bytes span)) s = hold limits.text content.Octets bytes span s
land limits first (Told (FindsText bytes span)) s = hold limits.text content.Text bytes span s
land limits first TooFar s = ended (Stopped (Limit Window) limits.window) s
land limits first Missing s = ended Done s

-- the leaf of a primitive, which gives the innermost open element its content, one of the values that are nil, if there are these;
-- its box can't pass the end of the one around it
abbrev pub leaf : Input → List Delimiters → Option (List Value) → Option Primitive → State → Outcome
leaf input delimiters nil None s = ended Done s
leaf input delimiters nil (Some primitive) s =
    if has_room primitive s.at s.stop
    then (let reading : Reading Find =
    ask (seen_in input.bytes input.limits.window (anchor s)) (program_for nil (lists_of delimiters (markup s)) primitive s.at s.stop) nothing in
    spend (needs_from (anchor s) reading.tally) (land input.limits (content_begins primitive s.at) reading.reached s))
    else ended (Failed LengthOutOfRange s.at) s
