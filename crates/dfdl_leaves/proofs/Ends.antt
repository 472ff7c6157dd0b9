-- Where what a leaf finds ends.
use Rattle.std.proofs.Common.{ℕ, zero, suc, ◌*◌, ◌≤◌, Bool, true, false, List, Option, Some, None, Result, Ok, Err}
use Rattle.dfdl_value.specs.declared.value.Value.{Value}
use Rattle.dfdl_value.specs.declared.value.Value.TheVariants as value
use Rattle.dfdl_number_text.specs.NumberReading.{reading as number_reading}
use Rattle.dfdl_number_text.specs.declared.fault.NumberFault.{NumberFault}
use Rattle.dfdl_number_text.specs.declared.fault.NumberFault.TheVariants as number
use Rattle.dfdl_packed.specs.Zoned.{zoned_reading}
use Rattle.dfdl_packed.specs.declared.fault.PackedFault.{PackedFault}
use Rattle.dfdl_packed.specs.declared.fault.PackedFault.TheVariants as packed
use Rattle.dfdl_text_string.specs.Truths.{truth_of}
use Rattle.dfdl_terms.specs.declared.text.NilForm.{NilForm}
use Rattle.dfdl_terms.specs.declared.text.PatternForm.{PatternForm}
use Rattle.dfdl_terms.specs.declared.text.TextForm.{TextForm}
use Rattle.dfdl_texts.specs.Texts.{Text as TextRead, Reads as DoesRead, HasBad, IsCut, IsBoxed}
use Rattle.dfdl_terms.specs.declared.text.TextContent.{TextContent}
use Rattle.dfdl_terms.specs.declared.text.TextContent.TheVariants.{Plain, Octets as TextOctets, Number, Zoned, Truth, Nil}
use Rattle.dfdl_looks.specs.Asks.{Reached, Told, TooFar, Missing}
use Rattle.dfdl_chars.specs.Encodings.{encoded_text}
use Rattle.dfdl_forms.specs.declared.encoding.Encoding.TheVariants.{Iso88591}
use Rattle.dfdl_escapes.specs.Contents.{Content as DelimitedContent}
use Rattle.dfdl_escapes.specs.Steps.{Step}
use Rattle.dfdl_escapes.specs.Steps as steps
use Rattle.dfdl_escapes.specs.Trims.{trimmed_content}
use Rattle.dfdl_grammar.specs.Delimited.{plain}
use Rattle.dfdl_grammar.specs.Leaves.{Find, Fails, Finds, FindsOctets, FindsText, content_find, default_by_step, default_find, delimited_find, octets_find, unless_broken, find_of, nil_find, nil_octets_find, nil_value_find, is_bytes, is_text, is_value, kept_find, matched_from, number_find, pattern_find, packed_find, truth_find}
use Rattle.dfdl_grammar.specs.Framing.{aligned}
use Rattle.dfdl_grammar.specs.Spans.{kept_to}
use Rattle.dfdl_grammar.specs.declared.span.Span.{Span}
use Rattle.dfdl_grammar.specs.Nils.{are_nil, is_nil}
use Rattle.dfdl_grammar.specs.Patterns.{matched_width}
use Rattle.std.specs.List.{list_any}
use Rattle.dfdl_leaves.specs.declared.leaf.Found.{Found}
use Rattle.dfdl_leaves.specs.declared.leaf.Found.TheVariants.{Reads, Octets as HasOctets, Utf8, Text as HasText, Fails as HasFailed, Past, NotYet}
use Rattle.dfdl_leaves.specs.declared.leaf.Scratch.{Scratch}
use Rattle.dfdl_leaves.specs.Readings.{IsWithin, found_shown}

-- what is found, if anything, ends at a bit that is one of these
abbrev pub AtEnd : (ℕ → Type 0) → Reached Find → Type 0
AtEnd P (Told (Fails cause)) = Unit {0}
AtEnd P (Told (Finds content span)) = P span.end
AtEnd P (Told (FindsOctets bytes span)) = P span.end
AtEnd P (Told (FindsText bytes span)) = P span.end
AtEnd P TooFar = Unit {0}
AtEnd P Missing = Unit {0}

pub number-at : (P : ℕ → Type 0) (span : Span) (number : Option Value) → P span.end → AtEnd P (Told (find_of span number))
number-at P span (Some (value.Int z)) there = there
number-at P span (Some (value.Uns n)) there = there
number-at P span (Some (value.Dec d)) there = there
number-at P span (Some (value.Text t)) there = tt
number-at P span (Some (value.Truth t)) there = tt
number-at P span (Some (value.Bytes b)) there = tt
number-at P span None there = tt

pub packed-at : (P : ℕ → Type 0) (span : Span) (number : Result Value PackedFault) → P span.end → AtEnd P (Told (packed_find span number))
packed-at P span (Ok number) there = number-at P span (Some number) there
packed-at P span (Err packed.BadNibble) there = tt
packed-at P span (Err packed.PastType) there = tt

written-at : (P : ℕ → Type 0) (span : Span) (number : Result Value NumberFault) → P span.end → AtEnd P (Told (number_find span number))
written-at P span (Ok read) there = number-at P span (Some read) there
written-at P span (Err number.NotANumber) there = tt
written-at P span (Err number.PastType) there = tt

pub truth-at : (P : ℕ → Type 0) (span : Span) (truth : Option Bool) → P span.end → AtEnd P (Told (truth_find span truth))
truth-at P span (Some truth) there = there
truth-at P span None there = tt

nil-at : (P : ℕ → Type 0) (span : Span) (is : Bool) → P span.end → AtEnd P (Told (nil_find span is))
nil-at P span true there = there
nil-at P span false there = tt

pub nil_octets-at : (P : ℕ → Type 0) (form : NilForm) (find : Find) → AtEnd P (Told find) → AtEnd P (Told (nil_octets_find form find))
nil_octets-at P form (Fails cause) there = tt
nil_octets-at P form (Finds content span) there = tt
nil_octets-at P form (FindsOctets bytes span) there = nil-at P span (are_nil form bytes) there
nil_octets-at P form (FindsText bytes span) there = tt

pub nil_value-at : (P : ℕ → Type 0) (values : List Value) (find : Find) → AtEnd P (Told find) → AtEnd P (Told (nil_value_find values find))
nil_value-at P values (Fails cause) there = tt
nil_value-at P values (Finds content span) there = nil-at P span (list_any (is_value content) values) there
nil_value-at P values (FindsOctets bytes span) there = nil-at P span (list_any (is_bytes bytes) values) there
nil_value-at P values (FindsText bytes span) there = nil-at P span (list_any (is_text bytes) values) there

-- the number of bytes that a pattern matches stands at its bit or at the next whole byte
matched-at : (P : ℕ → Type 0) (bit width : ℕ) → P bit → P (aligned 8 bit) → P (matched_from bit width)
matched-at P bit zero here next = here
matched-at P bit (suc width) here next = next

pub pattern-at : (P : ℕ → Type 0) (form : PatternForm) (bit : ℕ) (text : TextRead) → P bit → P (aligned 8 bit)
    → AtEnd P (Told (pattern_find form bit text))
pattern-at P form bit (DoesRead characters end) here next = matched-at P bit (matched_width form characters) here next
pattern-at P form bit HasBad here next = tt
pattern-at P form bit IsCut here next = tt
pattern-at P form bit IsBoxed here next = tt

pub default-at : (P : ℕ → Type 0) (end : ℕ) (v : Value) → P end → AtEnd P (Told (default_find end v))
default-at P end (value.Int z) there = there
default-at P end (value.Uns n) there = there
default-at P end (value.Dec d) there = there
default-at P end (value.Text t) there = there
default-at P end (value.Truth t) there = there
default-at P end (value.Bytes b) there = there

octets-at : (P : ℕ → Type 0) (span : Span) (bytes : Option (List ℕ)) → P span.end → AtEnd P (Told (octets_find span bytes))
octets-at P span (Some bytes) there = there
octets-at P span None there = tt

-- what characters are read as ends where their box does
pub content-at : (P : ℕ → Type 0) (content : TextContent) (characters : List ℕ) (span : Span) → P span.end → AtEnd P (Told (content_find content characters span))
content-at P Plain characters span there = there
content-at P TextOctets characters span there = octets-at P span (encoded_text Iso88591 characters) there
content-at P (Number form kind) characters span there = written-at P span (number_reading form kind characters) there
content-at P (Zoned form) characters span there = packed-at P span (zoned_reading form characters) there
content-at P (Truth form) characters span there = truth-at P span (truth_of form characters) there
content-at P (Nil form) characters span there = nil-at P span (is_nil form characters) there

pub kept-at : (P : ℕ → Type 0) (form : TextForm) (end : ℕ) (characters : List ℕ) → P end → AtEnd P (Told (kept_find form end characters))
kept-at P form end characters there = content-at P form.content characters (kept_to end form.encoding characters) there

unbroken-at : (P : ℕ → Type 0) (step : Step) (find : Find) → AtEnd P (Told find) → AtEnd P (Told (unless_broken step find))
unbroken-at P (steps.Takes c escaped next) find there = there
unbroken-at P (steps.Passes next) find there = there
unbroken-at P (steps.Closes which) find there = there
unbroken-at P steps.RunsOut find there = there
unbroken-at P (steps.Fails cause) find there = tt

-- a content that markup ends is found where it ends
pub delimited-at : (P : ℕ → Type 0) (form : TextForm) (content : DelimitedContent) → P (8 * content.last.byte) → AtEnd P (Told (delimited_find form content))
delimited-at P form content there =
    let characters : List ℕ = plain (trimmed_content form.pad content.characters) in
    unbroken-at P content.ends (kept_find form (8 * content.last.byte) characters) (kept-at P form (8 * content.last.byte) characters there)

-- a value that stands for no content is found at its bit
pub absent-at : (P : ℕ → Type 0) (v : Value) (bit : ℕ) (step : Step) → P bit → AtEnd P (Told (default_by_step v bit step))
absent-at P v bit (steps.Takes c escaped next) there = tt
absent-at P v bit (steps.Passes next) there = tt
absent-at P v bit (steps.Closes which) there = default-at P bit v there
absent-at P v bit steps.RunsOut there = default-at P bit v there
absent-at P v bit (steps.Fails cause) there = tt

-- what is found by the code lies where it ends
pub ends-found : (last : ℕ) (scratch : Scratch) (found : Found) → AtEnd (λ e. e ≤ 8 * last) (found_shown scratch found) → IsWithin found last
ends-found last scratch (Reads content span) ends = ends
ends-found last scratch (HasOctets span) ends = ends
ends-found last scratch (Utf8 span) ends = ends
ends-found last scratch (HasText from to end None) ends = ends
ends-found last scratch (HasText from to end (Some length)) ends = ends
ends-found last scratch (HasFailed cause) ends = tt
ends-found last scratch Past ends = tt
ends-found last scratch NotYet ends = tt
