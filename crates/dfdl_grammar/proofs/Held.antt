-- The bytes of the values of a document's elements stay there, and those of its strings stay UTF-8, whatever the rows do.
use Rattle.std.proofs.Common.{◌≡◌, ◌⊎◌, inl, inr, ℕ, zero, suc, ◌+◌, ◌-◌, ◌*◌, ◌/◌, ◌%◌, ◌<◌, refl, List, [], ◌∷◌, ◌++◌, length, get_or, Bool, true, false, cond, leb, ltb, nat_eq, nat_le, nat_lt, Option, Some, None, Result, Ok, Err, All, ap, sym, subst, ◌∙◌, arith, IsUtf8, length-append, replicate}
use Rattle.std.proofs.lemmas.Bool.Decides.{nat_tests}
use Rattle.std.proofs.lemmas.List.Elements.{All-append}
use Rattle.std.proofs.lemmas.Str.{IsUtf8-from_is_utf8, IsUtf8-nil}
use Rattle.std.specs.Prelude.{slice_get}
use Rattle.dfdl_bits.specs.declared.window.Seen.{Seen}
use Rattle.dfdl_bits.specs.declared.window.Seen.TheVariants.{Byte, End as DataEnded, Over}
use Rattle.dfdl_int_binary.specs.Integers.{field_of, integer_reading}
use Rattle.dfdl_int_binary.specs.Truths.{truth_field_of, truth_reading}
use Rattle.dfdl_packed.specs.Packed.{nibbles_in, packed_reading}
use Rattle.dfdl_packed.specs.Zoned.{zoned_reading}
use Rattle.dfdl_packed.specs.declared.fault.PackedFault.{PackedFault}
use Rattle.dfdl_packed.specs.declared.fault.PackedFault.TheVariants.{BadNibble, PastType}
use Rattle.dfdl_number_text.specs.NumberReading.{reading as number_reading}
use Rattle.dfdl_number_text.specs.declared.fault.NumberFault.{NumberFault}
use Rattle.dfdl_number_text.specs.declared.fault.NumberFault.TheVariants as fault
use Rattle.dfdl_value.specs.declared.value.Value.{Value}
use Rattle.dfdl_value.specs.declared.value.Value.TheVariants.{Int, Uns, Dec, Text as TextValue, Truth as TruthValue, Bytes}
use Rattle.dfdl_report.specs.declared.cause.LimitCause.TheVariants.{Nodes, Text as TextLimit}
use Rattle.dfdl_report.specs.declared.cause.ParseCause.{ParseCause}
use Rattle.dfdl_report.specs.declared.cause.ParseCause.TheVariants.{DataEnds, LengthOutOfRange, NegativeCount, NotFilled, RequiredEmpty}
use Rattle.dfdl_expressions.specs.declared.node.Node.{Node as ExpressionNode}
use Rattle.dfdl_terms.specs.declared.keys.Key.{Key}
use Rattle.dfdl_terms.specs.declared.delimiters.Delimiters.{Delimiters}
use Rattle.dfdl_terms.specs.declared.representations.Representations.{Representations}
use Rattle.dfdl_terms.specs.declared.row.Primitive.{Primitive}
use Rattle.dfdl_terms.specs.declared.row.Primitive.TheVariants.{Integer, Packed, Truth, Octets, Text as Characters, NilOctets, Default, NilValues, Pattern}
use Rattle.dfdl_terms.specs.declared.row.Row.{Row}
use Rattle.dfdl_terms.specs.declared.row.Row.TheVariants.{Leaf, Elem, Group, Skip, Align, Initiator, Terminator, Separator, Scope, Boxed, PrefixedLeaf, PrefixedBox, MeasuredLeaf, MeasuredBox, Repeat, Counted, Optional, Choice as ChoiceRow, Dispatch, Statement, Concluded, Hidden, Spanned, Instance, Separated}
use Rattle.dfdl_terms.specs.declared.text.NilForm.{NilForm}
use Rattle.dfdl_terms.specs.declared.text.OctetForm.{OctetForm}
use Rattle.dfdl_terms.specs.declared.text.PatternForm.{PatternForm}
use Rattle.dfdl_terms.specs.declared.text.ScanForm.{ScanForm}
use Rattle.dfdl_terms.specs.declared.text.TextContent.{TextContent}
use Rattle.dfdl_terms.specs.declared.text.TextContent.TheVariants.{Plain, Octets as TextOctets, Number, Zoned, Truth as TextTruth, Nil}
use Rattle.dfdl_terms.specs.declared.text.TextForm.{TextForm}
use Rattle.dfdl_separators.specs.declared.policy.SeparatorSuppressionPolicy.{SeparatorSuppressionPolicy}
use Rattle.dfdl_terms.specs.declared.slots.Slot.{Slot}
use Rattle.dfdl_terms.specs.declared.statement.Statements.{Statements}
use Rattle.dfdl_terms.specs.declared.text.TextSize.{TextSize}
use Rattle.dfdl_terms.specs.declared.text.TextSize.TheVariants.{Bits, Characters as Counted, Delimited}
use Rattle.dfdl_terms.specs.Rows.{IsPrimitive, IsWritten, Table}
use Rattle.dfdl_paths.specs.declared.place.Start.{Start}
use Rattle.dfdl_paths.specs.declared.place.Start.TheVariants.{At, Inside}
use Rattle.dfdl_forms.specs.declared.encoding.Encoding.TheVariants.{Iso88591}
use Rattle.dfdl_chars.specs.Encodings.{encoded_text}
use Rattle.dfdl_delims.specs.Lists.{Opened}
use Rattle.dfdl_escapes.specs.Contents.{Content as DelimitedContent}
use Rattle.dfdl_escapes.specs.Steps.{Step}
use Rattle.dfdl_escapes.specs.Steps as steps
use Rattle.dfdl_escapes.specs.Trims.{trimmed_content}
use Rattle.dfdl_texts.specs.Texts.{Text as TextRead, Reads as DoesRead, HasBad, IsCut, IsBoxed, text_at}
use Rattle.dfdl_texts.specs.declared.extent.Extent.{Extent}
use Rattle.dfdl_texts.specs.declared.extent.Extent.TheVariants as extent
use Rattle.dfdl_text_string.specs.Padding.{trimmed}
use Rattle.dfdl_text_string.specs.Truths.{truth_of}
use Rattle.dfdl_texts.proofs.Whole.{text-scalars}
use Rattle.dfdl_region.specs.declared.node.Node.{Node}
use Rattle.dfdl_region.specs.declared.node.Content.{Content}
use Rattle.dfdl_region.specs.declared.node.Content.TheVariants.{Begun, Complex}
use Rattle.dfdl_region.specs.declared.node.Content.TheVariants as content
use Rattle.dfdl_region.specs.Bytes.{utf8_of}
use Rattle.dfdl_region.specs.Nodes.{with_content}
use Rattle.dfdl_region.specs.Texts.{HasText, HaveTexts}
use Rattle.dfdl_looks.specs.Asks.{Ask, Answer, Reached, Told, TooFar, Missing, Reading, and_then, ask, go_on}
use Rattle.dfdl_looks.specs.Looks.{seen_in}
use Rattle.dfdl_looks.specs.Tallies.{needs_from, Tally, nothing}
use Rattle.dfdl_looks.proofs.Sequels.{ask-then}
use Rattle.dfdl_grammar.specs.declared.end.End.{End}
use Rattle.dfdl_grammar.specs.declared.end.End.TheVariants.{Done, Failed, Stopped}
use Rattle.dfdl_grammar.specs.declared.end.Halt.TheVariants.{Limit}
use Rattle.dfdl_grammar.specs.declared.instead.Instead.{Instead}
use Rattle.dfdl_grammar.specs.declared.mark.Mark.{Mark}
use Rattle.dfdl_grammar.specs.declared.instead.Instead.TheVariants.{Nothing, Nil as InsteadNil, Empty}
use Rattle.dfdl_grammar.specs.States.{Input, State, anchor, anchor_at}
use Rattle.dfdl_grammar.specs.Documents.{front_at}
use Rattle.dfdl_grammar.specs.Outcomes.{Outcome, ended, follow, spend, then_do}
use Rattle.dfdl_grammar.specs.Leaves.{Find, Fails, Finds, FindsOctets, FindsText, bits_of, bytes_spanned, content_begins, content_find, default_by_step, default_find, default_of_size, delimited_find, field, find_in, find_of, has_room, is_no_size, land, leaf, nil_find, nil_octets_find, nil_value_find, nil_values, is_bytes, is_text, is_value, kept_find, number_find, pattern_find, octets, octets_find, packed_find, program, program_for, read_by, taken_as, text_begins, text_behind, text_find, text_of_size, text_sought, truth_find, unless_broken}
use Rattle.dfdl_grammar.specs.Delimited.{first_step, plain, scanned}
use Rattle.dfdl_grammar.specs.Framing.{aligned, fill_to, has_byte, passed}
use Rattle.dfdl_grammar.specs.Delimiters.{lists_of, markup, opens, scoped, unscoped}
use Rattle.dfdl_grammar.specs.Boxes.{boxed, boxed_at, bytes_up_to, pass_bytes, past_byte, rest_from, unboxed}
use Rattle.dfdl_grammar.specs.Spans.{filled, kept_to, span_ends, spanned, vacant, with_span}
use Rattle.dfdl_grammar.specs.declared.span.Span.{Span}
use Rattle.dfdl_grammar.specs.Choices.{choice}
use Rattle.dfdl_grammar.specs.Occurrences.{as_occurrence, occurrences, occurring, untried}
use Rattle.dfdl_grammar.specs.Slots.{Sequence, separated}
use Rattle.dfdl_grammar.specs.Elements.{attempted, begun, close, element, has_elements, left}
use Rattle.dfdl_grammar.specs.Nils.{are_nil, is_nil}
use Rattle.std.specs.List.{list_any}
use Rattle.dfdl_grammar.specs.Statements.{concluded, is_written, told_at}
use Rattle.dfdl_grammar.specs.Prefixes.{bits_of_units, leaf_of, prefixed, resized, size_of, sized_leaf}
use Rattle.dfdl_grammar.specs.Questions.{asked_count, asked_key, question_at}
use Rattle.dfdl_grammar.specs.Rows.{below, group, meaning, row, row_at}
use Rattle.dfdl_grammar.proofs.Found.{made, told_one}
use Rattle.dfdl_grammar.proofs.Going.{below-goes, tried-returns, tried-stays, once-goes}
use Rattle.dfdl_grammar.proofs.Grown.{Goes}
use Rattle.dfdl_grammar.proofs.Holding.{both_have, content-has, first_has, lengths-has, last-bytes, rest_has, text-more, trimmed-scalars, utf8}
use Rattle.dfdl_vars.specs.Kept.{entered}
use Rattle.dfdl_grammar.specs.Instances.{closed_behind, instanced, opening_of}
use Rattle.dfdl_grammar.proofs.Asked.{count-comes, key-comes}
use Rattle.dfdl_grammar.proofs.Opened.{opened-comes}
use Rattle.dfdl_grammar.proofs.Prefixed.{prefixed-comes}
use Rattle.dfdl_grammar.proofs.Carried.{Carries}
use Rattle.dfdl_grammar.proofs.Pointed.{choice-carried, occurrences-carried}
use Rattle.dfdl_grammar.proofs.Slotted.{separated-carried}
use Rattle.dfdl_grammar.proofs.Stated.{Tells, concluded-comes, statement-comes}
use Rattle.dfdl_grammar.proofs.Represented.{again_at, any_ok, represented-comes}
use Rattle.dfdl_grammar.proofs.Scanned.{AreScalars, Says, plain-scalars, scanned-scalars, trimmed-content-scalars}
use Rattle.dfdl_grammar.proofs.Sought.{initiator-comes, separator-comes, terminator-comes}

-- what a leaf finds has bytes that can be held as a string's, if it is one
abbrev IsHeld : Find → Type 0
IsHeld (Fails cause) = Unit {0}
IsHeld (Finds content span) = (bytes : List ℕ) → HasText bytes content
IsHeld (FindsOctets bytes span) = Unit {0}
IsHeld (FindsText bytes span) = IsUtf8 bytes

number-held : (span : Span) (v : Option Value) → IsHeld (find_of span v)
number-held span None = tt
number-held span (Some (Int z)) = λ bytes. tt
number-held span (Some (Uns n)) = λ bytes. tt
number-held span (Some (Dec d)) = λ bytes. tt
number-held span (Some (TextValue text)) = tt
number-held span (Some (TruthValue truth)) = tt
number-held span (Some (Bytes octets)) = tt

packed-held : (span : Span) (r : Result Value PackedFault) → IsHeld (packed_find span r)
packed-held span (Ok v) = number-held span (Some v)
packed-held span (Err BadNibble) = tt
packed-held span (Err PastType) = tt

truth-held : (span : Span) (r : Option Bool) → IsHeld (truth_find span r)
truth-held span (Some truth) = λ bytes. tt
truth-held span None = tt

text-number-held : (span : Span) (r : Result Value NumberFault) → IsHeld (number_find span r)
text-number-held span (Ok v) = number-held span (Some v)
text-number-held span (Err fault.NotANumber) = tt
text-number-held span (Err fault.PastType) = tt

nil-held : (span : Span) (nil : Bool) → IsHeld (nil_find span nil)
nil-held span true = λ bytes. tt
nil-held span false = tt

octets-told : (span : Span) (r : Option (List ℕ)) → IsHeld (octets_find span r)
octets-told span (Some bytes) = tt
octets-told span None = tt

content-held : (read : TextContent) (chars : List ℕ) (span : Span) → IsUtf8 (utf8_of chars) → IsHeld (content_find read chars span)
content-held Plain chars span kept = kept
content-held TextOctets chars span kept = octets-told span (encoded_text Iso88591 chars)
content-held (Number form kind) chars span kept = text-number-held span (number_reading form kind chars)
content-held (Zoned form) chars span kept = packed-held span (zoned_reading form chars)
content-held (TextTruth form) chars span kept = truth-held span (truth_of form chars)
content-held (Nil form) chars span kept = nil-held span (is_nil form chars)

kept-held : (form : TextForm) (end : ℕ) (chars : List ℕ) → IsUtf8 (utf8_of chars) → IsHeld (kept_find form end chars)
kept-held form end chars kept = content-held form.content chars (kept_to end form.encoding chars) kept

found-held : (primitive : Primitive) (bit : ℕ) (bytes : List ℕ) → IsHeld (find_in primitive bit bytes)
found-held (Integer form) bit bytes = number-held (filled bit form.bits) (integer_reading form (field_of form bytes (bit % 8)))
found-held (Packed form) bit bytes = packed-held (filled bit (4 * form.nibbles)) (packed_reading form (nibbles_in form bytes (bit % 8)))
found-held (Truth form) bit bytes = truth-held (filled bit form.bits) (truth_reading form (truth_field_of form bytes (bit % 8)))
found-held (Octets form) bit bytes = tt
found-held (Characters form) bit bytes = IsUtf8-nil
found-held (NilOctets form) bit bytes = tt
found-held (Default form) bit bytes = tt
found-held (NilValues form) bit bytes = tt
found-held (Pattern form) bit bytes = tt

-- a value that is written, in a box without bits
default-held : (bit : ℕ) (v : Value) → IsWritten v → IsHeld (default_find bit v)
default-held bit (Int z) written = λ bytes. tt
default-held bit (Uns n) written = λ bytes. tt
default-held bit (Dec d) written = λ bytes. tt
default-held bit (TextValue text) written = written
default-held bit (TruthValue truth) written = λ bytes. tt
default-held bit (Bytes octets) written = tt

-- a value that was calculated
written-is : (v : Value) → is_written v ≡ true → IsWritten v
written-is (Int z) written = tt
written-is (Uns n) written = tt
written-is (Dec d) written = tt
written-is (TextValue text) written = IsUtf8-from_is_utf8 text written
written-is (TruthValue truth) written = tt
written-is (Bytes octets) written = tt

-- a value of a content without bits that its first step ends
step-held : (v : Value) (bit : ℕ) (step : Step) → IsWritten v → IsHeld (default_by_step v bit step)
step-held v bit (steps.Takes c escaped next) written = tt
step-held v bit (steps.Passes next) written = tt
step-held v bit (steps.Closes which) written = default-held bit v written
step-held v bit steps.RunsOut written = default-held bit v written
step-held v bit (steps.Fails cause) written = tt

-- a content that markup ends
unbroken-held : (step : Step) (find : Find) → IsHeld find → IsHeld (unless_broken step find)
unbroken-held (steps.Takes c escaped next) find held = held
unbroken-held (steps.Passes next) find held = held
unbroken-held (steps.Closes which) find held = held
unbroken-held steps.RunsOut find held = held
unbroken-held (steps.Fails cause) find held = tt

delimited-held : (form : TextForm) (found : DelimitedContent) → AreScalars found.characters → IsHeld (delimited_find form found)
delimited-held form found scalars =
    let chars : List ℕ = plain (trimmed_content form.pad found.characters) in
    unbroken-held found.ends (kept_find form (8 * found.last.byte) chars)
    (kept-held form (8 * found.last.byte) chars
    (utf8 chars (plain-scalars (trimmed_content form.pad found.characters) (trimmed-content-scalars form.pad found.characters scalars))))

-- bytes that have to be nil
nil-octets-held : (form : NilForm) (find : Find) → IsHeld (nil_octets_find form find)
nil-octets-held form (Fails cause) = tt
nil-octets-held form (Finds content span) = tt
nil-octets-held form (FindsOctets bytes span) = nil-held span (are_nil form bytes)
nil-octets-held form (FindsText bytes span) = tt

-- a value that has to be one of some
nil-value-held : (values : List Value) (find : Find) → IsHeld (nil_value_find values find)
nil-value-held values (Fails cause) = tt
nil-value-held values (Finds content span) = nil-held span (list_any (is_value content) values)
nil-value-held values (FindsOctets bytes span) = nil-held span (list_any (is_bytes bytes) values)
nil-value-held values (FindsText bytes span) = nil-held span (list_any (is_text bytes) values)

-- the number of bytes that a pattern matches
pattern-held : (form : PatternForm) (first : ℕ) (text : TextRead) → IsHeld (pattern_find form first text)
pattern-held form first (DoesRead chars end) = λ bytes. tt
pattern-held form first HasBad = tt
pattern-held form first IsCut = tt
pattern-held form first IsBoxed = tt

-- the value that a primitive stands for is written
abbrev IsSound : Primitive → Type 0
IsSound (Integer form) = Unit {0}
IsSound (Packed form) = Unit {0}
IsSound (Truth form) = Unit {0}
IsSound (Octets form) = Unit {0}
IsSound (Characters form) = Unit {0}
IsSound (NilOctets form) = Unit {0}
IsSound (Default form) = IsWritten form.value
IsSound (NilValues form) = Unit {0}
IsSound (Pattern form) = Unit {0}

-- the same of one that there may be
abbrev IsSoundOr : Option Primitive → Type 0
IsSoundOr None = Unit {0}
IsSoundOr (Some primitive) = IsSound primitive

sound : (primitive : Primitive) → IsPrimitive primitive → IsSound primitive
sound (Integer form) is = tt
sound (Packed form) is = tt
sound (Truth form) is = tt
sound (Octets form) is = tt
sound (Characters form) is = tt
sound (NilOctets form) is = tt
sound (Default form) is = is.value
sound (NilValues form) is = tt
sound (Pattern form) is = tt

sound-at : (primitives : List Primitive) (prim : ℕ) → All IsPrimitive primitives → IsSoundOr (slice_get primitives prim)
sound-at [] prim all = tt
sound-at (primitive ∷ rest) zero all = sound primitive (first_has IsPrimitive primitive rest all)
sound-at (primitive ∷ rest) (suc prim) all = sound-at rest prim (rest_has IsPrimitive primitive rest all)

sound-if : (test : Bool) (primitive : Primitive) → IsSound primitive → IsSoundOr (cond test (Some primitive) None)
sound-if true primitive is = is
sound-if false primitive is = tt

-- another size changes nothing of that
resized-sound : (size : TextSize) (primitive : Primitive) → IsSound primitive → IsSoundOr (resized size primitive)
resized-sound (Bits n) (Integer form) is = sound-if _ (Integer (record form { bits = n })) tt
resized-sound (Bits n) (Packed form) is = sound-if _ (Packed (record form { nibbles = n / 4 })) tt
resized-sound (Bits n) (Truth form) is = sound-if _ (Truth (record form { bits = n })) tt
resized-sound (Bits n) (Octets form) is = tt
resized-sound (Bits n) (Characters form) is = tt
resized-sound (Bits n) (NilOctets form) is = tt
resized-sound (Bits n) (Default form) is = is
resized-sound (Bits n) (NilValues form) is = tt
resized-sound (Bits n) (Pattern form) is = tt
resized-sound (Counted n) (Integer form) is = tt
resized-sound (Counted n) (Packed form) is = tt
resized-sound (Counted n) (Truth form) is = tt
resized-sound (Counted n) (Octets form) is = tt
resized-sound (Counted n) (Characters form) is = tt
resized-sound (Counted n) (NilOctets form) is = tt
resized-sound (Counted n) (Default form) is = is
resized-sound (Counted n) (NilValues form) is = tt
resized-sound (Counted n) (Pattern form) is = tt
resized-sound (Delimited scan) (Integer form) is = tt
resized-sound (Delimited scan) (Packed form) is = tt
resized-sound (Delimited scan) (Truth form) is = tt
resized-sound (Delimited scan) (Octets form) is = tt
resized-sound (Delimited scan) (Characters form) is = tt
resized-sound (Delimited scan) (NilOctets form) is = tt
resized-sound (Delimited scan) (Default form) is = is
resized-sound (Delimited scan) (NilValues form) is = tt
resized-sound (Delimited scan) (Pattern form) is = tt

-- whether a find is that the data end
ends-or : (found : Find) → IsHeld found ⊎ (Fails DataEnds ≡ found → ⊥)
ends-or (Fails cause) = inl tt
ends-or (Finds content span) = inr (λ same. absurd (cc))
ends-or (FindsOctets bytes span) = inl tt
ends-or (FindsText bytes span) = inr (λ same. absurd (cc))

field-held : (look : ℕ → Seen) (primitive : Primitive) (bit : ℕ) (found : Find) → (ask look (field primitive bit) nothing).reached ≡ Told found → IsHeld found
field-held look primitive bit found is = elim (ends-or found) [
  | inl held ↦ held
  | inr apart ↦ (
      let here = made look found apart (bytes_spanned bit (bits_of primitive)) (bit / 8) (find_in primitive bit) nothing is in
      subst IsHeld here.is (found-held primitive bit here.bytes))
]

module _ (input : Input) (small : All (λ b. b < 256) input.bytes) where
  -- a byte of the data is a byte
  shown : (size low j b : ℕ) → seen_in input.bytes size low j ≡ Byte b → b < 256
  shown size low j b is = at _ _ refl refl is
    where
      at : (over inside : Bool) → leb size (j - low) ≡ over → ltb j (length input.bytes) ≡ inside
          → cond over Over (cond inside (Byte (get_or input.bytes j 0)) DataEnded) ≡ Byte b → b < 256
      at true inside over within same = absurd (cc)
      at false true over within same =
          let byte : get_or input.bytes j 0 ≡ b = cc in subst (λ (n : ℕ). n < 256) byte (small j 0 (grind (arith, nat_tests)))
      at false false over within same = absurd (cc)

  text-held : (form : TextForm) (bit : ℕ) (look : ℕ → Seen) (r : Reached TextRead) (t : Tally) (found : Find)
      → ((chars : List ℕ) (end : ℕ) → r ≡ Told (DoesRead chars end) → IsUtf8 (utf8_of (trimmed form.pad chars)))
      → (go_on look (λ (text : TextRead). Answer (text_find form bit text)) r t).reached ≡ Told found → IsHeld found
  text-held form bit look (Told (DoesRead chars end)) t found kept is =
      subst IsHeld (told_one (text_find form bit (DoesRead chars end)) found is)
      (kept-held form (text_behind form.size bit end) (trimmed form.pad chars) (kept chars end refl))
  text-held form bit look (Told HasBad) t found kept is = subst IsHeld (told_one (text_find form bit HasBad) found is) tt
  text-held form bit look (Told IsCut) t found kept is = subst IsHeld (told_one (text_find form bit IsCut) found is) tt
  text-held form bit look (Told IsBoxed) t found kept is = subst IsHeld (told_one (text_find form bit IsBoxed) found is) tt
  text-held form bit look TooFar t found kept is = absurd (cc)
  text-held form bit look Missing t found kept is = absurd (cc)

  then-held : (size low : ℕ) (form : TextForm) (bit : ℕ) (extent : Extent) (stop k : ℕ) (found : Find)
      → (ask (seen_in input.bytes size low)
      (and_then (text_at form.encoding form.replaces extent stop k) (λ (text : TextRead). Answer (text_find form bit text))) nothing).reached ≡ Told found
      → IsHeld found
  then-held size low form bit extent stop k found is =
      let look : ℕ → Seen = seen_in input.bytes size low in
      let a : Ask TextRead = text_at form.encoding form.replaces extent stop k in
      let whole = ask-then look (λ (text : TextRead). Answer (text_find form bit text)) a nothing in
      text-held form bit look (ask look a nothing).reached (ask look a nothing).tally found
      (λ chars end read. utf8 (trimmed form.pad chars) (trimmed-scalars form.pad chars
      (text-scalars form.encoding form.replaces extent stop look k nothing chars end (λ j b past at. shown size low j b at) read)))
      (sym (ap (λ (r : Reading Find). r.reached) whole) ∙ is)

  boxed-held : (size low : ℕ) (form : TextForm) (bit first end : ℕ) (found : Find) (whole : Bool)
      → (ask (seen_in input.bytes size low) (cond whole
      (and_then (text_at form.encoding form.replaces extent.Box end (first / 8)) (λ (text : TextRead). Answer (text_find form bit text)))
      (Answer (Fails NotFilled))) nothing).reached ≡ Told found → IsHeld found
  boxed-held size low form bit first end found true is = then-held size low form bit extent.Box end (first / 8) found is
  boxed-held size low form bit first end found false is = let same : Fails NotFilled ≡ found = cc in subst IsHeld same tt

  -- a content that markup ends
  content-told : (form : TextForm) (look : ℕ → Seen) (r : Reached DelimitedContent) (t : Tally) (found : Find)
      → Says (λ (content : DelimitedContent). AreScalars content.characters) r
      → (go_on look (λ (content : DelimitedContent). Answer (delimited_find form content)) r t).reached ≡ Told found → IsHeld found
  content-told form look (Told content) t found scalars is =
      subst IsHeld (told_one (delimited_find form content) found is) (delimited-held form content scalars)
  content-told form look TooFar t found scalars is = absurd (cc)
  content-told form look Missing t found scalars is = absurd (cc)

  scan-held : (size low : ℕ) (form : TextForm) (lists : List Opened) (scan : ScanForm) (bit stop : ℕ) (found : Find)
      → (ask (seen_in input.bytes size low)
      (and_then (scanned lists scan bit stop) (λ (content : DelimitedContent). Answer (delimited_find form content))) nothing).reached ≡ Told found
      → IsHeld found
  scan-held size low form lists scan bit stop found is =
      let look : ℕ → Seen = seen_in input.bytes size low in
      let a : Ask DelimitedContent = scanned lists scan bit stop in
      let whole = ask-then look (λ (content : DelimitedContent). Answer (delimited_find form content)) a nothing in
      content-told form look (ask look a nothing).reached (ask look a nothing).tally found
      (scanned-scalars look (shown size low) lists scan bit stop nothing)
      (sym (ap (λ (r : Reading Find). r.reached) whole) ∙ is)

  sized-held : (window low : ℕ) (form : TextForm) (size : TextSize) (lists : List Opened) (bit stop : ℕ) (found : Find)
      → (ask (seen_in input.bytes window low) (text_of_size form size lists bit stop) nothing).reached ≡ Told found → IsHeld found
  sized-held window low form (Bits n) lists bit stop found is =
      let first : ℕ = text_begins form.content (Bits n) bit in
      boxed-held window low form bit first (bit + n) found (nat_eq ((bit + n - first) % 8) 0) is
  sized-held window low form (Delimited scan) lists bit stop found is = scan-held window low form lists scan bit stop found is
  sized-held window low form (Counted n) lists bit stop found is =
      then-held window low form bit (extent.Characters n) stop (aligned 8 bit / 8) found is

  octets-held : (size low : ℕ) (form : OctetForm) (bit : ℕ) (found : Find) (none whole : Bool)
      → (ask (seen_in input.bytes size low) (cond none (Answer (FindsOctets [] (vacant bit))) (cond whole (field (Octets form) bit) (Answer (Fails NotFilled)))) nothing).reached
      ≡ Told found → IsHeld found
  octets-held size low form bit found true whole is = let same : FindsOctets [] (vacant bit) ≡ found = cc in subst IsHeld same tt
  octets-held size low form bit found false true is = field-held (seen_in input.bytes size low) (Octets form) bit found is
  octets-held size low form bit found false false is = let same : Fails NotFilled ≡ found = cc in subst IsHeld same tt

  nil-then-held : (look : ℕ → Seen) (form : NilForm) (r : Reached Find) (t : Tally) (found : Find)
      → (go_on look (λ (find : Find). Answer (nil_octets_find form find)) r t).reached ≡ Told found → IsHeld found
  nil-then-held look form (Told find) t found is = subst IsHeld (told_one (nil_octets_find form find) found is) (nil-octets-held form find)
  nil-then-held look form TooFar t found is = absurd (cc)
  nil-then-held look form Missing t found is = absurd (cc)

  nil-bytes-held : (look : ℕ → Seen) (form : NilForm) (a : Ask Find) (found : Find)
      → (ask look (and_then a (λ (find : Find). Answer (nil_octets_find form find))) nothing).reached ≡ Told found → IsHeld found
  nil-bytes-held look form a found is =
      let whole = ask-then look (λ (find : Find). Answer (nil_octets_find form find)) a nothing in
      nil-then-held look form (ask look a nothing).reached (ask look a nothing).tally found
      (sym (ap (λ (r : Reading Find). r.reached) whole) ∙ is)

  no-bits-held : (look : ℕ → Seen) (v : Value) (bit : ℕ) (found : Find) (none : Bool) → IsWritten v
      → (ask look (Answer (cond none (default_find bit v) (Fails RequiredEmpty))) nothing).reached ≡ Told found → IsHeld found
  no-bits-held look v bit found true written is = subst IsHeld (told_one (default_find bit v) found is) (default-held bit v written)
  no-bits-held look v bit found false written is = subst IsHeld (told_one (Fails RequiredEmpty) found is) tt

  step-told : (look : ℕ → Seen) (v : Value) (bit : ℕ) (r : Reached Step) (t : Tally) (found : Find) → IsWritten v
      → (go_on look (λ (step : Step). Answer (default_by_step v bit step)) r t).reached ≡ Told found → IsHeld found
  step-told look v bit (Told step) t found written is = subst IsHeld (told_one (default_by_step v bit step) found is) (step-held v bit step written)
  step-told look v bit TooFar t found written is = absurd (cc)
  step-told look v bit Missing t found written is = absurd (cc)

  default-size-held : (look : ℕ → Seen) (v : Value) (lists : List Opened) (size : TextSize) (bit stop : ℕ) (found : Find) → IsWritten v
      → (ask look (default_of_size v lists size bit stop) nothing).reached ≡ Told found → IsHeld found
  default-size-held look v lists (Bits n) bit stop found written is = no-bits-held look v bit found (is_no_size (Bits n)) written is
  default-size-held look v lists (Counted n) bit stop found written is = no-bits-held look v bit found (is_no_size (Counted n)) written is
  default-size-held look v lists (Delimited scan) bit stop found written is =
      let a : Ask Step = first_step lists scan bit stop in
      let whole = ask-then look (λ (step : Step). Answer (default_by_step v (aligned 8 bit) step)) a nothing in
      step-told look v (aligned 8 bit) (ask look a nothing).reached (ask look a nothing).tally found written
      (sym (ap (λ (r : Reading Find). r.reached) whole) ∙ is)

  pattern-then-held : (look : ℕ → Seen) (form : PatternForm) (first : ℕ) (r : Reached TextRead) (t : Tally) (found : Find)
      → (go_on look (λ (text : TextRead). Answer (pattern_find form first text)) r t).reached ≡ Told found → IsHeld found
  pattern-then-held look form first (Told text) t found is = subst IsHeld (told_one (pattern_find form first text) found is) (pattern-held form first text)
  pattern-then-held look form first TooFar t found is = absurd (cc)
  pattern-then-held look form first Missing t found is = absurd (cc)

  sought-held : (look : ℕ → Seen) (form : PatternForm) (first : ℕ) (a : Ask TextRead) (found : Find)
      → (ask look (and_then a (λ (text : TextRead). Answer (pattern_find form first text))) nothing).reached ≡ Told found → IsHeld found
  sought-held look form first a found is =
      let whole = ask-then look (λ (text : TextRead). Answer (pattern_find form first text)) a nothing in
      pattern-then-held look form first (ask look a nothing).reached (ask look a nothing).tally found
      (sym (ap (λ (r : Reading Find). r.reached) whole) ∙ is)

  program-held : (size low : ℕ) (lists : List Opened) (primitive : Primitive) → IsSound primitive → (bit stop : ℕ) (found : Find)
      → (ask (seen_in input.bytes size low) (program lists primitive bit stop) nothing).reached ≡ Told found → IsHeld found
  program-held size low lists (Integer form) good bit stop found is = field-held (seen_in input.bytes size low) (Integer form) bit found is
  program-held size low lists (Packed form) good bit stop found is = field-held (seen_in input.bytes size low) (Packed form) bit found is
  program-held size low lists (Truth form) good bit stop found is = field-held (seen_in input.bytes size low) (Truth form) bit found is
  program-held size low lists (Octets form) good bit stop found is = octets-held size low form bit found (nat_eq form.bits 0) (nat_eq (form.bits % 8) 0) is
  program-held size low lists (Characters form) good bit stop found is = sized-held size low form form.size lists bit stop found is
  program-held size low lists (NilOctets form) good bit stop found is =
      nil-bytes-held (seen_in input.bytes size low) form.nil (octets form.octets bit) found is
  program-held size low lists (Default form) good bit stop found is =
      default-size-held (seen_in input.bytes size low) form.value lists form.size bit stop found good is
  program-held size low lists (NilValues form) good bit stop found is = subst IsHeld (told_one (Fails RequiredEmpty) found is) tt
  program-held size low lists (Pattern form) good bit stop found is =
      sought-held (seen_in input.bytes size low) form bit (text_sought form (aligned 8 bit) stop) found is

  nil-value-then-held : (look : ℕ → Seen) (values : List Value) (r : Reached Find) (t : Tally) (found : Find)
      → (go_on look (λ (find : Find). Answer (nil_value_find values find)) r t).reached ≡ Told found → IsHeld found
  nil-value-then-held look values (Told find) t found is = subst IsHeld (told_one (nil_value_find values find) found is) (nil-value-held values find)
  nil-value-then-held look values TooFar t found is = absurd (cc)
  nil-value-then-held look values Missing t found is = absurd (cc)

  program-for-held : (size low : ℕ) (nil : Option (List Value)) (lists : List Opened) (primitive : Primitive) → IsSound primitive → (bit stop : ℕ) (found : Find)
      → (ask (seen_in input.bytes size low) (program_for nil lists primitive bit stop) nothing).reached ≡ Told found → IsHeld found
  program-for-held size low None lists primitive good bit stop found is = program-held size low lists primitive good bit stop found is
  program-for-held size low (Some values) lists primitive good bit stop found is =
      let look : ℕ → Seen = seen_in input.bytes size low in
      let a : Ask Find = program lists primitive bit stop in
      let whole = ask-then look (λ (find : Find). Answer (nil_value_find values find)) a nothing in
      nil-value-then-held look values (ask look a nothing).reached (ask look a nothing).tally found
      (sym (ap (λ (r : Reading Find). r.reached) whole) ∙ is)

  abbrev Has : State → Type 0
  Has s = HaveTexts s.nodes s.text

  -- what is done keeps the bytes of values
  abbrev Keeps : (State → Outcome) → Type 0
  Keeps f = (s : State) → Has s → Has (f s).state

  -- lengths of the open element leave them as they are
  spans : (content value : ℕ) (s : State) → Has s → Has (with_span content value s)
  spans content value s has = lengths-has (HasText s.text) s.nodes s.inside (Some (record { content = content; value = value })) has

  hold-keeps : (made_of : ℕ → ℕ → Content) (bytes : List ℕ) (span : Span) (s : State) → Has s
      → HasText (s.text ++ bytes) (made_of (length s.text) (length bytes)) → (room : Bool)
      → Has (cond room (ended Done (record (taken_as (made_of (length s.text) (length bytes)) span s) { text = s.text ++ bytes }))
      (ended (Stopped (Limit TextLimit) input.limits.text) s)).state
  hold-keeps made_of bytes span s has new true =
      let content : Content = made_of (length s.text) (length bytes) in
      let t : State = record s { at = span.end; text = s.text ++ bytes; nodes = with_content s.nodes s.inside content } in
      spans (span.end - s.at) span.value t
      (content-has (HasText (s.text ++ bytes)) s.nodes s.inside content new
      (λ i node less. text-more s.text bytes (get_or s.nodes i node).content (has i node less)))
  hold-keeps made_of bytes span s has new false = has

  land-keeps : (first : ℕ) (reached : Reached Find) → ((found : Find) → reached ≡ Told found → IsHeld found) → Keeps (land input.limits first reached)
  land-keeps first (Told (Fails cause)) held s has = has
  land-keeps first (Told (Finds content span)) held s has =
      let t : State = record s { at = span.end; nodes = with_content s.nodes s.inside content } in
      spans (span.end - s.at) span.value t
      (content-has (HasText s.text) s.nodes s.inside content (held (Finds content span) refl s.text) has)
  land-keeps first (Told (FindsOctets bytes span)) held s has =
      let size = length-append s.text bytes in
      hold-keeps content.Octets bytes span s has (omega (arith, size)) (nat_le (length s.text + length bytes) input.limits.text)
  land-keeps first (Told (FindsText bytes span)) held s has =
      let size = length-append s.text bytes in
      hold-keeps content.Text bytes span s has
      (omega (arith, size), subst IsUtf8 (sym (last-bytes s.text bytes)) (held (FindsText bytes span) refl))
      (nat_le (length s.text + length bytes) input.limits.text)
  land-keeps first TooFar held s has = has
  land-keeps first Missing held s has = has

  room-keeps : (delimiters : List Delimiters) (nil : Option (List Value)) (primitive : Primitive) → IsSound primitive → (s : State) → Has s → (room : Bool)
      → Has (cond room
      (let reading = ask (seen_in input.bytes input.limits.window (anchor s)) (program_for nil (lists_of delimiters (markup s)) primitive s.at s.stop) nothing in
      spend (needs_from (anchor s) reading.tally) (land input.limits (content_begins primitive s.at) reading.reached s))
      (ended (Failed LengthOutOfRange s.at) s)).state
  room-keeps delimiters nil primitive good s has true =
      land-keeps (content_begins primitive s.at) (ask (seen_in input.bytes input.limits.window (anchor s)) (program_for nil (lists_of delimiters (markup s)) primitive s.at s.stop) nothing).reached
      (λ found is. program-for-held input.limits.window (anchor s) nil (lists_of delimiters (markup s)) primitive good s.at s.stop found is) s has
  room-keeps delimiters nil primitive good s has false = has

  leaf-keeps : (delimiters : List Delimiters) (nil : Option (List Value)) (primitive : Option Primitive) → IsSoundOr primitive → Keeps (leaf input delimiters nil primitive)
  leaf-keeps delimiters nil None good s has = has
  leaf-keeps delimiters nil (Some primitive) good s has = room-keeps delimiters nil primitive good s has (has_room primitive s.at s.stop)

  -- a leaf of another size
  of-keeps : (delimiters : List Delimiters) (nil : Option (List Value)) (primitive : Option Primitive) → IsSoundOr primitive → Keeps (leaf_of input delimiters nil primitive)
  of-keeps delimiters nil None good s has = has
  of-keeps delimiters nil (Some primitive) good s has = leaf-keeps delimiters nil (Some primitive) good s has

  sized-keeps : (delimiters : List Delimiters) (nil : Option (List Value)) (primitive : Option Primitive) (size : TextSize) → IsSoundOr primitive
      → Keeps (sized_leaf input delimiters nil primitive size)
  sized-keeps delimiters nil None size good s has = has
  sized-keeps delimiters nil (Some primitive) size good s has = of-keeps delimiters nil (resized size primitive) (resized-sound size primitive good) s has

  -- a prefix, and what it tells the size of
  prefixed-keeps : (delimiters : List Delimiters) (by : Option Primitive) (own : ℕ) (next : ℕ → State → Outcome) → ((units : ℕ) → Keeps (next units)) → Keeps (prefixed input delimiters by own next)
  prefixed-keeps delimiters by own next keeps s has =
      prefixed-comes (λ (e : End) (t : State). Has t) s (λ cause bit. has) (λ cause quantity. has) next
      (λ units at. keeps units (record s { at = at }) has) input delimiters by own

  passed-keeps : (to : ℕ) (reached : Reached Bool) → Keeps (passed input.limits.window to reached)
  passed-keeps to (Told true) s has = has
  passed-keeps to (Told false) s has = has
  passed-keeps to TooFar s has = has
  passed-keeps to Missing s has = has

  pass-keeps : (to : ℕ) (s : State) → Has s → (over room : Bool)
      → Has (cond over (ended Done s) (cond room (fill_to input to s) (ended (Failed LengthOutOfRange s.at) s))).state
  pass-keeps to s has true room = has
  pass-keeps to s has false true =
      passed-keeps to (ask (seen_in input.bytes input.limits.window (anchor_at s (to - 1))) (has_byte ((to - 1) / 8)) nothing).reached s has
  pass-keeps to s has false false = has

  byte-keeps : (reached : Reached Bool) (next : State → Outcome) → Keeps next → Keeps (past_byte input.limits.window reached next)
  byte-keeps (Told true) next keeps s has = keeps s has
  byte-keeps (Told false) next keeps s has = has
  byte-keeps TooFar next keeps s has = has
  byte-keeps Missing next keeps s has = has

  bytes-keep : (left k : ℕ) → Keeps (pass_bytes input left k)
  bytes-keep zero k s has = has
  bytes-keep (suc left) k s has =
      byte-keeps (ask (seen_in input.bytes input.limits.window (anchor_at s (8 * k))) (has_byte k) nothing).reached
      (pass_bytes input left (k + 1)) (bytes-keep left (k + 1)) s has

  rest-keeps : (s : State) → Has s → (over : Bool)
      → Has (cond over (ended Done s) (pass_bytes input (bytes_up_to s.stop (s.at / 8)) (s.at / 8) s)).state
  rest-keeps s has true = has
  rest-keeps s has false = bytes-keep (bytes_up_to s.stop (s.at / 8)) (s.at / 8) s has

  unboxed-keeps : (end : End) (outer hidden : ℕ) (o : Outcome) → Has o.state → Has (unboxed end outer hidden o).state
  unboxed-keeps Done outer hidden o has = has
  unboxed-keeps (Failed cause bit) outer hidden o has = has
  unboxed-keeps (Stopped cause quantity) outer hidden o has = has

  unscoped-keeps : (end : End) (count : ℕ) (o : Outcome) → Has o.state → Has (unscoped end count o).state
  unscoped-keeps Done count o has = has
  unscoped-keeps (Failed cause bit) count o has = has
  unscoped-keeps (Stopped cause quantity) count o has = has

  scoped-keeps : (list : ℕ) (body : State → Outcome) → Keeps body → Keeps (scoped list body)
  scoped-keeps list body keeps s has = let o : Outcome = body (opens list s) in unscoped-keeps o.end (length s.lists) o (keeps (opens list s) has)

  follow-keeps : (end : End) (o : Outcome) (next : State → Outcome) → Keeps next → Has o.state → Has (follow end o next).state
  follow-keeps Done o next keeps has = keeps o.state has
  follow-keeps (Failed cause bit) o next keeps has = has
  follow-keeps (Stopped cause quantity) o next keeps has = has

  -- the lengths of a content that is done, and then the rest of its box
  rest-from-keeps : (from : ℕ) → Keeps (rest_from input from)
  rest-from-keeps from s has =
      let t : State = with_span (s.stop - from) (s.at - from) s in
      rest-keeps t (spans (s.stop - from) (s.at - from) s has) (nat_le t.stop t.at)

  spanned-keeps : (body : State → Outcome) → Keeps body → Keeps (spanned body)
  spanned-keeps body keeps s has =
      follow-keeps (body s).end (body s) (span_ends s.at) (λ t kept. spans (t.at - s.at) (t.at - s.at) t kept) (keeps s has)

  boxed-keeps : (bits : ℕ) (body : State → Outcome) → Keeps body → (s : State) → Has s → (room : Bool)
      → Has (cond room
      (let o : Outcome = then_do (body (boxed_at (s.at + bits) s)) (rest_from input s.at) in unboxed o.end s.stop s.hidden o)
      (ended (Failed LengthOutOfRange s.at) s)).state
  boxed-keeps bits body keeps s has true =
      let inside : State = boxed_at (s.at + bits) s in
      let o : Outcome = then_do (body inside) (rest_from input s.at) in
      unboxed-keeps o.end s.stop s.hidden o
      (follow-keeps (body inside).end (body inside) (rest_from input s.at) (rest-from-keeps s.at) (keeps inside has))
  boxed-keeps bits body keeps s has false = has

  begun-has : (id : ℕ) (instead : Instead) (s : State) → Has s → Has (begun id instead s)
  begun-has id instead s has =
      let last : Node = record { element = id; parent = s.inside; content = Begun; lengths = None } in
      All-append (λ (n : Node). HasText s.text n.content) s.nodes (last ∷ []) has
      (both_have (λ (n : Node). HasText s.text n.content) last [] tt (λ i d less. absurd (omega arith)))

  left-has : (outer : ℕ) (complex : Bool) (s : State) → Has s → Has (left outer complex s)
  left-has outer true s has = content-has (HasText s.text) s.nodes s.inside Complex tt has
  left-has outer false s has = has

  close-has : (end : End) (outer : ℕ) (complex : Bool) (o : Outcome) → Has o.state → Has (close end outer complex o).state
  close-has Done outer complex o has = left-has outer complex o.state has
  close-has (Failed cause bit) outer complex o has = has
  close-has (Stopped cause quantity) outer complex o has = has

  room-tried : (id : ℕ) (complex : Bool) (body : State → Outcome) → Keeps body → (instead : Instead) (s : State) → Has s → (room : Bool)
      → Has (cond room (let o : Outcome = body (begun id instead s) in close o.end s.inside complex o) (ended (Stopped (Limit Nodes) input.limits.nodes) s)).state
  room-tried id complex body keeps instead s has true =
      let first : State = begun id instead s in
      let o : Outcome = body first in close-has o.end s.inside complex o (keeps first (begun-has id instead s has))
  room-tried id complex body keeps instead s has false = has

  element-keeps : (id : ℕ) (complex : Bool) (tried : Representations) (body : State → Outcome) → Keeps body → Goes body
      → Keeps (element input id complex tried body)
  element-keeps id complex tried body keeps goes s has =
      let attempt-keeps : (instead : Instead) (t : State) → Has t → Has (attempted input id complex body instead t).state =
      λ instead t held. room-tried id complex body keeps instead t held (nat_lt (length t.nodes) input.limits.nodes) in
      represented-comes (λ (e : End) (t : State). Has t) (λ (instead : Instead) (e : End) (t : State). Has t) s
      (attempted input id complex body) (λ (instead : Instead). Unit {0}) tt
      (attempt-keeps Nothing s has) (λ instead before marks kept same is one. attempt-keeps instead (again_at s before marks kept) has)
      (λ instead t held. held) (λ cause bit t held. held) (λ instead cause quantity t held. held)
      (λ instead t held. held) (tried-stays input id complex body goes s) (tried-returns input id complex body goes s)
      tried (any_ok InsteadNil tried.nil) (any_ok Empty tried.empty) (any_ok Empty tried.where_tried.empty)

  -- what is held whatever marks are open
  abbrev HasBy : List Mark → State → Type 0
  HasBy marks t = Has t

  abbrev EndsBy : List Mark → End → State → Type 0
  EndsBy marks e t = Has t

  holding : Carries HasBy EndsBy
  holding = record {
    moves = λ marks t at has. has;
    again = λ marks others t instead kept has is same goes. has;
    opens = λ marks t mark has. has;
    closes = λ marks t mark has. has;
    ends = λ marks e t has. has;
    done = λ marks t has. has;
    closes_end = λ marks e t mark has. has;
    stays = λ marks cause quantity t mark has. has;
  }

  choice-keeps : (child : ℕ → State → Outcome) → ((id : ℕ) → Keeps (child id)) → ((id : ℕ) → Goes (child id)) → (initiated : Bool) (ids : List ℕ)
      → Keeps (choice child initiated ids)
  choice-keeps child keeps goes initiated ids s has =
      choice-carried HasBy EndsBy holding child goes (λ id marks t held. keeps id t held) initiated ids s.marks s has

  untried-keeps : (e : End) (o : Outcome) → Has o.state → Has (untried e o).state
  untried-keeps Done o has = has
  untried-keeps (Failed cause bit) o has = has
  untried-keeps (Stopped cause quantity) o has = has

  once-keeps : (tried : Bool) (body : State → Outcome) → Keeps body → Keeps (occurring tried body)
  once-keeps tried body keeps s has = let o : Outcome = body (as_occurrence tried s) in untried-keeps o.end o (keeps (as_occurrence tried s) has)

  occurrences-keep : (body : State → Outcome) → Keeps body → Goes body → (initiated : Bool) (left : ℕ) → Keeps (occurrences body initiated left)
  occurrences-keep body keeps goes initiated left s has =
      occurrences-carried HasBy EndsBy holding body goes (λ marks t held. keeps t held) initiated left s.marks s has

  separated-keeps : (sequence : Sequence) → ((id : ℕ) → Keeps (sequence.child id)) → ((id : ℕ) → Goes (sequence.child id))
      → (policy : SeparatorSuppressionPolicy) (slots : List Slot) → Keeps (separated sequence policy slots)
  separated-keeps sequence keeps goes policy slots s has =
      separated-carried HasBy EndsBy holding sequence (λ id tried. once-goes input tried (sequence.child id) (goes id))
      (λ id tried marks t held. once-keeps tried (sequence.child id) (keeps id) t held) (λ id marks t held. keeps id t held) policy slots s.marks s has

  group-keeps : (child : ℕ → State → Outcome) → ((id : ℕ) → Keeps (child id)) → (children : List ℕ) → Keeps (group child children)
  group-keeps child keeps [] s has = has
  group-keeps child keeps (id ∷ rest) s has =
      follow-keeps (child id s).end (child id s) (group child rest) (group-keeps child keeps rest) (keeps id s has)

  -- a question, and what goes on by what it tells
  asked-keeps : (table : Table) (start : Start) (cause : ParseCause) (next : ℕ → State → Outcome) → ((count : ℕ) → Keeps (next count))
      → (found : Option (List ExpressionNode)) → Keeps (asked_count table start cause next found)
  asked-keeps table start cause next keeps found s has =
      count-comes (λ (e : End) (t : State). Has t) s (λ cause kept ways. has) table start cause next
      (λ count kept ways. keeps count (record s { variables = kept }) has) found

  key-keeps : (table : Table) (start : Start) (child : ℕ → State → Outcome) → ((id : ℕ) → Keeps (child id)) → (keys : List Key)
      → (found : Option (List ExpressionNode)) → Keeps (asked_key table start child keys found)
  key-keeps table start child keeps keys found s has =
      key-comes (λ (e : End) (t : State). Has t) s (λ cause kept ways. has) table start child keys
      (λ id kept ways. keeps id (record s { variables = kept }) has) found

  -- an instance of a variable
  closed-keeps : (e : End) (o : Outcome) → Has o.state → Has (closed_behind e o).state
  closed-keeps Done o has = has
  closed-keeps (Failed cause bit) o has = has
  closed-keeps (Stopped cause quantity) o has = has

  instanced-keeps : (table : Table) (number : ℕ) (body : State → Outcome) → Keeps body → Keeps (instanced table number body)
  instanced-keeps table number body keeps s has =
      opened-comes (λ (e : End) (t : State). Has t) s (λ cause kept ways. has) body (λ kept ways. keeps (record s { variables = kept }) has)
      (λ number start kept ways.
      let inside : State = record s { variables = entered kept number start } in
      closed-keeps (body inside).end (body inside) (keeps inside has)) table (opening_of (slice_get table.statements number))

  -- statements
  default-keeps : (v : Value) (t : State) → Has t → is_written v ≡ true → Has (land input.limits t.at (Told (default_find t.at v)) t).state
  default-keeps v t has written =
      land-keeps t.at (Told (default_find t.at v))
      (λ found is. subst IsHeld (told_one (default_find t.at v) found is) (default-held t.at v (written-is v written))) t has

  holding-tells : Tells input.limits Has (λ (e : End) (t : State). Has t)
  holding-tells = record {
    again = λ t marks kept has same goes. has;
    lands = λ t v has written. default-keeps v t has written;
    done = λ t has. has;
    ends = λ e t has. has;
  }

  told-keeps : (start : Start) (e : End) (t : State) → Has t → Has (told_at e start t)
  told-keeps start Done t has = has
  told-keeps start (Failed cause bit) t has = has
  told-keeps start (Stopped cause quantity) t has = has

  concluded-keeps : (table : Table) (start : Start) (behind : Statements) (o : Outcome) → Has o.state
      → Has (concluded input.limits table start behind o).state
  concluded-keeps table start behind o has =
      concluded-comes input.limits Has (λ (e : End) (t : State). Has t) holding-tells table (λ (e : End) (t : State). Has t) (λ t there. there) start
      (told-keeps start) (λ cause bit t marks kept there same goes. there) behind o has

  module _ (table : Table) (bounded : All IsPrimitive table.primitives) where
    row-keeps : (child : ℕ → State → Outcome) → ((id : ℕ) → Keeps (child id)) → ((id : ℕ) → Goes (child id)) → (id : ℕ) (r : Option Row)
        → Keeps (row input table child id r)
    row-keeps child keeps goes id None s has = has
    row-keeps child keeps goes id (Some (Leaf prim)) s has =
        let used : ℕ = read_by table.primitives s.instead prim in
        leaf-keeps table.delimiters (nil_values table.primitives s.instead) (slice_get table.primitives used) (sound-at table.primitives used bounded) s has
    row-keeps child keeps goes id (Some (Elem name simple tried behind body)) s has =
        concluded-keeps table (At (length s.nodes)) behind (element input id (has_elements simple) tried (child body) s)
        (element-keeps id (has_elements simple) tried (child body) (keeps body) (goes body) s has)
    row-keeps child keeps goes id (Some (Group children)) s has = group-keeps child keeps children s has
    row-keeps child keeps goes id (Some (Skip bits)) s has = pass-keeps (s.at + bits) s has (nat_le (s.at + bits) s.at) (nat_le (s.at + bits) s.stop)
    row-keeps child keeps goes id (Some (Align bits)) s has =
        pass-keeps (aligned bits s.at) s has (nat_le (aligned bits s.at) s.at) (nat_le (aligned bits s.at) s.stop)
    row-keeps child keeps goes id (Some (Initiator delimiter)) s has =
        initiator-comes (λ (e : End) (t : State). Has t) s (λ at marks same. has) (λ cause. has) (λ cause quantity. has) input table.delimiters
        delimiter
    row-keeps child keeps goes id (Some (Terminator delimiter separators)) s has =
        terminator-comes (λ (e : End) (t : State). Has t) s (λ at marks same. has) (λ cause. has) (λ cause quantity. has) input table.delimiters
        delimiter separators
    row-keeps child keeps goes id (Some Separator) s has =
        separator-comes (λ (e : End) (t : State). Has t) s (λ at marks same. has) (λ cause. has) (λ cause quantity. has) input table.delimiters
    row-keeps child keeps goes id (Some (Scope list body)) s has = scoped-keeps list (child body) (keeps body) s has
    row-keeps child keeps goes id (Some (Boxed bits body)) s has = boxed-keeps bits (child body) (keeps body) s has (nat_le (s.at + bits) s.stop)
    row-keeps child keeps goes id (Some (PrefixedLeaf prefix prim)) s has =
        let used : ℕ = read_by table.primitives s.instead prim in
        let nil : Option (List Value) = nil_values table.primitives s.instead in
        let primitive : Option Primitive = slice_get table.primitives used in
        prefixed-keeps table.delimiters (slice_get table.primitives prefix.prim) prefix.own (λ units after. sized_leaf input table.delimiters nil primitive (size_of prefix.unit units) after)
        (λ units. sized-keeps table.delimiters nil primitive (size_of prefix.unit units) (sound-at table.primitives used bounded)) s has
    row-keeps child keeps goes id (Some (MeasuredLeaf measure prim)) s has =
        let used : ℕ = read_by table.primitives s.instead prim in
        let nil : Option (List Value) = nil_values table.primitives s.instead in
        let primitive : Option Primitive = slice_get table.primitives used in
        asked-keeps table (At s.inside) LengthOutOfRange (λ units after. sized_leaf input table.delimiters nil primitive (size_of measure.unit units) after)
        (λ units. sized-keeps table.delimiters nil primitive (size_of measure.unit units) (sound-at table.primitives used bounded))
        (question_at table measure.question) s has
    row-keeps child keeps goes id (Some (MeasuredBox measure body)) s has =
        asked-keeps table (At s.inside) LengthOutOfRange (λ units after. boxed input (bits_of_units measure.unit units) (child body) after)
        (λ units after kept. boxed-keeps (bits_of_units measure.unit units) (child body) (keeps body) after kept
        (nat_le (after.at + bits_of_units measure.unit units) after.stop)) (question_at table measure.question) s has
    row-keeps child keeps goes id (Some (Repeat count body)) s has = group-keeps child keeps (replicate count body) s has
    row-keeps child keeps goes id (Some (Counted question body)) s has =
        asked-keeps table (Inside s.inside) NegativeCount (λ count after. group child (replicate count body) after)
        (λ count. group-keeps child keeps (replicate count body)) (question_at table question) s has
    row-keeps child keeps goes id (Some (Optional most item initiated body)) s has =
        occurrences-keep (occurring true (child body)) (once-keeps true (child body) (keeps body)) (once-goes input true (child body) (goes body)) initiated most s has
    row-keeps child keeps goes id (Some (ChoiceRow branches initiated)) s has = choice-keeps child keeps goes initiated branches s has
    row-keeps child keeps goes id (Some (Dispatch question keys)) s has =
        key-keeps table (Inside s.inside) child keeps keys (question_at table question) s has
    row-keeps child keeps goes id (Some (Statement number)) s has =
        statement-comes input Has (λ (e : End) (t : State). Has t) holding-tells table number s has
    row-keeps child keeps goes id (Some (Concluded behind body)) s has = concluded-keeps table (Inside s.inside) behind (child body s) (keeps body s has)
    row-keeps child keeps goes id (Some (Hidden body)) s has = keeps body s has
    row-keeps child keeps goes id (Some (Spanned body)) s has = spanned-keeps (child body) (keeps body) s has
    row-keeps child keeps goes id (Some (Instance statement body)) s has = instanced-keeps table statement (child body) (keeps body) s has
    row-keeps child keeps goes id (Some (Separated policy position initiated slots)) s has =
        let sequence : Sequence =
        record { input = input; table = table; child = child; position = position; initiated = initiated } in
        separated-keeps sequence keeps goes policy slots s has
    row-keeps child keeps goes id (Some (PrefixedBox prefix body)) s has =
        prefixed-keeps table.delimiters (slice_get table.primitives prefix.prim) prefix.own (λ units after. boxed input (bits_of_units prefix.unit units) (child body) after)
        (λ units after kept. boxed-keeps (bits_of_units prefix.unit units) (child body) (keeps body) after kept
        (nat_le (after.at + bits_of_units prefix.unit units) after.stop)) s has

    below-choice : (n id : ℕ) → ((i : ℕ) → Keeps (below input table n i)) → (s : State) → Has s → (test : Bool)
        → Has (cond test (row_at input table (below input table n) n s) (below input table n id s)).state
    below-choice n id keeps s has true = row-keeps (below input table n) keeps (below-goes input table n) n (slice_get table.rows n) s has
    below-choice n id keeps s has false = keeps id s has

    below-keeps : (n id : ℕ) → Keeps (below input table n id)
    unfolding below
    below-keeps zero id s has = has
    below-keeps (suc n) id s has = below-choice n id (below-keeps n) s has (nat_eq id n)

    pub meaning-has : (id start : ℕ)
        → HaveTexts (meaning input table id (front_at table start)).state.nodes (meaning input table id (front_at table start)).state.text
    unfolding meaning
    meaning-has id start =
        row-keeps (below input table id) (below-keeps id) (below-goes input table id) id (slice_get table.rows id) (front_at table start)
        (λ i d less. absurd (omega arith))
