-- What a leaf finds is what its bytes or characters are read as, and whole data have each byte or end before it.
use Rattle.std.proofs.Common.{◌≡◌, ℕ, zero, suc, ◌+◌, ◌*◌, ◌/◌, ◌%◌, List, [], ◌∷◌, length, get_or, Bool, true, false, cond, leb, ltb, ◌-◌, nat_eq, Option, Some, None, Result, Ok, Err, ap, sym, ◌∙◌}
use Rattle.dfdl_bits.specs.declared.window.Seen.{Seen}
use Rattle.dfdl_bits.specs.declared.window.Seen.TheVariants.{Byte, End as DataEnded, NotYet, Over}
use Rattle.dfdl_int_binary.specs.Integers.{field_of, integer_reading}
use Rattle.dfdl_int_binary.specs.Truths.{truth_field_of, truth_reading}
use Rattle.dfdl_packed.specs.Packed.{nibbles_in, packed_reading}
use Rattle.dfdl_packed.specs.Zoned.{zoned_reading}
use Rattle.dfdl_packed.specs.declared.fault.PackedFault.{PackedFault}
use Rattle.dfdl_packed.specs.declared.fault.PackedFault.TheVariants.{BadNibble, PastType}
use Rattle.dfdl_number_text.specs.NumberReading.{reading as number_reading}
use Rattle.dfdl_number_text.specs.declared.fault.NumberFault.{NumberFault}
use Rattle.dfdl_number_text.specs.declared.fault.NumberFault.TheVariants as fault
use Rattle.dfdl_value.specs.declared.value.Value.{Value}
use Rattle.dfdl_value.specs.declared.value.Value.TheVariants.{Int, Uns, Dec, Text, Truth as TruthValue, Bytes}
use Rattle.dfdl_report.specs.declared.cause.ParseCause.TheVariants.{DataEnds, NotFilled, RequiredEmpty}
use Rattle.dfdl_terms.specs.declared.row.Primitive.{Primitive}
use Rattle.dfdl_terms.specs.declared.row.Primitive.TheVariants.{Integer, Packed, Truth, Octets, Text as Characters, NilOctets, Default, NilValues, Pattern}
use Rattle.dfdl_region.specs.declared.node.Content.{Content}
use Rattle.dfdl_region.specs.declared.node.Content.TheVariants.{Begun}
use Rattle.dfdl_terms.specs.declared.text.NilForm.{NilForm}
use Rattle.dfdl_terms.specs.declared.text.OctetForm.{OctetForm}
use Rattle.dfdl_terms.specs.declared.text.PatternForm.{PatternForm}
use Rattle.dfdl_terms.specs.declared.text.TextContent.{TextContent}
use Rattle.dfdl_terms.specs.declared.text.TextContent.TheVariants.{Plain, Octets as TextOctets, Number, Zoned, Truth as TextTruth, Nil}
use Rattle.dfdl_terms.specs.declared.text.TextForm.{TextForm}
use Rattle.dfdl_terms.specs.declared.text.TextSize.{TextSize}
use Rattle.dfdl_terms.specs.declared.text.TextSize.TheVariants.{Bits, Characters as Counted, Delimited}
use Rattle.dfdl_forms.specs.declared.encoding.Encoding.TheVariants.{Iso88591}
use Rattle.dfdl_chars.specs.Encodings.{encoded_text}
use Rattle.dfdl_delims.specs.Lists.{Opened}
use Rattle.dfdl_escapes.specs.Contents.{Content as DelimitedContent}
use Rattle.dfdl_escapes.specs.Steps.{Step}
use Rattle.dfdl_escapes.specs.Steps as steps
use Rattle.dfdl_escapes.specs.Trims.{trimmed_content}
use Rattle.dfdl_texts.specs.Texts.{Text as TextRead, Reads as DoesRead, HasBad, IsCut, IsBoxed, text_at}
use Rattle.dfdl_texts.specs.declared.extent.Extent.TheVariants as extent
use Rattle.dfdl_text_string.specs.Padding.{trimmed}
use Rattle.dfdl_text_string.specs.Truths.{truth_of}
use Rattle.dfdl_looks.specs.Asks.{Ask, Answer, Look, Reached, Told, TooFar, Missing, Reading, and_then, ask, go_on, look_at}
use Rattle.dfdl_looks.specs.Looks.{seen_in}
use Rattle.dfdl_looks.specs.Tallies.{Tally, nothing, saw_byte, saw_end}
use Rattle.dfdl_looks.proofs.Resumed.{on_seen}
use Rattle.dfdl_looks.proofs.Sequels.{ask-then}
use Rattle.dfdl_grammar.specs.Leaves.{Find, Fails, Finds, FindsOctets, FindsText, bits_of, bytes_spanned, content_find, default_by_step, default_find, default_of_size, delimited_find, field, find_in, find_of, is_no_size, nil_find, nil_octets_find, nil_value_find, is_bytes, is_text, is_value, kept_find, number_find, pattern_find, octets, octets_find, packed_find, program, program_for, text_begins, text_behind, text_find, text_of_size, text_sought, truth_find, unless_broken}
use Rattle.dfdl_grammar.specs.Delimited.{first_step, plain, scanned}
use Rattle.dfdl_grammar.specs.Framing.{aligned}
use Rattle.dfdl_grammar.specs.Spans.{filled, kept_to, vacant}
use Rattle.dfdl_grammar.specs.declared.span.Span.{Span}
use Rattle.dfdl_grammar.specs.Nils.{are_nil, is_nil}
use Rattle.std.specs.List.{list_any}

-- what a program over a stretch finds is what it makes of some bytes
pub record Made (go : List ℕ → Find) (found : Find) : Type 0 where
  pub bytes : List ℕ
  pub is : go bytes ≡ found

module _ (look : ℕ → Seen) (found : Find) (apart : Fails DataEnds ≡ found → ⊥) where
  step-made : (count k : ℕ) (go : List ℕ → Find) (t : Tally)
      → ((more : List ℕ → Find) (u : Tally) → (ask look (look_at count (k + 1) (Fails DataEnds) more) u).reached ≡ Told found → Made more found)
      → (s : Seen)
      → (on_seen look (λ o. elim o as (λ _. Ask Find) [ None ↦ Answer (Fails DataEnds) | Some b ↦ look_at count (k + 1) (Fails DataEnds) (λ bytes. go (b ∷ bytes)) ]) k t s).reached ≡ Told found
      → Made go found
  step-made count k go t more (Byte b) is =
      let made = more (λ bytes. go (b ∷ bytes)) (saw_byte k t) is in record { bytes = b ∷ made.bytes; is = made.is }
  step-made count k go t more DataEnded is = let same : Fails DataEnds ≡ found = cc in absurd (apart same)
  step-made count k go t more NotYet is = absurd (cc)
  step-made count k go t more Over is = absurd (cc)

  pub made : (count k : ℕ) (go : List ℕ → Find) (t : Tally) → (ask look (look_at count k (Fails DataEnds) go) t).reached ≡ Told found → Made go found
  made zero k go t is = let same : go [] ≡ found = cc in record { bytes = []; is = same }
  made (suc count) k go t is = step-made count k go t (λ more u found. made count (k + 1) more u found) (look k) is

-- what a value is found as isn't a beginning
read_of : (span : Span) (v : Option Value) (content : Content) (n : Span) → find_of span v ≡ Finds content n → content ≡ Begun → ⊥
read_of span None content n is unread = absurd (cc)
read_of span (Some (Int z)) content n is unread = absurd (cc)
read_of span (Some (Uns number)) content n is unread = absurd (cc)
read_of span (Some (Dec d)) content n is unread = absurd (cc)
read_of span (Some (Text text)) content n is unread = absurd (cc)
read_of span (Some (TruthValue truth)) content n is unread = absurd (cc)
read_of span (Some (Bytes bytes)) content n is unread = absurd (cc)

packed_read : (span : Span) (r : Result Value PackedFault) (content : Content) (n : Span) → packed_find span r ≡ Finds content n → content ≡ Begun → ⊥
packed_read span (Ok v) content n is unread = read_of span (Some v) content n is unread
packed_read span (Err BadNibble) content n is unread = absurd (cc)
packed_read span (Err PastType) content n is unread = absurd (cc)

truth_read : (span : Span) (r : Option Bool) (content : Content) (n : Span) → truth_find span r ≡ Finds content n → content ≡ Begun → ⊥
truth_read span (Some truth) content n is unread = absurd (cc)
truth_read span None content n is unread = absurd (cc)

number_read : (span : Span) (r : Result Value NumberFault) (content : Content) (n : Span) → number_find span r ≡ Finds content n → content ≡ Begun → ⊥
number_read span (Ok v) content n is unread = read_of span (Some v) content n is unread
number_read span (Err fault.NotANumber) content n is unread = absurd (cc)
number_read span (Err fault.PastType) content n is unread = absurd (cc)

nil_read : (span : Span) (nil : Bool) (content : Content) (n : Span) → nil_find span nil ≡ Finds content n → content ≡ Begun → ⊥
nil_read span true content n is unread = absurd (cc)
nil_read span false content n is unread = absurd (cc)

default_read : (bit : ℕ) (v : Value) (content : Content) (n : Span) → default_find bit v ≡ Finds content n → content ≡ Begun → ⊥
default_read bit (Int z) content n is unread = absurd (cc)
default_read bit (Uns number) content n is unread = absurd (cc)
default_read bit (Dec d) content n is unread = absurd (cc)
default_read bit (Text text) content n is unread = absurd (cc)
default_read bit (TruthValue truth) content n is unread = absurd (cc)
default_read bit (Bytes bytes) content n is unread = absurd (cc)

-- the bytes of a hexBinary are no value of a number
octets_read : (span : Span) (r : Option (List ℕ)) (content : Content) (n : Span) → octets_find span r ≡ Finds content n → content ≡ Begun → ⊥
octets_read span (Some bytes) content n is unread = absurd (cc)
octets_read span None content n is unread = absurd (cc)

-- nor is what characters are found as
content_read : (read : TextContent) (chars : List ℕ) (span : Span) (content : Content) (n : Span) → content_find read chars span ≡ Finds content n → content ≡ Begun → ⊥
content_read Plain chars span content n is unread = absurd (cc)
content_read TextOctets chars span content n is unread = octets_read span (encoded_text Iso88591 chars) content n is unread
content_read (Number form kind) chars span content n is unread = number_read span (number_reading form kind chars) content n is unread
content_read (Zoned form) chars span content n is unread = packed_read span (zoned_reading form chars) content n is unread
content_read (TextTruth form) chars span content n is unread = truth_read span (truth_of form chars) content n is unread
content_read (Nil form) chars span content n is unread = nil_read span (is_nil form chars) content n is unread

kept_read : (form : TextForm) (end : ℕ) (chars : List ℕ) (content : Content) (n : Span) → kept_find form end chars ≡ Finds content n → content ≡ Begun → ⊥
kept_read form end chars content n is unread = content_read form.content chars (kept_to end form.encoding chars) content n is unread

-- nor what the leaf of a primitive finds in its bytes
found_read : (primitive : Primitive) (bit : ℕ) (bytes : List ℕ) (content : Content) (n : Span) → find_in primitive bit bytes ≡ Finds content n → content ≡ Begun → ⊥
found_read (Integer form) bit bytes content n is unread =
    read_of (filled bit form.bits) (integer_reading form (field_of form bytes (bit % 8))) content n is unread
found_read (Packed form) bit bytes content n is unread =
    packed_read (filled bit (4 * form.nibbles)) (packed_reading form (nibbles_in form bytes (bit % 8))) content n is unread
found_read (Truth form) bit bytes content n is unread =
    truth_read (filled bit form.bits) (truth_reading form (truth_field_of form bytes (bit % 8))) content n is unread
found_read (Octets form) bit bytes content n is unread = absurd (cc)
found_read (Characters form) bit bytes content n is unread = absurd (cc)
found_read (NilOctets form) bit bytes content n is unread = absurd (cc)
found_read (Default form) bit bytes content n is unread = absurd (cc)
found_read (NilValues form) bit bytes content n is unread = absurd (cc)
found_read (Pattern form) bit bytes content n is unread = absurd (cc)

-- what is found of a primitive is a value
field_value : (look : ℕ → Seen) (primitive : Primitive) (bit : ℕ) (content : Content) (to : Span)
    → (ask look (field primitive bit) nothing).reached ≡ Told (Finds content to) → content ≡ Begun → ⊥
field_value look primitive bit content to is unread =
    let here = made look (Finds content to) (λ same. absurd (cc)) (bytes_spanned bit (bits_of primitive)) (bit / 8) (find_in primitive bit) nothing is in
    found_read primitive bit here.bytes content to here.is unread

-- what is found of a hexBinary is no value of a number
octets_value : (look : ℕ → Seen) (form : OctetForm) (bit : ℕ) (content : Content) (to : Span) (none whole : Bool)
    → (ask look (cond none (Answer (FindsOctets [] (vacant bit))) (cond whole (field (Octets form) bit) (Answer (Fails NotFilled)))) nothing).reached
    ≡ Told (Finds content to) → content ≡ Begun → ⊥
octets_value look form bit content to true whole is unread = absurd (cc)
octets_value look form bit content to false true is unread = field_value look (Octets form) bit content to is unread
octets_value look form bit content to false false is unread = absurd (cc)

-- what is told is one answer alone
pub told_one : (a b : Find) → ◌≡◌ {A = Reached Find} (Told a) (Told b) → a ≡ b
told_one a b same = cc

-- what is found of the characters of a text is none either
text_value : (form : TextForm) (bit : ℕ) (look : ℕ → Seen) (content : Content) (to : Span) (r : Reached TextRead) (t : Tally)
    → (go_on look (λ (text : TextRead). Answer (text_find form bit text)) r t).reached ≡ Told (Finds content to) → content ≡ Begun → ⊥
text_value form bit look content to (Told (DoesRead chars end)) t is unread =
    kept_read form (text_behind form.size bit end) (trimmed form.pad chars) content to
    (told_one (text_find form bit (DoesRead chars end)) (Finds content to) is) unread
text_value form bit look content to (Told HasBad) t is unread = absurd (cc)
text_value form bit look content to (Told IsCut) t is unread = absurd (cc)
text_value form bit look content to (Told IsBoxed) t is unread = absurd (cc)
text_value form bit look content to TooFar t is unread = absurd (cc)
text_value form bit look content to Missing t is unread = absurd (cc)

then_value : (form : TextForm) (bit : ℕ) (look : ℕ → Seen) (content : Content) (to : Span) (a : Ask TextRead)
    → (ask look (and_then a (λ (text : TextRead). Answer (text_find form bit text))) nothing).reached ≡ Told (Finds content to) → content ≡ Begun → ⊥
then_value form bit look content to a is unread =
    let whole = ask-then look (λ (text : TextRead). Answer (text_find form bit text)) a nothing in
    text_value form bit look content to (ask look a nothing).reached (ask look a nothing).tally
    (sym (ap (λ (r : Reading Find). r.reached) whole) ∙ is) unread

boxed_value : (form : TextForm) (bit first end : ℕ) (look : ℕ → Seen) (content : Content) (to : Span) (whole : Bool)
    → (ask look (cond whole
    (and_then (text_at form.encoding form.replaces extent.Box end (first / 8)) (λ (text : TextRead). Answer (text_find form bit text)))
    (Answer (Fails NotFilled))) nothing).reached ≡ Told (Finds content to) → content ≡ Begun → ⊥
boxed_value form bit first end look content to true is unread =
    then_value form bit look content to (text_at form.encoding form.replaces extent.Box end (first / 8)) is unread
boxed_value form bit first end look content to false is unread = absurd (cc)

-- so is what is found of a content that markup ends
delimited_read : (form : TextForm) (found : DelimitedContent) (ends : Step) (content : Content) (n : Span)
    → unless_broken ends (kept_find form (8 * found.last.byte) (plain (trimmed_content form.pad found.characters))) ≡ Finds content n
    → content ≡ Begun → ⊥
delimited_read form found (steps.Takes c escaped next) content n is unread =
    kept_read form (8 * found.last.byte) (plain (trimmed_content form.pad found.characters)) content n is unread
delimited_read form found (steps.Passes next) content n is unread =
    kept_read form (8 * found.last.byte) (plain (trimmed_content form.pad found.characters)) content n is unread
delimited_read form found (steps.Closes which) content n is unread =
    kept_read form (8 * found.last.byte) (plain (trimmed_content form.pad found.characters)) content n is unread
delimited_read form found steps.RunsOut content n is unread =
    kept_read form (8 * found.last.byte) (plain (trimmed_content form.pad found.characters)) content n is unread
delimited_read form found (steps.Fails cause) content n is unread = absurd (cc)

delimited_value : (form : TextForm) (look : ℕ → Seen) (content : Content) (to : Span) (r : Reached DelimitedContent) (t : Tally)
    → (go_on look (λ (found : DelimitedContent). Answer (delimited_find form found)) r t).reached ≡ Told (Finds content to) → content ≡ Begun → ⊥
delimited_value form look content to (Told found) t is unread =
    delimited_read form found found.ends content to (told_one (delimited_find form found) (Finds content to) is) unread
delimited_value form look content to TooFar t is unread = absurd (cc)
delimited_value form look content to Missing t is unread = absurd (cc)

then_delimited : (form : TextForm) (look : ℕ → Seen) (content : Content) (to : Span) (a : Ask DelimitedContent)
    → (ask look (and_then a (λ (found : DelimitedContent). Answer (delimited_find form found))) nothing).reached ≡ Told (Finds content to)
    → content ≡ Begun → ⊥
then_delimited form look content to a is unread =
    let whole = ask-then look (λ (found : DelimitedContent). Answer (delimited_find form found)) a nothing in
    delimited_value form look content to (ask look a nothing).reached (ask look a nothing).tally
    (sym (ap (λ (r : Reading Find). r.reached) whole) ∙ is) unread

sized_value : (form : TextForm) (size : TextSize) (lists : List Opened) (bit stop : ℕ) (look : ℕ → Seen) (content : Content) (to : Span)
    → (ask look (text_of_size form size lists bit stop) nothing).reached ≡ Told (Finds content to) → content ≡ Begun → ⊥
sized_value form (Bits n) lists bit stop look content to is unread =
    let first : ℕ = text_begins form.content (Bits n) bit in
    boxed_value form bit first (bit + n) look content to (nat_eq ((bit + n - first) % 8) 0) is unread
sized_value form (Delimited scan) lists bit stop look content to is unread =
    then_delimited form look content to (scanned lists scan bit stop) is unread
sized_value form (Counted n) lists bit stop look content to is unread =
    then_value form bit look content to (text_at form.encoding form.replaces (extent.Characters n) stop (aligned 8 bit / 8)) is unread

-- what is found of bytes that have to be nil is nil
nil_octets_read : (form : NilForm) (find : Find) (content : Content) (n : Span) → nil_octets_find form find ≡ Finds content n → content ≡ Begun → ⊥
nil_octets_read form (Fails cause) content n is unread = absurd (cc)
nil_octets_read form (Finds other span) content n is unread = absurd (cc)
nil_octets_read form (FindsOctets bytes span) content n is unread = nil_read span (are_nil form bytes) content n is unread
nil_octets_read form (FindsText bytes span) content n is unread = absurd (cc)

nil_octets_value : (form : NilForm) (look : ℕ → Seen) (content : Content) (to : Span) (r : Reached Find) (t : Tally)
    → (go_on look (λ (find : Find). Answer (nil_octets_find form find)) r t).reached ≡ Told (Finds content to) → content ≡ Begun → ⊥
nil_octets_value form look content to (Told find) t is unread =
    nil_octets_read form find content to (told_one (nil_octets_find form find) (Finds content to) is) unread
nil_octets_value form look content to TooFar t is unread = absurd (cc)
nil_octets_value form look content to Missing t is unread = absurd (cc)

then_nil_octets : (form : NilForm) (look : ℕ → Seen) (content : Content) (to : Span) (a : Ask Find)
    → (ask look (and_then a (λ (find : Find). Answer (nil_octets_find form find))) nothing).reached ≡ Told (Finds content to) → content ≡ Begun → ⊥
then_nil_octets form look content to a is unread =
    let whole = ask-then look (λ (find : Find). Answer (nil_octets_find form find)) a nothing in
    nil_octets_value form look content to (ask look a nothing).reached (ask look a nothing).tally
    (sym (ap (λ (r : Reading Find). r.reached) whole) ∙ is) unread

-- and what is found of no bits is a value
default_value : (v : Value) (bit : ℕ) (look : ℕ → Seen) (content : Content) (to : Span) (none : Bool)
    → (ask look (Answer (cond none (default_find bit v) (Fails RequiredEmpty))) nothing).reached ≡ Told (Finds content to) → content ≡ Begun → ⊥
default_value v bit look content to true is unread =
    default_read bit v content to (told_one (default_find bit v) (Finds content to) is) unread
default_value v bit look content to false is unread = absurd (cc)

-- so is what is found of a content without bits that its first step ends
step_read : (v : Value) (bit : ℕ) (step : Step) (content : Content) (n : Span) → default_by_step v bit step ≡ Finds content n → content ≡ Begun → ⊥
step_read v bit (steps.Takes c escaped next) content n is unread = absurd (cc)
step_read v bit (steps.Passes next) content n is unread = absurd (cc)
step_read v bit (steps.Closes which) content n is unread = default_read bit v content n is unread
step_read v bit steps.RunsOut content n is unread = default_read bit v content n is unread
step_read v bit (steps.Fails cause) content n is unread = absurd (cc)

step_value : (v : Value) (bit : ℕ) (look : ℕ → Seen) (content : Content) (to : Span) (r : Reached Step) (t : Tally)
    → (go_on look (λ (step : Step). Answer (default_by_step v bit step)) r t).reached ≡ Told (Finds content to) → content ≡ Begun → ⊥
step_value v bit look content to (Told step) t is unread =
    step_read v bit step content to (told_one (default_by_step v bit step) (Finds content to) is) unread
step_value v bit look content to TooFar t is unread = absurd (cc)
step_value v bit look content to Missing t is unread = absurd (cc)

then_step : (v : Value) (bit : ℕ) (look : ℕ → Seen) (content : Content) (to : Span) (a : Ask Step)
    → (ask look (and_then a (λ (step : Step). Answer (default_by_step v bit step))) nothing).reached ≡ Told (Finds content to) → content ≡ Begun → ⊥
then_step v bit look content to a is unread =
    let whole = ask-then look (λ (step : Step). Answer (default_by_step v bit step)) a nothing in
    step_value v bit look content to (ask look a nothing).reached (ask look a nothing).tally
    (sym (ap (λ (r : Reading Find). r.reached) whole) ∙ is) unread

default_sized : (v : Value) (lists : List Opened) (size : TextSize) (bit stop : ℕ) (look : ℕ → Seen) (content : Content) (to : Span)
    → (ask look (default_of_size v lists size bit stop) nothing).reached ≡ Told (Finds content to) → content ≡ Begun → ⊥
default_sized v lists (Bits n) bit stop look content to is unread = default_value v bit look content to (is_no_size (Bits n)) is unread
default_sized v lists (Counted n) bit stop look content to is unread = default_value v bit look content to (is_no_size (Counted n)) is unread
default_sized v lists (Delimited scan) bit stop look content to is unread =
    then_step v (aligned 8 bit) look content to (first_step lists scan bit stop) is unread

-- the number of bytes that a pattern matches is one
pattern_value : (form : PatternForm) (first : ℕ) (look : ℕ → Seen) (content : Content) (to : Span) (r : Reached TextRead) (t : Tally)
    → (go_on look (λ (text : TextRead). Answer (pattern_find form first text)) r t).reached ≡ Told (Finds content to) → content ≡ Begun → ⊥
pattern_value form first look content to (Told (DoesRead chars end)) t is unread = absurd (cc)
pattern_value form first look content to (Told HasBad) t is unread = absurd (cc)
pattern_value form first look content to (Told IsCut) t is unread = absurd (cc)
pattern_value form first look content to (Told IsBoxed) t is unread = absurd (cc)
pattern_value form first look content to TooFar t is unread = absurd (cc)
pattern_value form first look content to Missing t is unread = absurd (cc)

then_pattern : (form : PatternForm) (first : ℕ) (look : ℕ → Seen) (content : Content) (to : Span) (a : Ask TextRead)
    → (ask look (and_then a (λ (text : TextRead). Answer (pattern_find form first text))) nothing).reached ≡ Told (Finds content to)
    → content ≡ Begun → ⊥
then_pattern form first look content to a is unread =
    let whole = ask-then look (λ (text : TextRead). Answer (pattern_find form first text)) a nothing in
    pattern_value form first look content to (ask look a nothing).reached (ask look a nothing).tally
    (sym (ap (λ (r : Reading Find). r.reached) whole) ∙ is) unread

-- what a leaf finds is a value, if it is no bytes
value : (look : ℕ → Seen) (lists : List Opened) (primitive : Primitive) (bit stop : ℕ) (content : Content) (to : Span)
    → (ask look (program lists primitive bit stop) nothing).reached ≡ Told (Finds content to) → content ≡ Begun → ⊥
value look lists (Integer form) bit stop content to is unread = field_value look (Integer form) bit content to is unread
value look lists (Packed form) bit stop content to is unread = field_value look (Packed form) bit content to is unread
value look lists (Truth form) bit stop content to is unread = field_value look (Truth form) bit content to is unread
value look lists (Octets form) bit stop content to is unread =
    octets_value look form bit content to (nat_eq form.bits 0) (nat_eq (form.bits % 8) 0) is unread
value look lists (Characters form) bit stop content to is unread = sized_value form form.size lists bit stop look content to is unread
value look lists (NilOctets form) bit stop content to is unread = then_nil_octets form.nil look content to (octets form.octets bit) is unread
value look lists (Default form) bit stop content to is unread = default_sized form.value lists form.size bit stop look content to is unread
value look lists (NilValues form) bit stop content to is unread = absurd (cc)
value look lists (Pattern form) bit stop content to is unread =
    then_pattern form bit look content to (text_sought form (aligned 8 bit) stop) is unread

-- so is what has to be one of some values
nil_value_read : (values : List Value) (find : Find) (content : Content) (n : Span) → nil_value_find values find ≡ Finds content n → content ≡ Begun → ⊥
nil_value_read values (Fails cause) content n is unread = absurd (cc)
nil_value_read values (Finds other span) content n is unread = nil_read span (list_any (is_value other) values) content n is unread
nil_value_read values (FindsOctets bytes span) content n is unread = nil_read span (list_any (is_bytes bytes) values) content n is unread
nil_value_read values (FindsText bytes span) content n is unread = nil_read span (list_any (is_text bytes) values) content n is unread

nil_value_value : (values : List Value) (look : ℕ → Seen) (content : Content) (to : Span) (r : Reached Find) (t : Tally)
    → (go_on look (λ (find : Find). Answer (nil_value_find values find)) r t).reached ≡ Told (Finds content to) → content ≡ Begun → ⊥
nil_value_value values look content to (Told find) t is unread =
    nil_value_read values find content to (told_one (nil_value_find values find) (Finds content to) is) unread
nil_value_value values look content to TooFar t is unread = absurd (cc)
nil_value_value values look content to Missing t is unread = absurd (cc)

pub value-for : (look : ℕ → Seen) (nil : Option (List Value)) (lists : List Opened) (primitive : Primitive) (bit stop : ℕ) (content : Content) (to : Span)
    → (ask look (program_for nil lists primitive bit stop) nothing).reached ≡ Told (Finds content to) → content ≡ Begun → ⊥
value-for look None lists primitive bit stop content to is unread = value look lists primitive bit stop content to is unread
value-for look (Some values) lists primitive bit stop content to is unread =
    let a : Ask Find = program lists primitive bit stop in
    let whole = ask-then look (λ (find : Find). Answer (nil_value_find values find)) a nothing in
    nil_value_value values look content to (ask look a nothing).reached (ask look a nothing).tally
    (sym (ap (λ (r : Reading Find). r.reached) whole) ∙ is) unread

-- whole data have no byte that hasn't come
no-missing : {F : Type 0} (bytes : List ℕ) (size low : ℕ) (go : Option ℕ → Ask F) (k : ℕ) (t : Tally)
    → ((o : Option ℕ) (u : Tally) → (ask (seen_in bytes size low) (go o) u).reached ≡ Missing → ⊥)
    → (over inside : Bool) → (on_seen (seen_in bytes size low) go k t (cond over Over (cond inside (Byte (get_or bytes k 0)) DataEnded))).reached ≡ Missing → ⊥
no-missing bytes size low go k t more true inside missing = absurd (cc)
no-missing bytes size low go k t more false true missing = more (Some (get_or bytes k 0)) (saw_byte k t) missing
no-missing bytes size low go k t more false false missing = more None (saw_end k t) missing

pub whole-told : {F : Type 0} (bytes : List ℕ) (size low : ℕ) (a : Ask F) (t : Tally) → (ask (seen_in bytes size low) a t).reached ≡ Missing → ⊥
whole-told bytes size low (Answer f) t missing = absurd (cc)
whole-told bytes size low (Look k go) t missing =
    no-missing bytes size low go k t (λ o u more. whole-told bytes size low (go o) u more) (leb size (k - low)) (ltb k (length bytes)) missing
