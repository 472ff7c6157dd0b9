-- Where the looks of a leaf lie.
use Rattle.std.proofs.Common.{ℕ, zero, suc, ◌+◌, ◌-◌, ◌/◌, ◌%◌, ◌≤◌, min, Bool, true, false, cond, nat_eq, List, [], Option, Some, None, arith}
use Rattle.dfdl_looks.specs.Asks.{Ask, Answer, Look, AsksFrom, and_then}
use Rattle.dfdl_looks.proofs.Sequels.{and_then-from}
use Rattle.dfdl_looks.proofs.Stretched.{look_at-from}
use Rattle.dfdl_report.specs.declared.cause.ParseCause.TheVariants.{DataEnds, NotFilled}
use Rattle.dfdl_value.specs.declared.value.Value.{Value}
use Rattle.dfdl_delims.specs.Lists.{Opened}
use Rattle.dfdl_escapes.specs.Contents.{Content as DelimitedContent}
use Rattle.dfdl_escapes.specs.Steps.{Step}
use Rattle.dfdl_terms.specs.declared.row.Primitive.{Primitive}
use Rattle.dfdl_terms.specs.declared.row.Primitive.TheVariants.{Integer, Packed, Truth, Octets, Text, NilOctets, Default, NilValues, Pattern}
use Rattle.dfdl_terms.specs.declared.text.OctetForm.{OctetForm}
use Rattle.dfdl_terms.specs.declared.text.TextContent.{TextContent}
use Rattle.dfdl_terms.specs.declared.text.TextContent.TheVariants.{Plain, Octets as TextOctets, Number, Zoned, Truth as TextTruth, Nil}
use Rattle.dfdl_terms.specs.declared.text.TextForm.{TextForm}
use Rattle.dfdl_terms.specs.declared.text.TextSize.{TextSize}
use Rattle.dfdl_terms.specs.declared.text.TextSize.TheVariants.{Bits, Characters, Delimited}
use Rattle.dfdl_texts.specs.Texts.{Text as TextRead, text_at}
use Rattle.dfdl_texts.specs.declared.extent.Extent.{Extent}
use Rattle.dfdl_texts.specs.declared.extent.Extent.TheVariants as extent
use Rattle.dfdl_texts.proofs.Whole.{text-from}
use Rattle.dfdl_grammar.specs.Framing.{aligned}
use Rattle.dfdl_grammar.specs.Delimited.{first_step, scanned}
use Rattle.dfdl_grammar.specs.Patterns.{most_sought}
use Rattle.dfdl_grammar.specs.Leaves.{Find, Fails, FindsOctets, bits_of, bytes_spanned, default_by_step, default_of_size, delimited_find, empty_begins, field, find_in, nil_octets_find, nil_value_find, octets, pattern_find, program, program_for, text_begins, text_find, text_of_size, text_sought}
use Rattle.dfdl_grammar.specs.Spans.{vacant}
use Rattle.dfdl_leaves.proofs.Scans.{first-from, scanned-from}

-- looks that lie behind a byte lie behind one before it
pub lower : {F : Type 0} (low k : ℕ) → low ≤ k → (a : Ask F) → AsksFrom k a → AsksFrom low a
lower low k before (Answer f) from = tt
lower low k before (Look j next) from = (omega (arith, from.0), λ o. lower low k before (next o) (from.1 o))

-- a program that is one of two by a test
from-either : (low : ℕ) (test : Bool) (p q : Ask Find) → AsksFrom low p → AsksFrom low q → AsksFrom low (cond test p q)
from-either low true p q first second = first
from-either low false p q first second = second

-- a text begins at its box or behind it
empty_begins-behind : (content : TextContent) (bit : ℕ) → bit ≤ empty_begins content bit
empty_begins-behind Plain bit = omega arith
empty_begins-behind TextOctets bit = omega arith
empty_begins-behind (Number form kind) bit = omega arith
empty_begins-behind (Zoned form) bit = omega arith
empty_begins-behind (TextTruth form) bit = omega arith
empty_begins-behind (Nil form) bit = omega arith

pub text_begins-behind : (content : TextContent) (size : TextSize) (bit : ℕ) → bit ≤ text_begins content size bit
text_begins-behind content (Bits zero) bit = empty_begins-behind content bit
text_begins-behind content (Bits (suc bits)) bit = omega arith
text_begins-behind content (Characters count) bit = omega arith
text_begins-behind content (Delimited scan) bit = omega arith

-- the program of a text from a byte on
characters-from : (form : TextForm) (of : Extent) (bit stop low k : ℕ) → low ≤ k
    → AsksFrom low (and_then (text_at form.encoding form.replaces of stop k) (λ text. Answer (text_find form bit text)))
characters-from form of bit stop low k before =
    and_then-from low (text_at form.encoding form.replaces of stop k) (λ text. Answer (text_find form bit text))
    (lower low k before (text_at form.encoding form.replaces of stop k) (text-from form.encoding form.replaces of stop k)) (λ text. tt)

size-from : (low : ℕ) (form : TextForm) (size : TextSize) (lists : List Opened) (bit stop : ℕ) → low ≤ bit / 8 → AsksFrom low (text_of_size form size lists bit stop)
size-from low form (Bits bits) lists bit stop base =
    let first : ℕ = text_begins form.content (Bits bits) bit in
    let behind : bit ≤ first = text_begins-behind form.content (Bits bits) bit in
    from-either low (nat_eq ((bit + bits - first) % 8) 0)
    (and_then (text_at form.encoding form.replaces extent.Box (bit + bits) (first / 8)) (λ text. Answer (text_find form bit text)))
    (Answer (Fails NotFilled)) (characters-from form extent.Box bit (bit + bits) low (first / 8) (omega arith)) tt
size-from low form (Characters count) lists bit stop base =
    characters-from form (extent.Characters count) bit stop low (aligned 8 bit / 8) (omega arith)
size-from low form (Delimited scan) lists bit stop base =
    let content : Ask DelimitedContent = scanned lists scan bit stop in
    and_then-from low content (λ content. Answer (delimited_find form content))
    (lower low (aligned 8 bit / 8) (omega arith) content (scanned-from lists scan bit stop)) (λ content. tt)

-- the program of an empty representation
default-from : (low : ℕ) (value : Value) (lists : List Opened) (size : TextSize) (bit stop : ℕ) → low ≤ bit / 8
    → AsksFrom low (default_of_size value lists size bit stop)
default-from low value lists (Bits bits) bit stop base = tt
default-from low value lists (Characters count) bit stop base = tt
default-from low value lists (Delimited scan) bit stop base =
    let first : Ask Step = first_step lists scan bit stop in
    and_then-from low first (λ step. Answer (default_by_step value (aligned 8 bit) step))
    (lower low (aligned 8 bit / 8) (omega arith) first (first-from lists scan bit stop)) (λ step. tt)

field-from : (low : ℕ) (primitive : Primitive) (bit : ℕ) → low ≤ bit / 8 → AsksFrom low (field primitive bit)
field-from low primitive bit base =
    look_at-from (bytes_spanned bit (bits_of primitive)) low (bit / 8) (Fails DataEnds) (find_in primitive bit) base

octets-from : (low : ℕ) (form : OctetForm) (bit : ℕ) → low ≤ bit / 8 → AsksFrom low (octets form bit)
octets-from low form bit base =
    let whole : Ask Find = cond (nat_eq (form.bits % 8) 0) (field (Octets form) bit) (Answer (Fails NotFilled)) in
    from-either low (nat_eq form.bits 0) (Answer (FindsOctets [] (vacant bit))) whole tt
    (from-either low (nat_eq (form.bits % 8) 0) (field (Octets form) bit) (Answer (Fails NotFilled)) (field-from low (Octets form) bit base) tt)

-- each look of a leaf is at the byte of its box's first bit or behind it
program-from : (low : ℕ) (lists : List Opened) (primitive : Primitive) (bit stop : ℕ) → low ≤ bit / 8 → AsksFrom low (program lists primitive bit stop)
program-from low lists (Integer form) bit stop base = field-from low (Integer form) bit base
program-from low lists (Packed form) bit stop base = field-from low (Packed form) bit base
program-from low lists (Truth form) bit stop base = field-from low (Truth form) bit base
program-from low lists (Octets form) bit stop base = octets-from low form bit base
program-from low lists (Text form) bit stop base = size-from low form form.size lists bit stop base
program-from low lists (NilOctets form) bit stop base =
    and_then-from low (octets form.octets bit) (λ find. Answer (nil_octets_find form.nil find)) (octets-from low form.octets bit base) (λ find. tt)
program-from low lists (Default form) bit stop base = default-from low form.value lists form.size bit stop base
program-from low lists (NilValues form) bit stop base = tt
program-from low lists (Pattern form) bit stop base =
    let first : ℕ = aligned 8 bit in
    let text : Ask TextRead = text_sought form first stop in
    and_then-from low text (λ text. Answer (pattern_find form bit text))
    (lower low (first / 8) (omega arith) text (text-from form.encoding false extent.Front (min stop (first + most_sought)) (first / 8))) (λ text. tt)

pub program_for-from : (low : ℕ) (nil : Option (List Value)) (lists : List Opened) (primitive : Primitive) (bit stop : ℕ) → low ≤ bit / 8
    → AsksFrom low (program_for nil lists primitive bit stop)
program_for-from low None lists primitive bit stop base = program-from low lists primitive bit stop base
program_for-from low (Some values) lists primitive bit stop base =
    and_then-from low (program lists primitive bit stop) (λ find. Answer (nil_value_find values find)) (program-from low lists primitive bit stop base) (λ find. tt)
