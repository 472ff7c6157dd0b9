-- Texts without a breach: what their characters are read as.
use Rattle.std.proofs.Common.{◌≡◌, refl, sym, ap, subst, ◌∙◌, ℕ, List, ◌==◌, Option, Some, None, Bool, true, false, not, if◌then◌else◌, ◌&&◌, ◌||◌, nat_lt, option_and_then, option_map, is_some, codes, arith}
use Rattle.std.specs.Str.{chars}
use Rattle.dfdl_forms.specs.Binary.{most_bits}
use Rattle.dfdl_forms.specs.NumberForms.{are_plain, goes_with, is_base}
use Rattle.dfdl_forms.specs.Types.{form_of}
use Rattle.dfdl_forms.specs.declared.encoding.Encoding.{Encoding}
use Rattle.dfdl_forms.specs.declared.number.NumberForm.{NumberForm}
use Rattle.dfdl_forms.specs.declared.number_pattern.NumberPattern.{NumberPattern}
use Rattle.dfdl_forms.specs.declared.simple.Form.{Form}
use Rattle.dfdl_forms.specs.declared.simple.Form.TheVariants as forms
use Rattle.dfdl_forms.specs.declared.simple.Simple.{Simple}
use Rattle.dfdl_forms.specs.declared.text.PadForm.{PadForm}
use Rattle.dfdl_literals.specs.PadSteps.{pad_reading}
use Rattle.dfdl_literals.specs.declared.pad.PadCharacter.{PadCharacter}
use Rattle.dfdl_literals.specs.declared.pad.PadCharacter.TheVariants as pads
use Rattle.dfdl_literals.specs.declared.text_lists.TextList.{TextList}
use Rattle.dfdl_literals.specs.declared.text_lists.TextList.TheVariants.{Texts, Malformed, Other}
use Rattle.dfdl_scope.specs.Expressions.{is_expression, literal}
use Rattle.dfdl_scope.specs.Scoping.{Told, Value, Absent, Twice}
use Rattle.dfdl_scope.specs.Table.{row, Absence, Formed, Else, Missing, property_table}
use Rattle.dfdl_scope.specs.declared.row.Form.TheVariants as values
use Rattle.dfdl_terms.specs.declared.text.TextContent.{TextContent}
use Rattle.dfdl_terms.specs.declared.text.TextContent.TheVariants.{Plain, Zoned, Truth}
use Rattle.dfdl_terms.specs.declared.text.TextSize.{TextSize}
use Rattle.dfdl_terms.specs.declared.text.TextSize.TheVariants.{Delimited}
use Rattle.dfdl_checks.proofs.Binary.{IsSound}
use Rattle.dfdl_checks.proofs.BoxBounds.{none-some, some-is}
use Rattle.dfdl_checks.proofs.Built.{all-hold, built-at, no-flaw, once-at}
use Rattle.dfdl_checks.proofs.Flawless.{HasBuilt, HasNoFlaw}
use Rattle.dfdl_checks.proofs.Kept.{IsKept, literals-kept, values-kept}
use Rattle.dfdl_checks.proofs.Once.{is_twice}
use Rattle.dfdl_checks.proofs.SoundBoxes.{some-encoding, some-mapped, value-units}
use Rattle.dfdl_checks.proofs.SoundPads.{some-single}
use Rattle.dfdl_checks.proofs.Types.{IsOfForm}
use Rattle.dfdl_checks.specs.BooleanTexts.{false_texts, is_list_malformed, is_list_other, true_texts, truth_form_of, truth_texts}
use Rattle.dfdl_checks.specs.Boxes.{box_units}
use Rattle.dfdl_checks.specs.Encodings.{encoding_told}
use Rattle.dfdl_checks.specs.Flaws.{has_flaw}
use Rattle.dfdl_checks.specs.Judged.{Judged}
use Rattle.dfdl_checks.specs.NumberTexts.{base_of, decimal_at, form_by, grouping_at, number_form_of, pattern_at, pattern_in, pattern_of, pattern_text, rounding_of, zoned_form_of}
use Rattle.dfdl_checks.specs.Pads.{character_told, is_malformed, is_other, is_other_told, single}
use Rattle.dfdl_checks.specs.Rules.{are_separators_unfit, are_truth_numbers_malformed, are_truth_texts_malformed, are_unfit, is_base_unfit, is_pad_malformed, is_prefix_type_missing, is_separator_malformed, is_separator_other, is_standard_pattern_malformed, is_zoned_pattern_malformed}
use Rattle.dfdl_checks.specs.Subjects.{has_delimited_length, is_boolean, is_characters, is_hex_binary, is_standard, is_string, is_text, is_text_boolean, is_text_number, is_told, is_truths, is_zoned, number_bits, simple_of, told_at}
use Rattle.dfdl_checks.specs.Table.{EveryValue, applicability_table}
use Rattle.dfdl_checks.specs.Texts.{boxed_size, content_of, number_text, pad_of, replaces_at, scan_of, text_by, text_in, text_of, text_size}
use Rattle.dfdl_checks.specs.declared.applicability.Bearers.TheVariants as bearers
use Rattle.dfdl_checks.specs.declared.flaw.Flaw.TheVariants as flaws
use Rattle.dfdl_checks.specs.declared.subject.Kind.{Kind}
use Rattle.dfdl_checks.specs.declared.subject.Kind.TheVariants.{ComplexElement, SimpleElement, UncarriedElement, CalculatedElement, Sequence, HiddenSequence, Choice, PrefixNumber}

-- two lists of texts stand for true and false
some-truths : (truths falses : TextList) (fold : Bool) → (is_list_malformed truths || is_list_malformed falses) ≡ false
    → (is_list_other truths || is_list_other falses) ≡ false → is_some (truth_texts truths falses fold) ≡ true
some-truths (Texts t) (Texts f) fold x y = refl
some-truths Malformed f fold x y = grind (arith, x)
some-truths Other f fold x y = grind (arith, y)
some-truths (Texts t) Malformed fold x y = grind (arith, x)
some-truths (Texts t) Other fold x y = grind (arith, y)

-- a text boolean has its texts
as-truth : (s : Judged) → IsKept s → is_text_boolean s ≡ true → is_some (truth_form_of s) ≡ true
as-truth s kept boolean =
    some-truths (true_texts s) (false_texts s) (is_told s (codes "ignoreCase") (codes "yes"))
    (third (is_pad_malformed s) (is_separator_malformed s) (is_text_boolean s) _ boolean (literals-kept s kept))
    (second (are_truth_numbers_malformed s) (is_text_boolean s) _ boolean kept.truths)
  where
    third : (a b c d : Bool) → c ≡ true → (a || b || (c && d)) ≡ false → d ≡ false
    third a b c d x y = grind (arith, x, y)

    second : (a b c : Bool) → b ≡ true → (a || (b && c)) ≡ false → c ≡ false
    second a b c x y = grind (arith, x, y)

-- the text of a pattern is told
pattern-told : (name : List ℕ) (t : Told) → HasBuilt (row name (Formed values.NumberPattern) Missing) EveryValue t → is_some (pattern_text t) ≡ true
pattern-told name t has =
    subst (λ t. is_some (pattern_text t) ≡ true) (sym has.is) (by (is_expression has.written) has.value)
  where
    by : (e : Bool) → (if e then false else true) ≡ true → is_some (if e then None else Some (literal has.written)) ≡ true
    by false is = refl
    by true is = grind (arith, is)

some-pattern : (s : Judged) → IsKept s → (is_zoned s || (is_standard s && base_of s == 10)) ≡ true → is_some (pattern_at s) ≡ true
unfolding applicability_table property_table
some-pattern s kept is =
    pattern-told (codes "textNumberPattern") _
    (built-at s kept 53 (codes "textNumberPattern") bearers.PatternNumbers EveryValue refl is _ refl refl)

-- the pattern of a zoned number of the type, where it is told, has a form
abbrev IsZonedKept : Judged → Simple → Type 0
IsZonedKept s simple = (is_zoned s && (is_some (pattern_at s) && not (is_some (zoned_form_of s simple)))) ≡ false

zoned-rule : (s : Judged) (kind : Kind) (simple : Simple) → simple_of kind ≡ Some simple → is_zoned_pattern_malformed s kind ≡ false → IsZonedKept s simple
zoned-rule s ComplexElement simple is kept = absurd (none-some _ is)
zoned-rule s (SimpleElement t) simple is kept = subst (λ t. IsZonedKept s t) (some-is t simple is) kept
zoned-rule s UncarriedElement simple is kept = absurd (none-some _ is)
zoned-rule s (CalculatedElement t) simple is kept = absurd (none-some _ is)
zoned-rule s Sequence simple is kept = absurd (none-some _ is)
zoned-rule s HiddenSequence simple is kept = absurd (none-some _ is)
zoned-rule s Choice simple is kept = absurd (none-some _ is)
zoned-rule s (PrefixNumber t) simple is kept = subst (λ t. IsZonedKept s t) (some-is t simple is) kept

-- so a zoned number has a form
as-zoned : (s : Judged) (simple : Simple) → IsKept s → simple_of s.kind ≡ Some simple → is_zoned s ≡ true → is_some (zoned_form_of s simple) ≡ true
as-zoned s simple kept kind zoned =
    last (is_zoned s) (is_some (pattern_at s)) (is_some (zoned_form_of s simple)) zoned (some-pattern s kept (first (is_zoned s) _ zoned))
    (zoned-rule s s.kind simple kind (second (is_standard_pattern_malformed s) _ kept.pattern))
  where
    first : (a b : Bool) → a ≡ true → (a || b) ≡ true
    first a b x = grind (arith, x)

    second : (a b : Bool) → (a || b) ≡ false → b ≡ false
    second a b x = grind (arith, x)

    last : (a b c : Bool) → a ≡ true → b ≡ true → (a && (b && not c)) ≡ false → c ≡ true
    last a b c x y z = grind (arith, x, y, z)

-- a separator without a flaw is a character
separator-told : (name : List ℕ) (absent : Absence) (c : ℕ) (t : Told) → HasNoFlaw (row name (Formed values.Character) absent) EveryValue t
    → is_twice t ≡ false → is_malformed (character_told c t) ≡ false → is_other_told t ≡ false → is_some (single (character_told c t)) ≡ true
separator-told name absent c (Value w) none once written other =
    some-single (character_told c (Value w)) written (by (is_expression w) (pad_reading (chars (literal w))) none.expression other)
  where
    by : (e : Bool) (p : PadCharacter) → (e && true) ≡ false → (not e && is_other p) ≡ false → is_other (if e then pads.Other else p) ≡ false
    by true p x y = grind (arith, x)
    by false p x y = y
separator-told name absent c Absent none once written other = refl
separator-told name absent c (Twice place) none once written other = grind (arith, once)

-- a standard number's separators are characters
module _ (s : Judged) (kept : IsKept s) (standard : is_standard s ≡ true) where
  -- what no separator of it is
  written : (is_malformed (decimal_at s) || is_malformed (grouping_at s)) ≡ false
  written = second-of (is_pad_malformed s) (is_standard s) _ (are_truth_texts_malformed s) standard (literals-kept s kept)
    where
      second-of : (a b c d : Bool) → b ≡ true → (a || (b && c) || d) ≡ false → c ≡ false
      second-of a b c d x y = grind (arith, x, y)

  others : (is_other_told (told_at s (codes "textStandardDecimalSeparator")) || is_other_told (told_at s (codes "textStandardGroupingSeparator"))) ≡ false
  others = second-of (has_flaw flaws.NotCarried s) (is_standard s) _ (are_separators_unfit s) (is_base_unfit s) (is_prefix_type_missing s) standard (values-kept s kept)
    where
      second-of : (a b c d e f : Bool) → b ≡ true → (a || (b && c) || d || e || f) ≡ false → c ≡ false
      second-of a b c d e f x y = grind (arith, x, y)

  neither : (a b : Bool) → (a || b) ≡ false → (a ≡ false) × (b ≡ false)
  neither a b h = (grind (arith, h), grind (arith, h))

  some-decimal : is_some (single (decimal_at s)) ≡ true
  unfolding applicability_table property_table
  some-decimal =
      separator-told (codes "textStandardDecimalSeparator") (Else (codes ".")) 46 _
      (no-flaw s kept 55 (codes "textStandardDecimalSeparator") bearers.StandardNumbers EveryValue refl standard _ refl)
      (once-at s kept (codes "textStandardDecimalSeparator") _ refl) (neither (is_malformed (decimal_at s)) (is_malformed (grouping_at s)) written).0
      (neither (is_other_told (told_at s (codes "textStandardDecimalSeparator"))) (is_other_told (told_at s (codes "textStandardGroupingSeparator"))) others).0

  some-grouping : is_some (single (grouping_at s)) ≡ true
  unfolding applicability_table property_table
  some-grouping =
      separator-told (codes "textStandardGroupingSeparator") (Else (codes ",")) 44 _
      (no-flaw s kept 56 (codes "textStandardGroupingSeparator") bearers.StandardNumbers EveryValue refl standard _ refl)
      (once-at s kept (codes "textStandardGroupingSeparator") _ refl) (neither (is_malformed (decimal_at s)) (is_malformed (grouping_at s)) written).1
      (neither (is_other_told (told_at s (codes "textStandardDecimalSeparator"))) (is_other_told (told_at s (codes "textStandardGroupingSeparator"))) others).1

  -- it has a pattern exactly in base ten
  goes : goes_with (base_of s) (pattern_in (base_of s) s) ≡ true
  goes = by (base_of s == 10) refl
    where
      first-of : (a b c d e : Bool) → a ≡ true → b ≡ true → c ≡ true → ((a && (b && (c && not d))) || e) ≡ false → d ≡ true
      first-of a b c d e x y z kept = grind (arith, x, y, z, kept)

      second-holds : (a b c : Bool) → b ≡ true → c ≡ true → (a || (b && c)) ≡ true
      second-holds a b c x y = grind (arith, x, y)

      goes-told : (base : ℕ) (o : Option NumberPattern) → (base == 10) ≡ true → is_some o ≡ true → goes_with base o ≡ true
      goes-told base (Some p) ten some = ten
      goes-told base None ten some = grind (arith, some)

      other : (b : Bool) → b ≡ false → not b ≡ true
      other b is = grind (arith, is)

      by : (b : Bool) → (base_of s == 10) ≡ b → goes_with (base_of s) (if b then pattern_of (pattern_at s) else None) ≡ true
      by true ten =
          goes-told (base_of s) (pattern_of (pattern_at s)) ten
          (first-of (is_standard s) (base_of s == 10) (is_some (pattern_at s)) (is_some (pattern_of (pattern_at s))) (is_zoned_pattern_malformed s s.kind) standard ten
          (some-pattern s kept (second-holds (is_zoned s) (is_standard s) (base_of s == 10) standard ten)) kept.pattern)
      by false apart = other (base_of s == 10) apart

  -- its separators go with the pattern
  fit : are_unfit (pattern_in (base_of s) s) (single (decimal_at s)) (single (grouping_at s)) ≡ false
  fit = third-of (has_flaw flaws.NotCarried s) (is_separator_other s) (is_standard s) _ (is_base_unfit s) (is_prefix_type_missing s) standard (values-kept s kept)
    where
      third-of : (a b c d e f : Bool) → c ≡ true → (a || b || (c && d) || e || f) ≡ false → d ≡ false
      third-of a b c d e f x y = grind (arith, x, y)

  -- so it has a form
  pub as-standard : is_some (number_form_of s) ≡ true
  as-standard =
      by (pattern_in (base_of s) s) (single (decimal_at s)) (single (grouping_at s)) goes some-decimal some-grouping fit
    where
      base : (a b c : Bool) → is_base (if a then 2 else if b then 8 else if c then 16 else 10) ≡ true
      base true b c = refl
      base false true c = refl
      base false false true = refl
      base false false false = refl

      plain : (o : Option NumberPattern) (d g : ℕ) → are_unfit o (Some d) (Some g) ≡ false → are_plain o d g ≡ true
      plain None d g fits = refl
      plain (Some p) d g fits = turned (are_plain (Some p) d g) fits
        where
          turned : (b : Bool) → not b ≡ false → b ≡ true
          turned b h = grind (arith, h)

      together : (a b c : Bool) → a ≡ true → b ≡ true → c ≡ true → (a && (b && c)) ≡ true
      together a b c x y z = grind (arith, x, y, z)

      by : (o : Option NumberPattern) (d g : Option ℕ) → goes_with (base_of s) o ≡ true → is_some d ≡ true → is_some g ≡ true → are_unfit o d g ≡ false
          → is_some (form_by (base_of s) o d g (rounding_of s)) ≡ true
      by o (Some d) (Some g) pattern x y fits =
          ap (λ b. is_some {T = NumberForm} (if b then Some (record { base = base_of s; pattern = o; decimal = d; grouping = g; rounding = rounding_of s }) else None))
          (together (is_base (base_of s)) (goes_with (base_of s) o) (are_plain o d g)
          (base (is_told s (codes "textStandardBase") (codes "2")) (is_told s (codes "textStandardBase") (codes "8")) (is_told s (codes "textStandardBase") (codes "16")))
          pattern (plain o d g fits))
      by o None g pattern x y fits = grind (arith, x)
      by o (Some d) None pattern x y fits = grind (arith, y)

-- what is true or false is no number
pub truth-no-number : (form : Form) → is_truths form ≡ true → nat_lt 0 (most_bits form) ≡ false
truth-no-number (forms.Signed bits) is = grind (arith, is)
truth-no-number (forms.Unsigned bits) is = grind (arith, is)
truth-no-number forms.Fixed is = grind (arith, is)
truth-no-number forms.Characters is = grind (arith, is)
truth-no-number forms.Truths is = refl
truth-no-number forms.Octets is = grind (arith, is)

-- whether a text is a boolean or a number follows from the form of its values
text-boolean : (s : Judged) (form : Form) → IsOfForm s.kind form → is_text s ≡ true → is_characters form ≡ false → is_truths form ≡ true
    → is_text_boolean s ≡ true
text-boolean s form of text no-string truths =
    last (is_string s.kind) (nat_lt 0 (number_bits s.kind)) (is_told s (codes "representation") (codes "text")) (is_text_boolean s)
    (of.string ∙ no-string) (ap (nat_lt 0) of.number_size ∙ truth-no-number form truths) text
  where
    last : (a b c d : Bool) → a ≡ false → b ≡ false → (a || (b && c) || d) ≡ true → d ≡ true
    last a b c d x y z = grind (arith, x, y, z)

text-number : (s : Judged) (form : Form) → IsOfForm s.kind form → is_text s ≡ true → is_characters form ≡ false → is_truths form ≡ false
    → is_text_number s ≡ true
text-number s form of text no-string no-truths =
    middle (is_string s.kind) (is_text_number s) (is_boolean s.kind) (is_told s (codes "representation") (codes "text"))
    (of.string ∙ no-string) (of.boolean ∙ no-truths) text
  where
    middle : (a b c d : Bool) → a ≡ false → c ≡ false → (a || b || (c && d)) ≡ true → b ≡ true
    middle a b c d x y z = grind (arith, x, y, z)

-- the characters of a text are read as something
some-content : (s : Judged) (sound : IsSound s) → is_text s ≡ true → is_some (content_of s sound.simple) ≡ true
some-content s sound text =
    by (is_characters (form_of sound.simple)) (is_truths (form_of sound.simple)) (is_told s (codes "textNumberRep") (codes "zoned")) refl refl refl
  where
    by : (a b z : Bool) → is_characters (form_of sound.simple) ≡ a → is_truths (form_of sound.simple) ≡ b → is_told s (codes "textNumberRep") (codes "zoned") ≡ z
        → is_some (if a then Some Plain else if b then option_map Truth (truth_form_of s)
        else if z then option_map Zoned (zoned_form_of s sound.simple) else option_map (number_text sound.simple) (number_form_of s)) ≡ true
    by true b z string truths zoned = refl
    by false true z string truths zoned =
        some-mapped Truth (truth_form_of s) (as-truth s sound.kept (text-boolean s (form_of sound.simple) sound.form text string truths))
    by false false true string truths zoned =
        some-mapped Zoned (zoned_form_of s sound.simple)
        (as-zoned s sound.simple sound.kept sound.kind (all-hold _ _ (text-number s (form_of sound.simple) sound.form text string truths) zoned))
    by false false false string truths zoned =
        some-mapped (number_text sound.simple) (number_form_of s)
        (as-standard s sound.kept (all-hold _ _ (text-number s (form_of sound.simple) sound.form text string truths) (ap not zoned)))

-- so a text has a primitive
some-text : (e : Encoding) (replaces : Bool) (size : Option TextSize) (pad : PadForm) (content : Option TextContent)
    → is_some size ≡ true → is_some content ≡ true → is_some (text_by e replaces size pad content) ≡ true
some-text e replaces (Some size) pad (Some c) y z = refl
some-text e replaces None pad c y z = grind (arith, y)
some-text e replaces (Some size) pad None y z = grind (arith, z)

-- a text has a size: it is scanned, or stands in a box
some-size : (s : Judged) (sound : IsSound s) (e : Encoding) → is_text s ≡ true → is_some (text_size s e) ≡ true
some-size s sound e text =
    either (has_delimited_length s) (boxed_size s)
    (some-mapped _ (box_units s) (value-units s sound (first (is_text s) (is_hex_binary s.kind) text)))
  where
    first : (a b : Bool) → a ≡ true → (a || b) ≡ true
    first a b x = grind (arith, x)

    either : (b : Bool) (o : Option TextSize) → is_some o ≡ true → is_some (if b then Some (Delimited (scan_of s e)) else o) ≡ true
    either true o some = refl
    either false o some = some

pub as-text : (s : Judged) (sound : IsSound s) → is_text s ≡ true → is_some (text_of s sound.simple) ≡ true
as-text s sound text = by (encoding_told (told_at s (codes "encoding"))) (some-encoding s sound.kept text)
  where
    by : (e : Option Encoding) → is_some e ≡ true → is_some (option_and_then (text_in s sound.simple) e) ≡ true
    by (Some e) some =
        some-text e (replaces_at s) (text_size s e) (pad_of s) (content_of s sound.simple) (some-size s sound e text) (some-content s sound text)
    by None some = grind (arith, some)
