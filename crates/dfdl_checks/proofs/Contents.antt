-- What the contents of texts are read as: values of their type, by forms that keep their bounds.
use Rattle.std.proofs.Common.{◌≡◌, refl, ap, subst, ℕ, List, ◌==◌, Option, Some, None, Bool, true, false, if◌then◌else◌, ◌&&◌, option_map, codes, arith}
use Rattle.std.specs.List.{list_all}
use Rattle.dfdl_forms.specs.NumberForms.{HasPattern, IsNumberForm, IsNumberPattern, are_plain, goes_with, is_base, is_form}
use Rattle.dfdl_forms.specs.Packed.{IsZonedForm}
use Rattle.dfdl_forms.specs.Types.{form_of}
use Rattle.dfdl_forms.specs.declared.number.NumberForm.{NumberForm}
use Rattle.dfdl_forms.specs.declared.number.Rounding.{Rounding}
use Rattle.dfdl_forms.specs.declared.number_pattern.NumberPattern.{NumberPattern}
use Rattle.dfdl_forms.specs.declared.packed.ZonedForm.{ZonedForm}
use Rattle.dfdl_forms.specs.declared.packed.ZonedStyle.{ZonedStyle}
use Rattle.dfdl_forms.specs.declared.simple.Simple.{Simple}
use Rattle.dfdl_forms.specs.declared.simple.Simple.TheVariants as types
use Rattle.dfdl_number_pattern.specs.Read.{pattern_read}
use Rattle.dfdl_terms.specs.Rows.{IsTextContent}
use Rattle.dfdl_terms.specs.declared.text.TextContent.{TextContent}
use Rattle.dfdl_terms.specs.declared.text.TextContent.TheVariants.{Plain, Octets as TextOctets, Number, Zoned, Truth, Nil}
use Rattle.dfdl_checks.proofs.BoxBounds.{none-some, some-is}
use Rattle.dfdl_checks.proofs.Types.{boolean-type, string-type}
use Rattle.dfdl_checks.specs.BooleanTexts.{truth_form_of}
use Rattle.dfdl_checks.specs.Judged.{Judged}
use Rattle.dfdl_checks.specs.NumberTexts.{base_of, decimal_at, form_by, grouping_at, is_sign_first, is_zoned_sign, number_form_of, pattern_at, pattern_in, pattern_of, rounding_of, style_told, zoned_by, zoned_form_of, zoned_spelled, zoned_with}
use Rattle.dfdl_checks.specs.Numbers.{text_type}
use Rattle.dfdl_checks.specs.Pads.{single}
use Rattle.dfdl_checks.specs.Subjects.{is_characters, is_told, is_truths, told_at}
use Rattle.dfdl_checks.specs.Texts.{content_of, number_text}

-- what is there is made of what was there
pub record IsMapped (A B : Type 0) (f : A → B) (o : Option A) (b : B) : Type 0 where
  pub from : A
  pub there : o ≡ Some from
  pub is : f from ≡ b

pub mapped : {A B : Type 0} (f : A → B) (o : Option A) (b : B) → option_map f o ≡ Some b → IsMapped A B f o b
mapped f (Some a) b is = record { from = a; there = refl; is = some-is _ _ is }
mapped f None b is = absurd (none-some _ is)

-- the patterns of texts are bounded
abbrev pub ArePatternsBounded : Type 0
ArePatternsBounded = (text : List ℕ) (p : NumberPattern) → pattern_read text ≡ Some p → IsNumberPattern p

-- a zoned number of a type has the point of a pattern that its text spells
pub record IsZonedBy (simple : Simple) (form : ZonedForm) : Type 0 where
  pub text : List ℕ
  pub pattern : NumberPattern
  pub read : pattern_read text ≡ Some pattern
  pub point : pattern.implied ≡ form.point
  pub kind : simple ≡ form.kind

zoned-from : (style : ZonedStyle) (simple : Simple) (text : List ℕ) (o : Option NumberPattern) (form : ZonedForm) → pattern_read text ≡ o
    → zoned_by style simple o ≡ Some form → IsZonedBy simple form
zoned-from style simple text None form read is = absurd (none-some _ is)
zoned-from style simple text (Some p) form read is =
    let made = mapped (zoned_with style simple p) (is_sign_first p.prefix p.suffix) form is in
    record { text = text; pattern = p; read = read; point = ap (λ (f : ZonedForm). f.point) made.is; kind = ap (λ (f : ZonedForm). f.kind) made.is }

zoned-told : (style : ZonedStyle) (simple : Simple) (o : Option (List ℕ)) (form : ZonedForm) → zoned_spelled style simple o ≡ Some form
    → IsZonedBy simple form
zoned-told style simple None form is = absurd (none-some _ is)
zoned-told style simple (Some text) form is = by (list_all is_zoned_sign text) is
  where
    by : (b : Bool) → (if b then zoned_by style simple (pattern_read text) else None) ≡ Some form → IsZonedBy simple form
    by true is = zoned-from style simple text (pattern_read text) form refl is
    by false is = absurd (none-some _ is)

zoned-of : (s : Judged) (simple : Simple) (form : ZonedForm) → zoned_form_of s simple ≡ Some form → IsZonedBy simple form
zoned-of s simple form is = zoned-told (style_told (told_at s (codes "textZonedSignStyle"))) simple (pattern_at s) form is

zoned-bounded : (simple : Simple) (form : ZonedForm) → ArePatternsBounded → IsZonedBy simple form → IsZonedForm form
zoned-bounded simple form patterns of =
    let few = (patterns of.text of.pattern of.read).few in let point = of.point in omega (arith, few, point)

-- the pattern of a number is bounded
read-bounded : (o : Option (List ℕ)) → ArePatternsBounded → HasPattern (pattern_of o)
read-bounded None patterns = tt
read-bounded (Some text) patterns = by (pattern_read text) refl
  where
    by : (o : Option NumberPattern) → pattern_read text ≡ o → HasPattern o
    by None read = tt
    by (Some p) read = patterns text p read

pattern-bounded : (s : Judged) (base : ℕ) → ArePatternsBounded → HasPattern (pattern_in base s)
pattern-bounded s base patterns = by (base == 10)
  where
    by : (b : Bool) → HasPattern (if b then pattern_of (pattern_at s) else None)
    by true = read-bounded (pattern_at s) patterns
    by false = tt

-- parts that go together are a form that keeps its bounds
form-bounded : (base : ℕ) (pattern : Option NumberPattern) (decimal grouping : Option ℕ) (rounding : Rounding) (form : NumberForm) → HasPattern pattern
    → form_by base pattern decimal grouping rounding ≡ Some form → IsNumberForm form
form-bounded base pattern (Some d) (Some g) rounding form bounded is = by (is_form base pattern d g) refl is
  where
    parts : (a b c : Bool) → (a && (b && c)) ≡ true → (a ≡ true) × (b ≡ true) × (c ≡ true)
    parts a b c h = (grind (arith, h), grind (arith, h), grind (arith, h))

    by : (b : Bool) → is_form base pattern d g ≡ b
        → (if b then Some (record { base = base; pattern = pattern; decimal = d; grouping = g; rounding = rounding }) else None) ≡ Some form
        → IsNumberForm form
    by true together is =
        let all = parts (is_base base) (goes_with base pattern) (are_plain pattern d g) together in
        subst (λ f. IsNumberForm f) (some-is _ _ is) (record { based = all.0; patterned = all.1; plain = all.2; bounded = bounded })
    by false together is = absurd (none-some _ is)
form-bounded base pattern None g rounding form bounded is = absurd (none-some _ is)
form-bounded base pattern (Some d) None rounding form bounded is = absurd (none-some _ is)

number-bounded : (s : Judged) (form : NumberForm) → ArePatternsBounded → number_form_of s ≡ Some form → IsNumberForm form
number-bounded s form patterns is =
    form-bounded (base_of s) (pattern_in (base_of s) s) (single (decimal_at s)) (single (grouping_at s)) (rounding_of s) form
    (pattern-bounded s (base_of s) patterns) is

-- what is known of the content of a text of a type
abbrev pub IsContentOf : Judged → Simple → TextContent → Type 0
IsContentOf s simple Plain = simple ≡ types.String
IsContentOf s simple TextOctets = simple ≡ types.HexBinary
IsContentOf s simple (Truth form) = simple ≡ types.Boolean
IsContentOf s simple (Zoned form) = IsZonedBy simple form
IsContentOf s simple (Number form kind) = (simple ≡ kind) × (number_form_of s ≡ Some form)
IsContentOf s simple (Nil form) = ⊥

pub content-is : (s : Judged) (simple : Simple) (content : TextContent) → content_of s simple ≡ Some content → IsContentOf s simple content
content-is s simple content is =
    by (is_characters (form_of simple)) (is_truths (form_of simple)) (is_told s (codes "textNumberRep") (codes "zoned")) refl refl is
  where
    moved : (c : TextContent) → c ≡ content → IsContentOf s simple c → IsContentOf s simple content
    moved c same of = subst (λ c. IsContentOf s simple c) same of

    by : (a b z : Bool) → is_characters (form_of simple) ≡ a → is_truths (form_of simple) ≡ b
        → (if a then Some Plain else if b then option_map Truth (truth_form_of s) else if z then option_map Zoned (zoned_form_of s simple)
        else option_map (number_text simple) (number_form_of s)) ≡ Some content → IsContentOf s simple content
    by true b z text truth is = moved _ (some-is _ _ is) (string-type simple text)
    by false true z text truth is =
        let made = mapped Truth (truth_form_of s) content is in moved _ made.is (boolean-type simple truth)
    by false false true text truth is =
        let made = mapped Zoned (zoned_form_of s simple) content is in moved _ made.is (zoned-of s simple made.from made.there)
    by false false false text truth is =
        let made = mapped (number_text simple) (number_form_of s) content is in moved _ made.is (refl, made.there)

-- it keeps its bounds
pub content-bounded : (s : Judged) (simple : Simple) (content : TextContent) → ArePatternsBounded → IsContentOf s simple content → IsTextContent content
content-bounded s simple Plain patterns of = tt
content-bounded s simple TextOctets patterns of = tt
content-bounded s simple (Truth form) patterns of = tt
content-bounded s simple (Zoned form) patterns of = zoned-bounded simple form patterns of
content-bounded s simple (Number form kind) patterns of = number-bounded s form patterns of.1
content-bounded s simple (Nil form) patterns of = absurd of

-- its values are those of the type
pub content-typed : (s : Judged) (simple : Simple) (content : TextContent) → IsContentOf s simple content → simple ≡ text_type content
content-typed s simple Plain of = of
content-typed s simple TextOctets of = of
content-typed s simple (Truth form) of = of
content-typed s simple (Zoned form) of = of.kind
content-typed s simple (Number form kind) of = of.0
content-typed s simple (Nil form) of = absurd of
