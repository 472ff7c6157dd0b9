-- The representations besides the normal one keep the bounds of their forms.
use Rattle.std.proofs.Common.{◌≡◌, refl, sym, ap, subst, ℕ, List, ◌≤◌, ◌*◌, Option, Some, None, Bool, true, false, if◌then◌else◌, option_and_then, option_map, arith}
use Rattle.dfdl_forms.specs.declared.order.BitOrder.{BitOrder}
use Rattle.dfdl_terms.specs.Rows.{IsPrimitive, IsTextSize, IsWritten, most_length}
use Rattle.dfdl_terms.specs.declared.row.Primitive.{Primitive}
use Rattle.dfdl_terms.specs.declared.row.Primitive.TheVariants.{Integer, Packed, Truth, Octets, Text, NilOctets, Default, NilValues, Pattern}
use Rattle.dfdl_terms.specs.declared.text.DefaultForm.{DefaultForm}
use Rattle.dfdl_terms.specs.declared.text.NilForm.{NilForm}
use Rattle.dfdl_terms.specs.declared.text.TextSize.{TextSize}
use Rattle.dfdl_value.specs.declared.value.Value.{Value}
use Rattle.dfdl_checks.proofs.BoxBounds.{none-some, some-is}
use Rattle.dfdl_checks.proofs.Contents.{ArePatternsBounded}
use Rattle.dfdl_checks.proofs.Primitives.{bounded}
use Rattle.dfdl_checks.specs.Judged.{Judged}
use Rattle.dfdl_checks.specs.Nils.{is_nil_by_value, nil_form_of}
use Rattle.dfdl_checks.specs.NilValues.{nil_values}
use Rattle.dfdl_checks.specs.Numbers.{primitive_of}
use Rattle.dfdl_checks.specs.Prefixes.{size_of}
use Rattle.dfdl_checks.specs.Representations.{can_be_empty, default_in, nil_by, nil_in, nil_octets, no_representations, representations_by, representations_for, representations_of, told_of_nothing}
use Rattle.dfdl_checks.specs.declared.purpose.Purpose.{Purpose}
use Rattle.dfdl_checks.specs.declared.purpose.Purpose.TheVariants.{Parsing, Unparsing}
use Rattle.dfdl_checks.specs.declared.subject.Kind.{Kind}
use Rattle.dfdl_checks.specs.declared.subject.Kind.TheVariants.{ComplexElement, SimpleElement, UncarriedElement, CalculatedElement, Sequence, HiddenSequence, Choice, PrefixNumber}

-- the fields of a primitive are no longer than the greatest length
size-bounded : (p : Primitive) → IsPrimitive p → IsTextSize (size_of p)
size-bounded (Integer form) is = let few = is.short in omega (arith, few)
size-bounded (Packed form) is = let few = is.short in omega (arith, few)
size-bounded (Truth form) is = let few = is.1 in omega (arith, few)
size-bounded (Octets form) is = is
size-bounded (Text form) is = is.size
size-bounded (NilOctets form) is = is
size-bounded (Default form) is = is.size
size-bounded (NilValues form) is = omega arith
size-bounded (Pattern form) is = omega arith

-- nil in a box that is no longer keeps the bounds of its form
in-octets : (nil : NilForm) (bits : ℕ) (bits_by : BitOrder) (q : Primitive) → bits ≤ most_length → Some (nil_octets nil bits bits_by) ≡ Some q → IsPrimitive q
in-octets nil bits bits_by q few is = subst (λ q. IsPrimitive q) (some-is _ _ is) few

-- so does nil in the box of a primitive
nil-in : (p q : Primitive) (nil : NilForm) → IsPrimitive p → nil_by p nil ≡ Some q → IsPrimitive q
nil-in (Integer form) q nil of is = in-octets nil form.bits form.bits_by q (size-bounded (Integer form) of) is
nil-in (Packed form) q nil of is = in-octets nil (4 * form.nibbles) form.bits_by q (size-bounded (Packed form) of) is
nil-in (Truth form) q nil of is = in-octets nil form.bits form.bits_by q (size-bounded (Truth form) of) is
nil-in (Octets form) q nil of is = in-octets nil form.bits form.bits_by q of is
nil-in (Text form) q nil of is = subst (λ q. IsPrimitive q) (some-is _ _ is) (record { size = of.size; content = tt })
nil-in (NilOctets form) q nil of is = absurd (none-some _ is)
nil-in (Default form) q nil of is = absurd (none-some _ is)
nil-in (NilValues form) q nil of is = absurd (none-some _ is)
nil-in (Pattern form) q nil of is = absurd (none-some _ is)

module _ (patterns : ArePatternsBounded) (s : Judged) (q : Primitive) where
  nil-of-form : (p : Primitive) (form : Option NilForm) → IsPrimitive p → option_and_then (nil_by p) form ≡ Some q → IsPrimitive q
  nil-of-form p (Some nil) of is = nil-in p q nil of is
  nil-of-form p None of is = absurd (none-some _ is)

  -- whether it is by values or by texts
  nil-of-either : (by-value : Bool) (p : Primitive) (values : Option (List Value)) (form : Option NilForm) → IsPrimitive p
      → (if by-value then option_map nil_in values else option_and_then (nil_by p) form) ≡ Some q → IsPrimitive q
  nil-of-either true p (Some values) form of is = subst (λ q. IsPrimitive q) (some-is _ _ is) tt
  nil-of-either true p None form of is = absurd (none-some _ is)
  nil-of-either false p values form of is = nil-of-form p form of is

  nil-of-kind : (kind : Kind) (o : Option Primitive) → primitive_of s ≡ o → (representations_by s kind o).nil ≡ Some q → IsPrimitive q
  nil-of-kind (SimpleElement simple) (Some p) told is =
      nil-of-either (is_nil_by_value s) p (nil_values s simple) (nil_form_of s) (bounded patterns s p told) is
  nil-of-kind (SimpleElement simple) None told is = absurd (none-some _ is)
  nil-of-kind ComplexElement o told is = absurd (none-some _ is)
  nil-of-kind UncarriedElement o told is = absurd (none-some _ is)
  nil-of-kind (CalculatedElement simple) o told is = absurd (none-some _ is)
  nil-of-kind Sequence o told is = absurd (none-some _ is)
  nil-of-kind HiddenSequence o told is = absurd (none-some _ is)
  nil-of-kind Choice o told is = absurd (none-some _ is)
  nil-of-kind (PrefixNumber simple) o told is = absurd (none-some _ is)

  nil-for : (purpose : Purpose) → (representations_for purpose s).nil ≡ Some q → IsPrimitive q
  nil-for Parsing is = nil-of-kind s.kind (primitive_of s) refl is
  nil-for Unparsing is = absurd (none-some _ is)

-- the nil representation keeps the bounds of its form
pub nil-bounded : ArePatternsBounded → (s : Judged) (q : Primitive) → (representations_of s).nil ≡ Some q → IsPrimitive q
nil-bounded patterns s q is = nil-for patterns s q s.purpose is

-- the value of the primitive, if it is of no bits, is one of characters
abbrev pub IsValueWritten : Primitive → Type 0
IsValueWritten p = (form : DefaultForm) → p ≡ Default form → IsWritten form.value

-- no bits in a box of a size that keeps its bounds
in-size : (size : TextSize) (value : Value) (q : Primitive) → IsTextSize size → IsValueWritten q → Some (default_in size value) ≡ Some q → IsPrimitive q
in-size size value q few written is =
    subst (λ q. IsPrimitive q) (some-is _ _ is)
    (record { size = few; value = written (record { size = size; value = value }) (sym (some-is _ _ is)) })

module _ (patterns : ArePatternsBounded) (s : Judged) (q : Primitive) (written : IsValueWritten q) where
  empty-of-value : (size : TextSize) (b : Bool) (o : Option Value) → IsTextSize size
      → (if b then option_map (default_in size) o else None) ≡ Some q → IsPrimitive q
  empty-of-value size true (Some value) few is = in-size size value q few written is
  empty-of-value size true None few is = absurd (none-some _ is)
  empty-of-value size false o few is = absurd (none-some _ is)

  required-of-kind : (kind : Kind) (o : Option Primitive) → primitive_of s ≡ o → (representations_by s kind o).required.empty ≡ Some q → IsPrimitive q
  required-of-kind (SimpleElement simple) (Some p) told is =
      empty-of-value (size_of p) (can_be_empty s (size_of p)) (told_of_nothing s simple s.facts.default) (size-bounded p (bounded patterns s p told)) is
  required-of-kind (SimpleElement simple) None told is = absurd (none-some _ is)
  required-of-kind ComplexElement o told is = absurd (none-some _ is)
  required-of-kind UncarriedElement o told is = absurd (none-some _ is)
  required-of-kind (CalculatedElement simple) o told is = absurd (none-some _ is)
  required-of-kind Sequence o told is = absurd (none-some _ is)
  required-of-kind HiddenSequence o told is = absurd (none-some _ is)
  required-of-kind Choice o told is = absurd (none-some _ is)
  required-of-kind (PrefixNumber simple) o told is = absurd (none-some _ is)

  required-for : (purpose : Purpose) → (representations_for purpose s).required.empty ≡ Some q → IsPrimitive q
  required-for Parsing is = required-of-kind s.kind (primitive_of s) refl is
  required-for Unparsing is = absurd (none-some _ is)

  tried-of-kind : (kind : Kind) (o : Option Primitive) → primitive_of s ≡ o → (representations_by s kind o).where_tried.empty ≡ Some q → IsPrimitive q
  tried-of-kind (SimpleElement simple) (Some p) told is =
      empty-of-value (size_of p) (can_be_empty s (size_of p)) (told_of_nothing s simple None) (size-bounded p (bounded patterns s p told)) is
  tried-of-kind (SimpleElement simple) None told is = absurd (none-some _ is)
  tried-of-kind ComplexElement o told is = absurd (none-some _ is)
  tried-of-kind UncarriedElement o told is = absurd (none-some _ is)
  tried-of-kind (CalculatedElement simple) o told is = absurd (none-some _ is)
  tried-of-kind Sequence o told is = absurd (none-some _ is)
  tried-of-kind HiddenSequence o told is = absurd (none-some _ is)
  tried-of-kind Choice o told is = absurd (none-some _ is)
  tried-of-kind (PrefixNumber simple) o told is = absurd (none-some _ is)

  tried-for : (purpose : Purpose) → (representations_for purpose s).where_tried.empty ≡ Some q → IsPrimitive q
  tried-for Parsing is = tried-of-kind s.kind (primitive_of s) refl is
  tried-for Unparsing is = absurd (none-some _ is)

-- the empty representation of a required occurrence does where its value is one of characters
pub required-bounded : ArePatternsBounded → (s : Judged) (q : Primitive) → (representations_of s).required.empty ≡ Some q → IsValueWritten q → IsPrimitive q
required-bounded patterns s q is written = required-for patterns s q written s.purpose is

-- so does that of an occurrence that is tried
pub tried-bounded : ArePatternsBounded → (s : Judged) (q : Primitive) → (representations_of s).where_tried.empty ≡ Some q → IsValueWritten q → IsPrimitive q
tried-bounded patterns s q is written = tried-for patterns s q written s.purpose is

-- for unparsing there is none
pub no-others : (s : Judged) → s.purpose ≡ Unparsing → representations_of s ≡ no_representations
no-others s purpose = ap (λ p. representations_for p s) purpose
