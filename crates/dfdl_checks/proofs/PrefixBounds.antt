-- What is known of each component with a length prefix that is built.
use Rattle.std.proofs.Common.{◌≡◌, refl, ap, subst, ◌∙◌, Option, Some, None, Bool, true, false, if◌then◌else◌, option_and_then, option_map, IsTrue}
use Rattle.dfdl_forms.specs.Types.{form_of}
use Rattle.dfdl_forms.specs.declared.simple.Simple.{Simple}
use Rattle.dfdl_terms.specs.Rows.{IsPrimitive}
use Rattle.dfdl_terms.specs.declared.row.Primitive.{Primitive}
use Rattle.dfdl_checks.proofs.BoxBounds.{none-some, some-is}
use Rattle.dfdl_checks.proofs.Contents.{ArePatternsBounded, mapped}
use Rattle.dfdl_checks.proofs.Primitives.{bounded, typed}
use Rattle.dfdl_checks.specs.Judged.{Judged, PrefixJudged}
use Rattle.dfdl_checks.specs.Numbers.{primitive_of, type_of}
use Rattle.dfdl_checks.specs.Prefixes.{form_by, form_of_type, form_with, is_integer, is_integer_type, judged_integer, judged_prefix, own_units, prefix_for, prefix_of}
use Rattle.dfdl_checks.specs.Subjects.{is_prefixed}
use Rattle.dfdl_checks.specs.declared.prefixes.PrefixForm.{PrefixForm}
use Rattle.dfdl_checks.specs.declared.purpose.Purpose.{Purpose}
use Rattle.dfdl_checks.specs.declared.purpose.Purpose.TheVariants.{Parsing, Unparsing}

-- the prefix of a component is a primitive of its type, which is an integer type
pub record IsPrefixOf (s : Judged) (form : PrefixForm) : Type 0 where
  pub prefix : PrefixJudged
  pub simple : Simple
  pub integer : is_integer (form_of simple) ≡ true
  pub primitive : primitive_of (judged_prefix s prefix simple) ≡ Some form.primitive

module _ (s : Judged) (form : PrefixForm) where
  of-primitive : (prefix : PrefixJudged) (simple : Simple) (o : Option Primitive) → is_integer (form_of simple) ≡ true
      → primitive_of (judged_prefix s prefix simple) ≡ o
      → option_and_then (form_by s (judged_prefix s prefix simple)) o ≡ Some form → IsPrefixOf s form
  of-primitive prefix simple None integer made is = absurd (none-some _ is)
  of-primitive prefix simple (Some p) integer made is =
      let with = mapped (form_with s p) (own_units s (judged_prefix s prefix simple) p) form is in
      record {
        prefix = prefix;
        simple = simple;
        integer = integer;
        primitive = made ∙ ap (λ (f : PrefixForm). Some f.primitive) with.is;
      }

  of-simple : (prefix : PrefixJudged) (o : Option Simple)
      → option_and_then (form_of_type s) (if is_integer_type o then option_map (judged_prefix s prefix) o else None) ≡ Some form → IsPrefixOf s form
  of-simple prefix None is = absurd (none-some _ is)
  of-simple prefix (Some simple) is = by (is_integer (form_of simple)) refl is
    where
      by : (b : Bool) → is_integer (form_of simple) ≡ b
          → option_and_then (form_of_type s) (if b then Some (judged_prefix s prefix simple) else None) ≡ Some form → IsPrefixOf s form
      by true integer is = of-primitive prefix simple (primitive_of (judged_prefix s prefix simple)) integer refl is
      by false integer is = absurd (none-some _ is)

  of-prefix : (o : Option PrefixJudged) → option_and_then (form_of_type s) (option_and_then (judged_integer s) o) ≡ Some form → IsPrefixOf s form
  of-prefix None is = absurd (none-some _ is)
  of-prefix (Some prefix) is = of-simple prefix prefix.simple is

  of-component : (b : Bool) → option_and_then (form_of_type s) (if b then option_and_then (judged_integer s) s.prefix else None) ≡ Some form
      → IsPrefixOf s form
  of-component true is = of-prefix s.prefix is
  of-component false is = absurd (none-some _ is)

  of-purpose : (purpose : Purpose) → prefix_for purpose s ≡ Some form → IsPrefixOf s form
  of-purpose Parsing is = of-component (is_prefixed s) is
  of-purpose Unparsing is = absurd (none-some _ is)

-- a prefix keeps the bounds of its primitive
pub prefix-bounded : ArePatternsBounded → (s : Judged) (form : PrefixForm) → prefix_of s ≡ Some form → IsPrimitive form.primitive
prefix-bounded patterns s form is =
    let of = of-purpose s form s.purpose is in bounded patterns (judged_prefix s of.prefix of.simple) form.primitive of.primitive

-- it is read as an integer
pub prefix-integer : (s : Judged) (form : PrefixForm) → prefix_of s ≡ Some form → IsTrue (is_integer (form_of (type_of form.primitive)))
prefix-integer s form is =
    let of = of-purpose s form s.purpose is in
    subst (λ simple. is_integer (form_of simple) ≡ true)
    (some-is _ _ (typed (judged_prefix s of.prefix of.simple) form.primitive of.primitive)) of.integer

-- for unparsing there is none
pub no-prefix : (s : Judged) → s.purpose ≡ Unparsing → prefix_of s ≡ None
no-prefix s purpose = ap (λ p. prefix_for p s) purpose
