-- What rows that are compiled for unparsing are to those who unparse.
use Rattle.std.proofs.Common.{◌≡◌, ℕ, ◌*◌, ◌≤◌, ◌==◌, ◌||◌, IsTrue, List, All, Option, None, Some, Result, Ok, Err, IfOk, slice_get, refl, subst, arith, inl, inr}
use Rattle.std.specs.Option.{option_and_then}
use Rattle.std.proofs.lemmas.Bool.{or_cases, eqb-true}
use Rattle.std.proofs.lemmas.Option.{get_or_from_slice_get, slice_get_within}
use Rattle.dfdl_forms.specs.declared.binary.IntForm.{IntForm}
use Rattle.dfdl_forms.specs.declared.simple.Simple.{Simple}
use Rattle.dfdl_terms.specs.Rows.{Table}
use Rattle.dfdl_terms.specs.declared.row.Primitive.{Primitive}
use Rattle.dfdl_terms.specs.declared.row.Primitive.TheVariants.{Integer, Packed, Truth, Octets, Text, NilOctets, Default, NilValues, Pattern}
use Rattle.dfdl_terms.specs.declared.row.Row.{Row}
use Rattle.dfdl_terms.specs.declared.row.Row.TheVariants.{Leaf, Elem, Group, Skip, Align, Initiator, Terminator, Separator, Scope, Boxed, PrefixedLeaf, PrefixedBox, MeasuredLeaf, MeasuredBox, Repeat, Counted, Optional, Choice, Dispatch, Statement, Concluded, Hidden, Spanned, Instance, Separated}
use Rattle.dfdl_checks.specs.Forms.{IsWhole, IsWholeUnsigned}
use Rattle.dfdl_compile.specs.Primitives.{HasBareTypedLeaves, IsLeafOfType, IsOfType}
use Rattle.dfdl_pieces.specs.Laying.{form_in, integer_form}
use Rattle.dfdl_pieces.specs.Pieces.{IsWholeField}
use Rattle.dfdl_pieces.specs.Whole.{AreWholeFields, IsWholeForm}

-- one to eight whole bytes
record IsCount (bits : ℕ) : Type 0 where
  count : ℕ
  is : bits ≡ 8 * count
  some : 1 ≤ count
  few : count ≤ 8

bytes_in : (bits : ℕ) → IsTrue (bits == 8 || bits == 16 || bits == 32 || bits == 64) → IsCount bits
bytes_in bits is = elim (or_cases (bits == 8 || bits == 16 || bits == 32) (bits == 64) is) [
  | inl few ↦ elim (or_cases (bits == 8 || bits == 16) (bits == 32) few) [
    | inl fewer ↦ elim (or_cases (bits == 8) (bits == 16) fewer) [
      | inl one ↦ record { count = 1; is = eqb-true bits 8 one; some = omega arith; few = omega arith }
      | inr two ↦ record { count = 2; is = eqb-true bits 16 two; some = omega arith; few = omega arith }
    ]
    | inr four ↦ record { count = 4; is = eqb-true bits 32 four; some = omega arith; few = omega arith }
  ]
  | inr eight ↦ record { count = 8; is = eqb-true bits 64 eight; some = omega arith; few = omega arith }
]

-- a whole unsigned integer is a whole field
field_of : (form : IntForm) → IsWholeUnsigned form → IsWholeField form
field_of form whole =
    let bytes = bytes_in form.bits whole.bits in
    record { count = bytes.count; kind = whole.kind; bits = bytes.is; some = bytes.some; few = bytes.few; order = whole.bits_by }

whole_at : (primitives : List Primitive) (prim : ℕ) (p : Primitive) → slice_get primitives prim ≡ Some p → All IsWhole primitives → IsWhole p
whole_at primitives prim p is wholes =
    subst IsWhole (get_or_from_slice_get primitives prim p p is) (wholes prim p (slice_get_within primitives prim p is))

whole_in : (primitives : List Primitive) (prim : ℕ) (simple : Simple) (o : Option Primitive) → slice_get primitives prim ≡ o
    → All IsWhole primitives → IsOfType simple o → IsWholeForm simple (option_and_then integer_form o)
whole_in primitives prim simple None is wholes typed = absurd typed
whole_in primitives prim simple (Some (Integer form)) is wholes typed =
    (typed, field_of form (whole_at primitives prim (Integer form) is wholes))
whole_in primitives prim simple (Some (Packed form)) is wholes typed = absurd (whole_at primitives prim (Packed form) is wholes)
whole_in primitives prim simple (Some (Truth form)) is wholes typed = absurd (whole_at primitives prim (Truth form) is wholes)
whole_in primitives prim simple (Some (Octets form)) is wholes typed = absurd (whole_at primitives prim (Octets form) is wholes)
whole_in primitives prim simple (Some (Text form)) is wholes typed = absurd (whole_at primitives prim (Text form) is wholes)
whole_in primitives prim simple (Some (NilOctets form)) is wholes typed = absurd (whole_at primitives prim (NilOctets form) is wholes)
whole_in primitives prim simple (Some (Default form)) is wholes typed = absurd (whole_at primitives prim (Default form) is wholes)
whole_in primitives prim simple (Some (NilValues form)) is wholes typed = absurd (whole_at primitives prim (NilValues form) is wholes)
whole_in primitives prim simple (Some (Pattern form)) is wholes typed = absurd (whole_at primitives prim (Pattern form) is wholes)

whole_row : (t : Table) → All IsWhole t.primitives → (simple : Simple) (o : Option Row) → IsLeafOfType t.primitives simple o
    → IsWholeForm simple (form_in t o)
whole_row t wholes simple (Some (Leaf prim)) leaf = whole_in t.primitives prim simple (slice_get t.primitives prim) refl wholes leaf
whole_row t wholes simple (Some (Elem name other tried behind body)) leaf = absurd leaf
whole_row t wholes simple (Some (Group children)) leaf = absurd leaf
whole_row t wholes simple (Some (Skip bits)) leaf = absurd leaf
whole_row t wholes simple (Some (Align bits)) leaf = absurd leaf
whole_row t wholes simple (Some (Initiator delimiter)) leaf = absurd leaf
whole_row t wholes simple (Some (Terminator delimiter separators)) leaf = absurd leaf
whole_row t wholes simple (Some Separator) leaf = absurd leaf
whole_row t wholes simple (Some (Scope list body)) leaf = absurd leaf
whole_row t wholes simple (Some (Boxed bits body)) leaf = absurd leaf
whole_row t wholes simple (Some (PrefixedLeaf prefix prim)) leaf = absurd leaf
whole_row t wholes simple (Some (PrefixedBox prefix body)) leaf = absurd leaf
whole_row t wholes simple (Some (MeasuredLeaf measure prim)) leaf = absurd leaf
whole_row t wholes simple (Some (MeasuredBox measure body)) leaf = absurd leaf
whole_row t wholes simple (Some (Repeat count body)) leaf = absurd leaf
whole_row t wholes simple (Some (Counted question body)) leaf = absurd leaf
whole_row t wholes simple (Some (Optional most item initiated body)) leaf = absurd leaf
whole_row t wholes simple (Some (Choice branches initiated)) leaf = absurd leaf
whole_row t wholes simple (Some (Dispatch question keys)) leaf = absurd leaf
whole_row t wholes simple (Some (Statement statement)) leaf = absurd leaf
whole_row t wholes simple (Some (Concluded behind body)) leaf = absurd leaf
whole_row t wholes simple (Some (Hidden body)) leaf = absurd leaf
whole_row t wholes simple (Some (Spanned body)) leaf = absurd leaf
whole_row t wholes simple (Some (Instance statement body)) leaf = absurd leaf
whole_row t wholes simple (Some (Separated policy position initiated slots)) leaf = absurd leaf
whole_row t wholes simple None leaf = absurd leaf

-- rows whose simple elements have leaves of their types, which are all whole
pub whole : (t : Table) → HasBareTypedLeaves t → All IsWhole t.primitives → AreWholeFields t
whole t leaves wholes row name kind tried behind body is = whole_row t wholes kind (slice_get t.rows body) (leaves row name kind tried behind body is)

-- two facts of what is answered give a third
pub both_ok : {X E : Type 0} (A B C : X → Type 0) → ((x : X) → A x → B x → C x) → (r : Result X E) → IfOk r A → IfOk r B → IfOk r C
both_ok A B C third (Ok x) a b = third x a b
both_ok A B C third (Err e) a b = tt
