-- A type takes a value in one of three ways.
use Rattle.std.specs.Prelude.{◌≡◌, Bool, true, false, refl}
use Rattle.std.proofs.Common.{sym, ◌∙◌, ap}
use Rattle.dfdl_forms.specs.Types.{form_of}
use Rattle.dfdl_forms.specs.declared.simple.Form.{Form}
use Rattle.dfdl_forms.specs.declared.simple.Form.TheVariants.{Signed, Unsigned, Fixed, Characters, Truths, Octets}
use Rattle.dfdl_forms.specs.declared.simple.Simple.{Simple}
use Rattle.dfdl_value.specs.declared.value.Value.{Value}
use Rattle.dfdl_value.specs.declared.value.Value.TheVariants as value
use Rattle.dfdl_value.specs.Types.{HoldsMemory}
use Rattle.dfdl_surroundings.specs.Fits.{fit_if, fit_of, taken_so}
use Rattle.dfdl_surroundings.specs.Taking.{if_kind, is_bytes_form, is_number_form, is_text_form, is_truth_form, taken_value}
use Rattle.dfdl_surroundings.specs.declared.taking.Fit.{Fit}
use Rattle.dfdl_surroundings.specs.declared.taking.Fit.TheVariants.{Number, Same, Other}

taken_if : (b : Bool) (fit : Fit) (kind : Simple) (v : Value) → taken_so (fit_if b fit) kind v ≡ if_kind b (taken_so fit kind v)
taken_if true fit kind v = refl
taken_if false fit kind v = refl

-- the way gives what the type takes
fits : (kind : Simple) (v : Value) → taken_so (fit_of (form_of kind) v) kind v ≡ taken_value kind v
fits kind (value.Int number) = taken_if (is_number_form (form_of kind)) Number kind (value.Int number)
fits kind (value.Uns number) = taken_if (is_number_form (form_of kind)) Number kind (value.Uns number)
fits kind (value.Dec number) = taken_if (is_number_form (form_of kind)) Number kind (value.Dec number)
fits kind (value.Text text) = taken_if (is_text_form (form_of kind)) Same kind (value.Text text)
fits kind (value.Truth truth) = taken_if (is_truth_form (form_of kind)) Same kind (value.Truth truth)
fits kind (value.Bytes bytes) = taken_if (is_bytes_form (form_of kind)) Same kind (value.Bytes bytes)

pub takes : (kind : Simple) (v : Value) (fit way : Fit) → fit ≡ fit_of (form_of kind) v → fit ≡ way → taken_so way kind v ≡ taken_value kind v
takes kind v fit way is e = ap (λ (f : Fit). taken_so f kind v) (sym e ∙ is) ∙ fits kind v

-- types of numbers hold no memory
number_form : (form : Form) → is_number_form form ≡ true → ¬ HoldsMemory form
number_form (Signed bits) e = λ m. m
number_form (Unsigned bits) e = λ m. m
number_form Fixed e = λ m. m
number_form Characters e = let never : false ≡ true = e in absurd (cc)
number_form Truths e = let never : false ≡ true = e in absurd (cc)
number_form Octets e = let never : false ≡ true = e in absurd (cc)

by_number : (b : Bool) → fit_if b Number ≡ Number → b ≡ true
by_number true e = refl
by_number false e = let never : Other ≡ Number = e in absurd (cc)

never_number : (b : Bool) → fit_if b Same ≡ Number → ⊥
never_number true e = let never : Same ≡ Number = e in cc
never_number false e = let never : Other ≡ Number = e in cc

lean : (form : Form) (v : Value) → fit_of form v ≡ Number → ¬ HoldsMemory form
lean form (value.Int number) e = number_form form (by_number (is_number_form form) e)
lean form (value.Uns number) e = number_form form (by_number (is_number_form form) e)
lean form (value.Dec number) e = number_form form (by_number (is_number_form form) e)
lean form (value.Text text) e = absurd (never_number (is_text_form form) e)
lean form (value.Truth truth) e = absurd (never_number (is_truth_form form) e)
lean form (value.Bytes bytes) e = absurd (never_number (is_bytes_form form) e)

pub takes_lean : (kind : Simple) (v : Value) (fit : Fit) → fit ≡ fit_of (form_of kind) v → fit ≡ Number → ¬ HoldsMemory (form_of kind)
takes_lean kind v fit is e = lean (form_of kind) v (sym is ∙ e)
