-- Mirror for the prover: in which way a type takes a value.
use Rattle.std.specs.Prelude.{ℕ, Bool, Result, Ok, Err, if◌then◌else◌}
use Rattle.dfdl_forms.specs.declared.simple.Form.{Form}
use Rattle.dfdl_forms.specs.declared.simple.Simple.{Simple}
use Rattle.dfdl_value.specs.declared.value.Value.{Value}
use Rattle.dfdl_value.specs.declared.value.Value.TheVariants as value
use Rattle.dfdl_operators.specs.Constructors.{constructed}
use Rattle.dfdl_surroundings.specs.Taking.{answered, is_bytes_form, is_number_form, is_text_form, is_truth_form}
use Rattle.dfdl_surroundings.specs.declared.taking.Fit.{Fit}
use Rattle.dfdl_surroundings.specs.declared.taking.Fit.TheVariants.{Number, Same, Other}

-- the value that is taken in this way
abbrev pub taken_so : Fit → Simple → Value → Result Value ℕ
taken_so Number kind value = answered (constructed kind value)
taken_so Same kind value = Ok value
taken_so Other kind value = Err 6

-- this way, for a value of the kind
abbrev pub fit_if : Bool → Fit → Fit
fit_if is_kind fit = if is_kind then fit else Other

-- the way for a value
abbrev pub fit_of : Form → Value → Fit
fit_of form (value.Int number) = fit_if (is_number_form form) Number
fit_of form (value.Uns number) = fit_if (is_number_form form) Number
fit_of form (value.Dec number) = fit_if (is_number_form form) Number
fit_of form (value.Text text) = fit_if (is_text_form form) Same
fit_of form (value.Truth truth) = fit_if (is_truth_form form) Same
fit_of form (value.Bytes bytes) = fit_if (is_bytes_form form) Same
