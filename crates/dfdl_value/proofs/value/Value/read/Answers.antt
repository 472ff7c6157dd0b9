use Rattle.std.proofs.Common.{◌∙◌, sym, subst}
use Rattle.std.proofs.lemmas.Result.{IfOk-weaker}
use Rattle.dfdl_forms.specs.declared.simple.Form.{Form}
use Rattle.dfdl_value.specs.Texts.{integer_of}
use Rattle.dfdl_value.specs.Types.{HasForm}
use Rattle.dfdl_value.proofs.RangeLemmas.{HasForm-signed, HasForm-unsigned}
use Rattle.dfdl_value.proofs.value.Value.read.Goals as goal

pub returns-in-Signed-clause-typed : goal.returns-in-Signed-clause-typed
returns-in-Signed-clause-typed c =
    IfOk-weaker _ _ _ (λ v e.
    let P : Form → Type 0 = λ f. HasForm f v in
    subst P (sym c.in-Signed.is ∙ c.form.ensures.form) (HasForm-signed c.in-Signed.bits _ v (sym c.read_signed.ensures ∙ e))) c.told.ensures.value

pub returns-in-Unsigned-clause-typed : goal.returns-in-Unsigned-clause-typed
returns-in-Unsigned-clause-typed c =
    IfOk-weaker _ _ _ (λ v e.
    let P : Form → Type 0 = λ f. HasForm f v in
    subst P (sym c.in-Unsigned.is ∙ c.form.ensures.form) (HasForm-unsigned c.in-Unsigned.bits (integer_of c.trimmed-inner.result.now) v (sym c.read_unsigned.ensures ∙ e))) c.told-in-Unsigned.ensures.value
