use Rattle.std.proofs.Common.{refl, ap, sym, subst, ◌∙◌, Result}
use Rattle.dfdl_value.specs.declared.integer.Whole.{Whole}
use Rattle.dfdl_value.specs.declared.read.NoValue.{NoValue}
use Rattle.dfdl_value.specs.ReadValues.{signed_reading}
use Rattle.dfdl_value.specs.WholeShown.{IsWholeOf}
use Rattle.dfdl_value.proofs.RangeLemmas.{reading_of_refusal, signed_reading-far}
use Rattle.dfdl_value.proofs.integer.signed_of.Goals as goal

pub returns-in-Ok : goal.returns-in-Ok
returns-in-Ok c = λ number is.
    let P : Result Whole NoValue → Type 0 = λ r. IsWholeOf number r in
    c.signed_value.ensures ∙ ap (signed_reading c.args.bits) (sym (subst P c.in-Ok.is is))

pub returns-in-Err : goal.returns-in-Err
returns-in-Err c = λ number is.
    let P : Result Whole NoValue → Type 0 = λ r. IsWholeOf number r in
    reading_of_refusal (signed_reading c.args.bits) number c.in-Err.why (subst P c.in-Err.is is) refl (λ z. signed_reading-far c.args.bits z c.requires.some c.requires.few)
