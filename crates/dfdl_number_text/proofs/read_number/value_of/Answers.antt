use Rattle.std.proofs.Common.{Option, Err, ap, sym, subst, ◌∙◌}
use Rattle.dfdl_forms.specs.Types.{form_of}
use Rattle.dfdl_number_text.specs.declared.read_number.Number.{Number}
use Rattle.dfdl_number_text.specs.NumberReading.{of_value}
use Rattle.dfdl_number_text.specs.ReadShown.{Shows}
use Rattle.dfdl_number_text.proofs.ReadNumber.{value_if}
use Rattle.dfdl_number_text.proofs.read_number.value_of.Goals as goal

pub returns-in-Ok : goal.returns-in-Ok
returns-in-Ok c = λ d shows.
    let P : Option Number → Type 0 = λ n. Shows n d in
    ap of_value (sym c.in-Ok.is)
    ∙ value_if (form_of c.args.kind) c.in-Some.number c.value_of_number.result c.value_of_number.ensures.held c.value_of_number.ensures.past d (subst P c.in-Some.is shows)

pub returns-in-Err : goal.returns-in-Err
returns-in-Err c = λ d shows.
    let P : Option Number → Type 0 = λ n. Shows n d in
    ap Err c.fault.ensures
    ∙ ap of_value (sym c.in-Err.is)
    ∙ value_if (form_of c.args.kind) c.in-Some.number c.value_of_number.result c.value_of_number.ensures.held c.value_of_number.ensures.past d (subst P c.in-Some.is shows)
