use Rattle.dfdl_forms.specs.Types.{form_of}
use Rattle.dfdl_forms.specs.declared.packed.PackedRep.TheVariants.{Bcd, Ibm4690}
use Rattle.dfdl_packed.specs.Typed.{integer_in}
use Rattle.dfdl_packed.proofs.WritingLemmas.{written_as}
use Rattle.dfdl_packed.proofs.writing.nibbles_for.Goals as goal

pub returns-in-Bcd-clause-nibbles : goal.returns-in-Bcd-clause-nibbles
returns-in-Bcd-clause-nibbles c =
    let form = c.args.form.now in
    written_as form Bcd c.bcd.result c.in-Some.number (integer_in (form_of form.kind) form.point c.args.value.now) c.in-Bcd.is c.in-Some.ensures.integer
    c.bcd.ensures.nibbles

pub returns-in-Ibm4690-clause-nibbles : goal.returns-in-Ibm4690-clause-nibbles
returns-in-Ibm4690-clause-nibbles c =
    let form = c.args.form.now in
    written_as form Ibm4690 c.ibm.result c.in-Some.number (integer_in (form_of form.kind) form.point c.args.value.now) c.in-Ibm4690.is c.in-Some.ensures.integer
    c.ibm.ensures.nibbles
