use Rattle.dfdl_checks.proofs.Made.{truth-made}
use Rattle.dfdl_checks.specs.JudgedShown.{judged_of}
use Rattle.dfdl_checks.proofs.number.truth_of.Goals as goal

pub returns : goal.returns
returns c =
    truth-made (judged_of c.args.subject.now) c.orders_of.ensures c.field_bits.ensures c.property.ensures c.truth_told.ensures
    c.property-2.ensures c.falsity_told.ensures c.truth_by.ensures
