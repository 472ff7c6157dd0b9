use Rattle.dfdl_checks.proofs.Made.{made}
use Rattle.dfdl_checks.specs.JudgedShown.{judged_of}
use Rattle.dfdl_checks.proofs.number.number_of_type.Goals as goal

pub returns : goal.returns
returns c =
    made (judged_of c.args.subject.now) c.args.simple c.orders_of.ensures c.most_bits.ensures c.field_bits.ensures c.property.ensures
    c.places_of.ensures c.number_by.ensures
