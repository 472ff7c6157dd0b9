use Rattle.dfdl_checks.proofs.Made.{packed-made}
use Rattle.dfdl_checks.specs.JudgedShown.{judged_of}
use Rattle.dfdl_checks.proofs.number.packed_of_type.Goals as goal

pub returns : goal.returns
returns c =
    packed-made (judged_of c.args.subject.now) c.args.simple c.args.rep c.orders_of.ensures c.is_strict.ensures c.field_nibbles.ensures
    c.property.ensures c.codes_for.ensures c.property-2.ensures c.places_of.ensures c.packed_by.ensures
