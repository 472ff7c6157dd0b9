use Rattle.dfdl_checks.proofs.Answered.{if-some}
use Rattle.dfdl_checks.specs.JudgedShown.{judged_of}
use Rattle.dfdl_checks.specs.Numbers.{primitive_of}
use Rattle.dfdl_terms.specs.Rows.{IsPrimitive}
use Rattle.dfdl_checks.proofs.prefixes.bounded_primitive.Goals as goal

pub returns-clause-bounded : goal.returns-clause-bounded
returns-clause-bounded c =
    if-some (primitive_of (judged_of c.args.subject.now)) IsPrimitive c.primitive.result c.primitive.ensures.form
    (c.primitives_are_bounded.ensures.bounded (judged_of c.args.subject.now))
