use Rattle.std.proofs.Common.{◌-◌, length, ap, ◌∙◌, arith}
use Rattle.dfdl_grammar.specs.declared.mark.Mark.{Mark}
use Rattle.dfdl_parse.proofs.Innermost.{initiated-found, resolved-found}
use Rattle.dfdl_parse.proofs.marks.innermost_point.Goals as goal

pub returns-then-marks-place-clause-resolved : goal.returns-then-marks-place-clause-resolved
returns-then-marks-place-clause-resolved c =
    let less = c.loop-inside-test.true in
    resolved-found c.args.marks.now (length c.args.marks.now - 1 - c.loop-inside.inside) (length c.args.marks.now - c.loop-inside.inside)
    c.index-marks-place.result (omega arith) (omega arith) c.index-marks-place.is (ap (λ (m : Mark). m.is_point) c.index-marks-place.is ∙ c.if-marks-place.true) c.loop-inside.invariant

pub returns-then-marks-place-clause-initiated : goal.returns-then-marks-place-clause-initiated
returns-then-marks-place-clause-initiated c =
    let less = c.loop-inside-test.true in
    initiated-found c.args.marks.now (length c.args.marks.now - 1 - c.loop-inside.inside) (length c.args.marks.now - c.loop-inside.inside)
    c.index-marks-place.result (omega arith) (omega arith) c.index-marks-place.is (ap (λ (m : Mark). m.is_point) c.index-marks-place.is ∙ c.if-marks-place.true) c.loop-inside.invariant
