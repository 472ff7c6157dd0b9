use Rattle.std.proofs.Common.{◌∙◌}
use Rattle.dfdl_operators.proofs.QuotientLemmas.{answer-parts}
use Rattle.dfdl_operators.proofs.quotient.quotient.Goals as goal

pub returns : goal.returns
returns c =
    c.quotient_at.ensures
    ∙ answer-parts c.args.of.left.negative c.args.of.right.negative c.args.of.left.magnitude c.args.of.right.magnitude c.args.of.left.scale c.args.of.right.scale
    c.requires.left c.requires.right c.if-of-eq0.false
