use Rattle.std.proofs.Common.{arith}
use Rattle.dfdl_parse.proofs.Statings.{end-again, more-again}
use Rattle.dfdl_parse.proofs.stating.reconsider_from.Goals as goal

pub again-preserved : goal.again-preserved
again-preserved c =
    let less = c.again-test.true in
    more-again c.args.terms.now c.args.start c.args.first c.again.number c.args.last c.args.parser.now c.again.parser c.reconsider_one.new.self (omega arith)
    c.again.invariant c.in_ok-reconsider_one.ensures

pub returns : goal.returns
returns c =
    let over = c.again-test.false in
    end-again c.args.terms.now c.args.start c.args.first c.again.number c.args.last c.args.parser.now c.again.parser (omega arith) c.again.invariant
