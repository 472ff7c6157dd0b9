use Rattle.std.proofs.Common.{refl, sym, ◌∙◌, arith}
use Rattle.dfdl_parse.proofs.Statings.{all-stated, last-stated, more-stated}
use Rattle.dfdl_parse.proofs.stating.state_from.Goals as goal

pub returns-then-not-is_done : goal.returns-then-not-is_done
returns-then-not-is_done c limits most =
    let less = c.stating-test.true in
    last-stated c.args.terms.now c.args.start c.args.first c.stating.number c.args.last c.args.parser.now c.stating.parser c.state.new.self (omega arith)
    c.stating.invariant c.in_ok-state.ensures (sym c.is_done.ensures ∙ c.if-not-is_done.true) limits most

pub stating-preserved : goal.stating-preserved
stating-preserved c =
    let less = c.stating-test.true in
    more-stated c.args.terms.now c.args.start c.args.first c.stating.number c.args.last c.args.parser.now c.stating.parser c.state.new.self (omega arith)
    c.stating.invariant c.in_ok-state.ensures (sym c.is_done.ensures ∙ c.if-not-is_done.false)

pub returns : goal.returns
returns c limits most =
    let over = c.stating-test.false in
    all-stated c.args.terms.now c.args.start c.args.first c.stating.number c.args.last c.args.parser.now c.stating.parser _ (omega arith) c.stating.invariant refl limits most
