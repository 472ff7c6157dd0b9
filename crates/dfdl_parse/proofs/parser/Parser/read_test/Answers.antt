use Rattle.std.proofs.Common.{ℕ, ◌-◌, sym}
use Rattle.dfdl_bits.specs.Window.{Held, from_byte, seen_at}
use Rattle.dfdl_looks.specs.Asks.{Ask, ask}
use Rattle.dfdl_looks.specs.Tallies.{nothing}
use Rattle.dfdl_texts.specs.Texts.{Text}
use Rattle.dfdl_grammar.specs.Framing.{aligned}
use Rattle.dfdl_grammar.specs.Leaves.{text_sought}
use Rattle.dfdl_grammar.specs.States.{anchor}
use Rattle.dfdl_parse.specs.declared.parser.Parser.{Parser}
use Rattle.dfdl_parse.specs.Shown.{limits_of, state_of}
use Rattle.dfdl_parse.specs.Testing.{test_move}
use Rattle.dfdl_parse.proofs.Landings.{asked-moved}
use Rattle.dfdl_parse.proofs.parser.Parser.read_test.Goals as goal

pub returns-clause-moved : goal.returns-clause-moved
returns-clause-moved g c cost free =
    let old = c.args.self.now in
    let test = c.args.test.now in
    let asks : Ask Text = text_sought test.form (aligned 8 old.at) old.stop in
    let looks : ℕ = c.glance_at_test.new.steps - c.args.steps.now in
    asked-moved old c.glance_at_test.new.self c.take_verdict.new.self (from_byte c.args.sight.now (anchor (state_of old))) c.glance_at_test.new.sight
    c.take_verdict.result looks
    (λ (p : Parser) (h : Held). test_move cost (limits_of p h) p.focus test c.args.number h (ask (seen_at h) asks nothing) p.stack (state_of p))
    c.in_ok-told.ensures.same c.in_ok-told.ensures.held
    (c.take_verdict.ensures.moved c.glance_at_test.new.sight looks (ask (seen_at c.glance_at_test.new.sight) asks nothing) cost
    c.in_ok-told.ensures.tells (sym c.size.ensures.size) free)
