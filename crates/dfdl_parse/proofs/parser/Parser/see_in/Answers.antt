use Rattle.std.proofs.Common.{ℕ, ◌-◌, sym}
use Rattle.dfdl_bits.specs.Window.{Held, from_byte, seen_at}
use Rattle.std.proofs.Common.{Bool}
use Rattle.dfdl_looks.specs.Asks.{Ask, ask}
use Rattle.dfdl_looks.specs.Tallies.{nothing}
use Rattle.dfdl_grammar.specs.Delimiters.{lists_of, markup}
use Rattle.dfdl_grammar.specs.Slots.{is_empty_at}
use Rattle.dfdl_grammar.specs.States.{anchor}
use Rattle.dfdl_parse.specs.declared.parser.Parser.{Parser}
use Rattle.dfdl_parse.specs.Shown.{limits_of, state_of}
use Rattle.dfdl_parse.specs.Slots.{in_move}
use Rattle.dfdl_parse.proofs.SlotTakes.{question-moved}
use Rattle.dfdl_parse.proofs.parser.Parser.see_in.Goals as goal

pub returns-clause-moved : goal.returns-clause-moved
returns-clause-moved g c =
    let old = c.args.self.now in
    let lists = lists_of c.args.terms.now.delimiters (markup (state_of old)) in
    let asks : Ask Bool = is_empty_at lists old.at old.stop in
    let looks : ℕ = c.ask_in.new.steps - c.args.steps.now in
    question-moved old c.ask_in.new.self c.take_in.new.self (from_byte c.args.sight.now (anchor (state_of old))) c.ask_in.new.sight c.in_ok-waits.waits looks
    (λ (p : Parser) (h : Held). in_move (limits_of p h) h c.args.initiated c.args.slot c.args.body (ask (seen_at h) asks nothing) p.stack (state_of p))
    c.in_ok-told.ensures.same c.in_ok-told.ensures.held
    (c.in_ok-waits.ensures.moved c.ask_in.new.sight looks (ask (seen_at c.ask_in.new.sight) asks nothing) c.in_ok-told.ensures.answers (sym c.size.ensures.size))
