use Rattle.std.proofs.Common.{ℕ, ◌-◌, sym, ap, ◌∙◌}
use Rattle.dfdl_bits.specs.Window.{Held, from_byte, seen_at}
use Rattle.dfdl_looks.specs.Asks.{ask}
use Rattle.dfdl_looks.specs.Tallies.{nothing}
use Rattle.dfdl_grammar.specs.Delimiters.{lists_of, markup}
use Rattle.dfdl_grammar.specs.States.{anchor}
use Rattle.dfdl_grammar.specs.Leaves.{content_begins, program}
use Rattle.dfdl_parse.specs.declared.parser.Parser.{Parser}
use Rattle.dfdl_parse.specs.Prefixed.{behind_units, prefix_move}
use Rattle.dfdl_parse.specs.Shown.{limits_of, state_of}
use Rattle.dfdl_leaves.specs.Views.{primitive_of}
use Rattle.dfdl_parse.proofs.Landings.{moved-at}
use Rattle.dfdl_parse.proofs.parser.Parser.prefix_in_box.Goals as goal

pub returns-clause-moved : goal.returns-clause-moved
returns-clause-moved g c id focus =
    let old = c.args.self.now in
    let primitive = primitive_of c.args.leaf in
    let delimiters = c.args.terms.now.delimiters in
    let lists = lists_of delimiters (markup (state_of old)) in
    let looks : ℕ = c.glance.new.steps - c.args.steps.now in
    moved-at old c.glance.new.self c.land_prefix.new.self (content_begins primitive old.at) c.content_begins-first.result
    (from_byte c.args.sight.now (anchor (state_of old))) c.glance.new.sight c.in_ok-waits.waits looks
    (λ (p : Parser) (first : ℕ) (h : Held). prefix_move (limits_of p h) id c.args.prefix.own first
    (behind_units c.args.terms.now.primitives c.args.prefix.unit c.args.behind) h (ask (seen_at h) (program lists primitive old.at old.stop) nothing) p.stack (state_of p))
    c.in_ok-glance.ensures.same c.content_begins-first.ensures c.in_ok-glance.ensures.held
    (c.in_ok-waits.ensures.moved c.glance.new.sight id looks (ask (seen_at c.glance.new.sight) (program lists primitive old.at old.stop) nothing)
    (ap (λ (p : Parser). p.focus) {y = record old { scratch = c.glance.new.self.scratch; candidates = c.glance.new.self.candidates }} c.in_ok-glance.ensures.same ∙ focus)
    (c.in_ok-glance.ensures.answers delimiters (c.requires.registered.holds, c.requires.registered.within.open_lists)) (sym c.size-window.ensures.size))
