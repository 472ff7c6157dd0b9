use Rattle.std.proofs.Common.{ℕ, ◌-◌, sym}
use Rattle.dfdl_bits.specs.Window.{Held, from_byte, seen_at}
use Rattle.dfdl_looks.specs.Asks.{ask}
use Rattle.dfdl_looks.specs.Tallies.{nothing}
use Rattle.dfdl_grammar.specs.Delimiters.{lists_of, markup}
use Rattle.dfdl_grammar.specs.States.{anchor}
use Rattle.dfdl_grammar.specs.Leaves.{content_begins, program_for}
use Rattle.dfdl_parse.specs.declared.parser.Parser.{Parser}
use Rattle.dfdl_parse.specs.Moves.{read_move}
use Rattle.dfdl_parse.specs.Shown.{limits_of, state_of}
use Rattle.dfdl_leaves.specs.Views.{primitive_of, wanted}
use Rattle.dfdl_parse.proofs.Landings.{moved-at}
use Rattle.dfdl_parse.proofs.parser.Parser.read_in_box.Goals as goal

pub returns-clause-moved : goal.returns-clause-moved
returns-clause-moved g c cost delimiters free opens =
    let old = c.args.self.now in
    let primitive = primitive_of c.args.leaf in
    let nil = wanted c.args.wanted in
    let lists = lists_of delimiters (markup (state_of old)) in
    let looks : ℕ = c.glance.new.steps - c.args.steps.now in
    moved-at old c.glance.new.self c.land.new.self (content_begins primitive old.at) c.content_begins-first.result
    (from_byte c.args.sight.now (anchor (state_of old))) c.glance.new.sight c.land.result looks
    (λ (p : Parser) (first : ℕ) (h : Held). read_move cost (limits_of p h) p.focus first h (ask (seen_at h) (program_for nil lists primitive old.at old.stop) nothing) p.stack (state_of p))
    c.in_ok-glance.ensures.same c.content_begins-first.ensures c.in_ok-glance.ensures.held
    (c.land.ensures.moved c.glance.new.sight looks (ask (seen_at c.glance.new.sight) (program_for nil lists primitive old.at old.stop) nothing) cost
    (c.in_ok-glance.ensures.answers delimiters opens) (sym c.size.ensures.size) free)
