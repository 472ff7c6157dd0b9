use Rattle.std.proofs.Common.{ℕ, ◌-◌, ap, sym, ◌∙◌}
use Rattle.dfdl_bits.specs.Window.{from_byte, seen_at}
use Rattle.dfdl_looks.specs.Asks.{ask}
use Rattle.dfdl_looks.specs.Tallies.{nothing}
use Rattle.dfdl_grammar.specs.Delimiters.{sought_among}
use Rattle.dfdl_grammar.specs.Framing.{aligned}
use Rattle.dfdl_grammar.specs.States.{State, anchor_at}
use Rattle.dfdl_parse.specs.declared.parser.Parser.{Parser}
use Rattle.dfdl_parse.specs.Searches.{among}
use Rattle.dfdl_parse.specs.Shown.{state_of}
use Rattle.dfdl_parse.proofs.Landings.{sought-moved}
use Rattle.dfdl_parse.proofs.parser.Parser.seek.Goals as goal

pub returns-clause-moved : goal.returns-clause-moved
returns-clause-moved g c =
    let old = c.args.self.now in
    let s : State = state_of old in
    let delimiters = c.args.terms.now.delimiters in
    let looks : ℕ = c.glance_at_text.new.steps - c.args.steps.now in
    let same = c.in_ok-glance.ensures.same in
    sought-moved old c.glance_at_text.new.self c.pass_text.new.self delimiters c.args.sight.now c.drop_before.new.self c.args.sought
    c.pass_text.result looks same
    (c.drop_before.ensures ∙ ap (from_byte c.args.sight.now) (c.anchor_at.ensures ∙ ap (anchor_at s) c.aligned-bit.ensures)) c.requires.focus
    (c.pass_text.ensures.moved c.drop_before.new.self looks
    (ask (seen_at c.drop_before.new.self) (sought_among (among delimiters c.args.sought s) old.at old.stop) nothing)
    c.in_ok-glance.ensures.answers (c.aligned-bit.ensures ∙ ap (λ (n : ℕ). aligned 8 n) (sym (ap (λ (p : Parser). p.at) same))))
