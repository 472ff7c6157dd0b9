use Rattle.std.proofs.Common.{◌-◌, ap, subst, sym, ◌∙◌}
use Rattle.dfdl_bits.specs.Window.{seen_at}
use Rattle.dfdl_looks.specs.Asks.{ask}
use Rattle.dfdl_looks.specs.Tallies.{nothing}
use Rattle.dfdl_grammar.specs.Delimiters.{lists_of, markup}
use Rattle.dfdl_grammar.specs.Slots.{markup_follows}
use Rattle.dfdl_parse.specs.declared.testing.Told.{Told}
use Rattle.dfdl_parse.specs.declared.testing.Verdict.{Verdict}
use Rattle.dfdl_parse.specs.Shown.{state_of}
use Rattle.dfdl_parse.specs.SlotLooks.{Answers}
use Rattle.dfdl_parse.proofs.SlotGlances.{follows-answers}
use Rattle.dfdl_parse.proofs.parser.Parser.told_of_markup.Goals as goal

pub returns-clause-answers : goal.returns-clause-answers
returns-clause-answers g c =
    let old = c.args.self.now in
    let lists = lists_of c.args.terms.now.delimiters (markup (state_of old)) in
    let glance = c.in_ok-glance.glance in
    let looks = c.glance_at_text.new.steps - c.args.steps.now in
    subst (λ (told : Told). Answers (ask (seen_at c.args.sight.now) (markup_follows lists old.at old.stop) nothing) told looks)
    (sym (c.told.ensures ∙ ap (λ (verdict : Verdict). record { verdict = verdict; far = glance.far }) c.any_found.ensures))
    (follows-answers (seen_at c.args.sight.now) lists old.at old.stop glance looks c.in_ok-glance.ensures.answers)
