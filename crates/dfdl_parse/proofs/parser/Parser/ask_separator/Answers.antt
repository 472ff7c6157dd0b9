use Rattle.std.proofs.Common.{◌-◌, ℕ, length, ap, subst, sym, ◌∙◌}
use Rattle.dfdl_bits.specs.Window.{seen_at}
use Rattle.dfdl_looks.specs.Asks.{ask}
use Rattle.dfdl_looks.specs.Tallies.{nothing}
use Rattle.dfdl_grammar.specs.Delimiters.{lists_of, markup}
use Rattle.dfdl_grammar.specs.Slots.{separator_follows}
use Rattle.dfdl_parse.specs.declared.testing.Told.{Told}
use Rattle.dfdl_parse.specs.declared.testing.Verdict.{Verdict}
use Rattle.dfdl_parse.specs.Shown.{state_of}
use Rattle.dfdl_parse.specs.SlotLooks.{Answers, found_at}
use Rattle.dfdl_parse.proofs.SlotGlances.{separator-answers}
use Rattle.dfdl_parse.proofs.parser.Parser.ask_separator.Goals as goal

pub returns-clause-answers : goal.returns-clause-answers
returns-clause-answers g c =
    let old = c.args.self.now in
    let lists = lists_of c.args.terms.now.delimiters (markup (state_of old)) in
    let place : ℕ = length (markup (state_of old)) - 1 in
    let sight = c.drop_before.new.self in
    let glance = c.in_ok-glance.glance in
    let looks = c.glance_at_text.new.steps - c.args.steps.now in
    subst (λ (told : Told). Answers (ask (seen_at sight) (separator_follows lists place old.at old.stop) nothing) told looks)
    (sym (c.told.ensures ∙ ap (λ (verdict : Verdict). record { verdict = verdict; far = glance.far })
    (c.found_at.ensures ∙ ap (λ (n : ℕ). found_at n glance.found) c.place_of-place.ensures)))
    (separator-answers (seen_at sight) lists place old.at old.stop glance looks c.in_ok-glance.ensures.answers)
