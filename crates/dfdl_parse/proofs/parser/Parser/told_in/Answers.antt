use Rattle.std.proofs.lemmas.Bool.Decides.{nat_tests}
use Rattle.std.proofs.Common.{◌≡◌, ℕ, nat_le, false, ◌+◌, ◌-◌, ◌/◌, max, ap, subst, sym, ◌∙◌, arith}
use Rattle.dfdl_bits.specs.Window.{seen_at}
use Rattle.dfdl_looks.specs.Asks.{ask}
use Rattle.dfdl_looks.specs.Tallies.{nothing}
use Rattle.dfdl_grammar.specs.Delimiters.{lists_of, markup}
use Rattle.dfdl_grammar.specs.Slots.{is_empty_at}
use Rattle.dfdl_parse.specs.declared.testing.Told.{Told}
use Rattle.dfdl_parse.specs.Shown.{state_of}
use Rattle.dfdl_parse.specs.SlotLooks.{Answers}
use Rattle.dfdl_parse.proofs.SlotGlances.{byte-answers}
use Rattle.dfdl_parse.proofs.parser.Parser.told_in.Goals as goal

pub returns-in_ok-markup-in-Byte-clause-answers : goal.returns-in_ok-markup-in-Byte-clause-answers
returns-in_ok-markup-in-Byte-clause-answers g c =
    let old = c.args.self.now in
    let lists = lists_of c.args.terms.now.delimiters (markup (state_of old)) in
    let markup_told = c.in_ok-markup-in-Byte.markup in
    let made : ℕ = c.told_of_markup.new.steps - c.look.new.steps in
    let less = c.if-over.false in
    let inside : nat_le old.stop old.at ≡ false = grind (arith, nat_tests) in
    let cost = c.look.ensures.cost in
    let later = c.told_of_markup.ensures.steps in
    subst (λ (told : Told). Answers (ask (seen_at c.args.sight.now) (is_empty_at lists old.at old.stop) nothing) told (c.told_of_markup.new.steps - c.args.steps.now))
    (sym c.seen_past.ensures)
    (subst (λ (n : ℕ). Answers (ask (seen_at c.args.sight.now) (is_empty_at lists old.at old.stop) nothing)
    (record { verdict = markup_told.verdict; far = max markup_told.far (old.at / 8 + 1) }) n) (omega arith)
    (byte-answers (seen_at c.args.sight.now) lists old.at old.stop inside c.in-Byte.field-0 markup_told made (sym c.look.ensures.seen ∙ c.in-Byte.is)
    c.in_ok-markup-in-Byte.ensures.answers))
