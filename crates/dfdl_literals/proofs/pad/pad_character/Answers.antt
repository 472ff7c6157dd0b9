use Rattle.std.proofs.Common.{◌≡◌, ap, sym, subst, ◌∙◌, chars}
use Rattle.std.specs.List.{list_any}
use Rattle.dfdl_literals.specs.Lists.{is_divider}
use Rattle.dfdl_literals.specs.Pads.{StandsFor}
use Rattle.dfdl_literals.specs.PadSteps.{pad_found, pad_reading}
use Rattle.dfdl_literals.proofs.PadLaws.{reading_stands}
use Rattle.dfdl_literals.proofs.pad.pad_character.Goals as goal

pub returns-clause-stands_for : goal.returns-clause-stands_for
returns-clause-stands_for c =
    let is : c.standing_for.result ≡ pad_reading (chars c.args.text.now) =
    c.standing_for.ensures ∙ ap (λ b. pad_found b c.found_in_text.result) c.has_space.ensures ∙ ap (λ o. pad_found (list_any is_divider (chars c.args.text.now)) o) c.found_in_text.ensures in
    subst (λ p. StandsFor (chars c.args.text.now) p) (sym is) (reading_stands (chars c.args.text.now))
