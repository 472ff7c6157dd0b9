use Rattle.std.proofs.Common.{ap, ◌∙◌, chars}
use Rattle.std.specs.List.{list_any}
use Rattle.dfdl_literals.specs.Lists.{is_divider}
use Rattle.dfdl_literals.specs.FillSteps.{fill_found}
use Rattle.dfdl_literals.proofs.FillLaws.{found_reading}
use Rattle.dfdl_literals.proofs.fill.fill_byte.Goals as goal

pub returns : goal.returns
returns c =
    c.standing_for.ensures ∙ ap (λ b. fill_found b c.found_in_text.result) c.has_space.ensures
    ∙ ap (λ o. fill_found (list_any is_divider (chars c.args.text.now)) o) c.found_in_text.ensures ∙ found_reading (chars c.args.text.now)
