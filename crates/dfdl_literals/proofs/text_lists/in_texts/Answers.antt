use Rattle.std.proofs.Common.{ap, sym, ◌∙◌}
use Rattle.dfdl_literals.specs.TextSteps.{texts_of}
use Rattle.dfdl_literals.proofs.TextListLaws.{of_texts}
use Rattle.dfdl_literals.proofs.text_lists.in_texts.Goals as goal

pub returns-in-Ok : goal.returns-in-Ok
returns-in-Ok c =
    sym (of_texts c.in-Ok.texts c.in-Ok.ensures.some) ∙ ap texts_of c.in-Ok.ensures.texts
