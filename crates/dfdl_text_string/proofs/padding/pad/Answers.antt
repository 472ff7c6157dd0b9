use Rattle.std.proofs.Common.{◌∙◌, sym, ap}
use Rattle.dfdl_text_string.specs.Padding.{room_padded}
use Rattle.dfdl_text_string.proofs.PaddingLemmas.{filled_and_turned, filled_end, padded_is}
use Rattle.dfdl_text_string.proofs.padding.pad.Goals as goal

pub returns-clause-padded : goal.returns-clause-padded
returns-clause-padded c =
    let old = c.args.chars.now in
    padded_is c.args.form.now.justify c.in-Some.pad old c.rotate_right.new.self c.args.len c.padding_before-before.result c.requires.within c.padding_before-before.ensures.value
    (filled_and_turned c.in-Some.pad old _ c.rotate_right.new.self c.args.len c.padding_before-before.result c.requires.within c.padding_before-before.ensures.within
    (filled_end c.in-Some.pad old c.fill.new.self c.args.len c.requires.within (c.fill.ensures.after (λ y e. e))) c.rotate_right.ensures.after)
    ∙ ap (λ o. room_padded c.args.form.now.justify o c.args.len old) (sym c.in-Some.is)
