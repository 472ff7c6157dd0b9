use Rattle.std.proofs.Common.{◌∙◌, ap, ◌-◌, ◌+◌, List, length}
use Rattle.dfdl_escapes.specs.declared.character.Character.{Character}
use Rattle.dfdl_escapes.specs.Trims.{end_trimmed}
use Rattle.dfdl_escapes.proofs.TrimmedContents.{range_kept}
use Rattle.dfdl_escapes.proofs.trimming.bare_range.Goals as goal

pub returns-clause-kept : goal.returns-clause-kept
returns-clause-kept c =
    let form = c.args.form.now in
    let characters = c.args.characters.now in
    range_kept form characters _ _
    (ap (λ (l : List Character). length characters - length l) c.front-rest.ensures.value)
    (ap (λ (l : List Character). length characters - length c.front-rest.result.now + length l)
    (c.end-kept.ensures.value ∙ ap (end_trimmed form.justify form.trim) c.front-rest.ensures.value))
