use Rattle.std.proofs.Common.{◌∙◌, ap, ◌-◌, ◌+◌, length}
use Rattle.dfdl_text_string.specs.Padding.{is_trim, end_trimmed}
use Rattle.dfdl_text_string.proofs.PaddingLemmas.{range_trimmed}
use Rattle.dfdl_text_string.proofs.padding.bare_range.Goals as goal

pub returns-clause-kept : goal.returns-clause-kept
returns-clause-kept c =
    let f = c.args.form.now in
    let text = c.args.chars.now in
    range_trimmed f.justify (is_trim f.trim) text _ _
    (ap (λ l. length text - length l) c.front-rest.ensures.value)
    (ap (λ l. length text - length c.front-rest.result.now + length l) (c.end-kept.ensures.value ∙ ap (end_trimmed f.justify (is_trim f.trim)) c.front-rest.ensures.value))
