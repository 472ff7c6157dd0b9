use Rattle.std.proofs.Common.{sym, ap, ◌∙◌, add-zero}
use Rattle.dfdl_chars.specs.declared.decode.Chars.TheVariants.{Bad, End}
use Rattle.dfdl_chars.specs.Decoding.{in_box, at_unit, no_look, utf16_first}
use Rattle.dfdl_chars.specs.Looks.{joined_by}
use Rattle.dfdl_chars.proofs.utf16.utf16_at.Goals as goal

pub returns-in-Ok-clause-answer : goal.returns-in-Ok-clause-answer
returns-in-Ok-clause-answer g c =
    let here = c.args.here.now in
    let box = in_box here.window.now here.stop in
    let join = joined_by c.args.order in
    ap (λ k. at_unit join box k (no_look c.args.steps.now) (End, Bad 8) (λ unit w. utf16_first join box here.byte unit w)) (sym (add-zero here.byte))
    ∙ c.in-Ok.ensures.next (λ unit w. utf16_first join box here.byte unit w)
    ∙ c.after_first.ensures.answer

pub returns-in-Err-clause-answer : goal.returns-in-Err-clause-answer
returns-in-Err-clause-answer g c =
    let here = c.args.here.now in
    let box = in_box here.window.now here.stop in
    let join = joined_by c.args.order in
    ap (λ k. at_unit join box k (no_look c.args.steps.now) (End, Bad 8) (λ unit w. utf16_first join box here.byte unit w)) (sym (add-zero here.byte))
    ∙ c.in-Err.ensures.next (λ unit w. utf16_first join box here.byte unit w)
