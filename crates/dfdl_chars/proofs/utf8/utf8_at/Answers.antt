use Rattle.std.proofs.Common.{[], ◌∷◌, ◌∙◌}
use Rattle.dfdl_chars.specs.Decoding.{in_box, utf8_after}
use Rattle.dfdl_chars.specs.Sequences.{is_sequence, is_begun}
use Rattle.dfdl_chars.proofs.utf8.utf8_at.Goals as goal

pub returns-in-Ok-clause-answer : goal.returns-in-Ok-clause-answer
unfolding is_sequence is_begun
returns-in-Ok-clause-answer g c =
    let here = c.args.here.now in
    c.in-Ok.ensures.next (λ b w. utf8_after 3 (in_box here.window.now here.stop) here.byte (b ∷ []) w) ∙ c.after_one.ensures.answer

pub returns-in-Err-clause-answer : goal.returns-in-Err-clause-answer
unfolding is_sequence is_begun
returns-in-Err-clause-answer g c =
    let here = c.args.here.now in
    c.in-Err.ensures.next (λ b w. utf8_after 3 (in_box here.window.now here.stop) here.byte (b ∷ []) w)
