use Rattle.std.proofs.Common.{◌≡◌, ◌-◌, ap, ◌∙◌, arith}
use Rattle.dfdl_forms.specs.Types.{form_of}
use Rattle.dfdl_packed.specs.Typed.{of_value}
use Rattle.dfdl_packed.proofs.TypedLemmas.{reading_is}
use Rattle.dfdl_packed.proofs.typed.value_of.Goals as goal

pub returns : goal.returns
returns c = λ n shows.
    let size = c.args.size in
    let held = c.held_with_zeros-magnitude in
    let zeros : size.zeros - c.args.point ≡ c.saturating_sub.result = omega arith in
    c.of_value.ensures
    ∙ ap of_value (reading_is (form_of c.args.kind) c.args.negative n size c.args.point held.result c.saturating_sub-scale.result c.value_of_number.result shows
    (λ m is. rw zeros (held.ensures m is)) (omega arith) c.value_of_number.ensures.held c.value_of_number.ensures.past)
