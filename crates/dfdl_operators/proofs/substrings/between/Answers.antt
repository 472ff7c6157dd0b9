use Rattle.std.proofs.Common.{◌-◌, ◌∙◌, sym, ap, take, chars, Some, Ok}
use Rattle.dfdl_operators.specs.Numbers.{number_of}
use Rattle.dfdl_operators.specs.NumberShown.{shown}
use Rattle.dfdl_operators.specs.Places.{between_places}
use Rattle.dfdl_operators.proofs.PlaceLemmas.{between_is}
use Rattle.dfdl_operators.proofs.substrings.between.Goals as goal

pub returns-in-Ok-clause-ok : goal.returns-in-Ok-clause-ok
returns-in-Ok-clause-ok c =
    let cs = chars c.args.text.now in
    let of = c.in-Ok.of in
    let skipped = c.places_below-skipped in
    let last = c.places_below-last in
    ap (λ o. between_places o (number_of c.args.end.now) cs) c.in-Ok.ensures.left_number
    ∙ ap (λ o. between_places (Some (shown of.left)) o cs) c.in-Ok.ensures.right_number
    ∙ ap Ok (between_is (shown of.left) skipped.result skipped.ensures.below skipped.ensures.not_below (shown of.right) last.result last.ensures.below last.ensures.not_below cs
    ∙ sym (c.front.ensures ∙ ap (λ n. take n (chars c.behind.result.now)) c.saturating_sub.ensures ∙ ap (take (last.result - skipped.result)) c.behind.ensures.left))
