use Rattle.std.proofs.Common.{◌∙◌, sym, ap, chars, Ok}
use Rattle.dfdl_operators.specs.NumberShown.{shown}
use Rattle.dfdl_operators.specs.Places.{from_place}
use Rattle.dfdl_operators.proofs.PlaceLemmas.{from_is}
use Rattle.dfdl_operators.proofs.substrings.substring_from.Goals as goal

pub returns-in-Ok-clause-ok : goal.returns-in-Ok-clause-ok
returns-in-Ok-clause-ok c =
    let cs = chars c.args.text.now in
    let least = c.places_below in
    ap (λ o. from_place o cs) c.in-Ok.ensures.number
    ∙ ap Ok (from_is (shown c.in-Ok.number) least.result least.ensures.below least.ensures.not_below cs ∙ sym c.behind.ensures.left)
