use Rattle.std.proofs.Common.{◌≡◌, ◌<◌, Bool, true, false, sym, subst, arith}
use Rattle.dfdl_operators.specs.Places.{is_below}
use Rattle.dfdl_operators.proofs.PlaceLemmas.{at, below_positive, not_below_positive}
use Rattle.dfdl_operators.proofs.substrings.places_below.Goals as goal

pub returns-clause-below : goal.returns-clause-below
returns-clause-below c = λ place first le.
    let number = c.args.number in
    let some : 0 < number.magnitude = omega (arith, c.if-number-eq0.false) in
    let P : Bool → Type 0 = λ b. is_below place (at b number.magnitude number.scale) ≡ true in
    subst P (sym c.if-number.false) (below_positive number.magnitude number.scale place some (omega (arith, le, c.cut.ensures)))

pub returns-clause-not_below : goal.returns-clause-not_below
returns-clause-not_below c = λ place less.
    let number = c.args.number in
    let some : 0 < number.magnitude = omega (arith, c.if-number-eq0.false) in
    let P : Bool → Type 0 = λ b. is_below place (at b number.magnitude number.scale) ≡ false in
    subst P (sym c.if-number.false) (not_below_positive number.magnitude number.scale place some (omega (arith, less, c.cut.ensures)))
