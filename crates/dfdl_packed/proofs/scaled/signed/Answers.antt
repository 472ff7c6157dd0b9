use Rattle.std.proofs.Common.{◌≡◌, ℤ, pos, negsuc, refl, sym, ◌∙◌, arith}
use Rattle.std.proofs.lemmas.Bool.{le-ltb}
use Rattle.std.specs.Prelude.{int_lt}
use Rattle.std.specs.Int.{w128}
use Rattle.std.proofs.lemmas.Int.{to_z-of_z}
use Rattle.dfdl_packed.specs.Packed.{is_negative}
use Rattle.dfdl_packed.proofs.ScaledLemmas.{negative_product, small_product}
use Rattle.dfdl_packed.proofs.scaled.signed.Goals as goal

below_zero : (z : ℤ) → int_lt z (pos 0) ≡ is_negative z
below_zero (pos n) = le-ltb n 0 (omega arith)
below_zero (negsuc n) = refl

pub returns-clause-negative : goal.returns-clause-negative
returns-clause-negative c =
    rw (to_z-of_z w128 c.args.integer c.ranges.integer) (below_zero c.args.integer ∙ sym (negative_product c.args.integer c.args.zeros))

pub returns-clause-small : goal.returns-clause-small
returns-clause-small c = small_product c.unsigned_abs.result c.args.zeros (omega (arith, c.unsigned_abs.ensures.bound))
