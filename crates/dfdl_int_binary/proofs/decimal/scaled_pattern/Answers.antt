use Rattle.std.proofs.Common.{◌≡◌, ◌*ℤ◌, ◌^◌, ◌-◌, pos, FitsSigned, nat_le, true, arith}
use Rattle.std.specs.Int.{w128}
use Rattle.std.proofs.lemmas.Bool.Decides.{nat_tests}
use Rattle.std.proofs.lemmas.Int.{to_z-of_z}
use Rattle.dfdl_int_binary.proofs.Scaled.{pattern_none}
use Rattle.dfdl_int_binary.proofs.decimal.scaled_pattern.Goals as goal

pub returns-in-None-clause-pattern : goal.returns-in-None-clause-pattern
returns-in-None-clause-pattern c =
    let decimal = c.args.decimal.now in
    let inside : nat_le decimal.scale c.args.point ≡ true = grind (arith, nat_tests) in
    let mantissa_fits : FitsSigned w128 c.mantissa.result = record { sfits = c.mantissa.type_inv } in
    rw inside
    (pattern_none c.args.bits (decimal.mantissa *ℤ pos (10 ^ (c.args.point - decimal.scale))) c.requires.few (λ fits.
    c.in-None.ensures (rw (to_z-of_z w128 c.mantissa.result mantissa_fits, c.mantissa.ensures.value, c.scale-2.ensures.value) fits)))
