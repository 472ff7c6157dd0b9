use Rattle.std.proofs.Common.{◌+◌, ◌≤◌, take, arith}
use Rattle.std.proofs.Math.Nat.{pow-le-pow_right, le_trans}
use Rattle.dfdl_forms.specs.Types.{form_of}
use Rattle.dfdl_packed.specs.Typed.{integer_in}
use Rattle.dfdl_packed.proofs.ZonedLemmas.{chars_as}
use Rattle.dfdl_packed.proofs.zoned.write_zoned.Goals as goal

pub put_signed-requires-clause-small : goal.put_signed-requires-clause-small
put_signed-requires-clause-small c =
    let less : 39 + c.args.form.now.point ≤ 80 = omega (arith, c.requires.form) in
    le_trans c.in-Some.ensures.small (pow-le-pow_right {n = 10} (omega arith) less)

pub returns-in-Some-clause-chars : goal.returns-in-Some-clause-chars
returns-in-Some-clause-chars c =
    let form = c.args.form.now in
    chars_as form (take c.put_signed.result c.put_signed.new.into) c.in-Some.number (integer_in (form_of form.kind) form.point c.args.value.now)
    c.in-Some.ensures.integer c.put_signed.ensures.chars
