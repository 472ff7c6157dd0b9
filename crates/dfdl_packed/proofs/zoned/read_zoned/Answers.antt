use Rattle.dfdl_packed.specs.Zoned.{zoned_number}
use Rattle.dfdl_packed.proofs.ZonedLemmas.{value_as}
use Rattle.dfdl_packed.proofs.zoned.read_zoned.Goals as goal

pub returns-in-Some : goal.returns-in-Some
returns-in-Some c =
    let form = c.args.form.now in
    value_as form c.in-Some.number (zoned_number form c.args.digits.now) c.value_of.result c.in-Some.ensures c.value_of.ensures
