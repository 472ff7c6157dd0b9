use Rattle.std.proofs.Common.{suc, ◌-◌, ◌/◌, [], arith}
use Rattle.dfdl_escapes.proofs.Giving.{content-back, steps-give}
use Rattle.dfdl_escapes.proofs.laws.steps_give_contents.Goals as goal

pub returns-clause-given : goal.returns-clause-given
returns-clause-given c look test lists form at last characters ends t is =
    steps-give look test lists form at last characters ends is (suc (form.stop / 8 - at.byte)) (omega arith) [] t

pub returns-clause-back : goal.returns-clause-back
returns-clause-back c look test lists form at content t reads = content-back look test lists form at content t reads
