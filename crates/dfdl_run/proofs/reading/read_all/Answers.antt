use Rattle.std.proofs.Common.{[], refl, arith}
use Rattle.dfdl_run.proofs.Rests.{none_given}
use Rattle.dfdl_run.proofs.reading.read_all.Goals as goal

-- nothing was read
pub loop-feeding-init : goal.loop-feeding-init
loop-feeding-init g c = record {
  read = record { bytes = []; taken = c.requires.begun; given = none_given (g.S.Source.seen c.args.source.now).left };
  few = omega (arith);
  buffer = refl;
  faults = refl;
}
