use Rattle.std.proofs.Common.{◌≡◌, ◌≤◌, ◌-◌, length}
use Rattle.dfdl_run.specs.Fed.{HasRead}
use Rattle.dfdl_run.proofs.reading.read_all.Given as goal

-- the bytes that the source has given were taken, with no fault
abbrev pub invariant-loop-feeding : goal.invariant-loop-feeding
invariant-loop-feeding g l = record {
  read : HasRead l.initial.feeding.session.terms.now (g.S.Source.seen l.initial.source).left (g.S.Source.seen l.source).left l.feeding;
  few : l.feeding.count ≤ l.most;
  buffer : length l.buffer ≡ length l.initial.buffer;
  faults : (g.S.Source.seen l.source).faults ≡ (g.S.Source.seen l.initial.source).faults;
}

abbrev pub decreases-loop-feeding : goal.decreases-loop-feeding
decreases-loop-feeding g l = l.most - l.feeding.count
