use Rattle.std.proofs.Common.{ℕ, ◌-◌}
use Rattle.dfdl_bits.specs.Window.{seen_at}
use Rattle.dfdl_delims.specs.Deciding.{goes_on}
use Rattle.dfdl_delims.proofs.Deciders.{decided}
use Rattle.dfdl_leaves.proofs.DelimitedReadings.{absent_read}
use Rattle.dfdl_leaves.proofs.delimited.read_absent.Goals as goal

pub returns-clause-answers : goal.returns-clause-answers
returns-clause-answers g c opened opens =
    let looks : ℕ = c.step.new.steps - c.args.steps.now in
    absent_read (seen_at c.args.sight.now) opened c.args.scan c.args.bit c.args.stop c.scan_of-reading.result.form c.scan_of-reading.result.at
    c.scan_of-reading.ensures.form c.scan_of-reading.ensures.at c.absent_found.new.scratch c.in_ok-found.found looks c.args.value.now c.step.new.self.at
    c.in_ok-glance.glance c.aligned.result c.aligned.ensures (c.in_ok-glance.ensures.answers opened (goes_on opened) opens (decided opened))
    (c.in_ok-found.ensures.shown c.step.new.self.at)
