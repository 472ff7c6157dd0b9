use Rattle.std.proofs.Common.{ℕ, ◌-◌, refl}
use Rattle.dfdl_bits.specs.Window.{seen_at}
use Rattle.dfdl_delims.specs.Deciding.{goes_on}
use Rattle.dfdl_delims.proofs.Deciders.{decided}
use Rattle.dfdl_leaves.proofs.DelimitedReadings.{delimited_read}
use Rattle.dfdl_leaves.proofs.delimited.read_delimited.Goals as goal

pub returns-clause-answers : goal.returns-clause-answers
returns-clause-answers g c opened opens =
    let looks : ℕ = c.read_content.new.steps - c.args.steps.now in
    delimited_read (seen_at c.args.sight.now) opened c.args.scan c.args.bit c.args.stop c.scan_of-reading.result.form c.scan_of-reading.result.at
    c.scan_of-reading.ensures.form c.scan_of-reading.ensures.at c.ended_found.new.scratch c.in_ok-found.found looks c.args.form.now
    c.clear.new.self.items c.read_content.new.into.items c.read_content.new.scan.at c.in_ok-read.read c.clear.ensures.items
    (c.in_ok-read.ensures.answers opened (goes_on opened) opens (decided opened))
    (c.in_ok-found.ensures.shown c.read_content.new.scan.at refl)
