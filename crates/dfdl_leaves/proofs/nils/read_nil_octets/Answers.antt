use Rattle.std.proofs.Common.{ℕ, ◌-◌}
use Rattle.dfdl_bits.specs.Window.{seen_at}
use Rattle.dfdl_leaves.specs.Views.{nil_of}
use Rattle.dfdl_leaves.proofs.NilReadings.{nil_read}
use Rattle.dfdl_leaves.proofs.nils.read_nil_octets.Goals as goal

pub returns-clause-answers : goal.returns-clause-answers
returns-clause-answers g c =
    let looks : ℕ = c.read_octets.new.steps - c.args.steps.now in
    nil_read (seen_at c.args.sight.now) (nil_of c.args.form.now c.args.bits) c.args.bit c.read_octets.new.scratch c.nil_octets_found.new.scratch
    c.in_ok-glance.glance looks c.in_ok-found.found c.in_ok-glance.ensures.answers (c.in_ok-found.ensures.found c.nil_octets_found.new.scratch)
