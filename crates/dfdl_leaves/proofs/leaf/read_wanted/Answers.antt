use Rattle.std.proofs.Common.{ℕ, ◌-◌, subst, sym}
use Rattle.dfdl_bits.specs.Window.{seen_at}
use Rattle.dfdl_looks.specs.Asks.{ask}
use Rattle.dfdl_looks.specs.Tallies.{nothing}
use Rattle.dfdl_grammar.specs.Leaves.{program, program_for}
use Rattle.dfdl_leaves.specs.declared.view.Wanted.{Wanted}
use Rattle.dfdl_leaves.specs.Readings.{Answers}
use Rattle.dfdl_leaves.specs.Views.{primitive_of, wanted}
use Rattle.dfdl_leaves.proofs.NilReadings.{nil_value_read}
use Rattle.dfdl_leaves.proofs.leaf.read_wanted.Goals as goal

pub returns-in_ok-found-in-OneOf-clause-answers : goal.returns-in_ok-found-in-OneOf-clause-answers
returns-in_ok-found-in-OneOf-clause-answers g c opened opens =
    let look = seen_at c.args.sight.now in
    let primitive = primitive_of c.args.leaf in
    let looks : ℕ = c.read_leaf.new.steps - c.args.steps.now in
    let after = c.nil_value_found.new.scratch in
    subst (λ (w : Wanted). Answers (ask look (program_for (wanted w) opened primitive c.args.bit c.args.stop) nothing) after
    (record { found = c.in_ok-found-in-OneOf.found; far = c.in_ok-glance.glance.far }) looks) (sym c.in-OneOf.is)
    (nil_value_read look c.in-OneOf.values.now (program opened primitive c.args.bit c.args.stop) c.read_leaf.new.scratch after c.in_ok-glance.glance looks
    c.in_ok-found-in-OneOf.found (c.in_ok-glance.ensures.answers opened opens) (c.in_ok-found-in-OneOf.ensures.found after))
