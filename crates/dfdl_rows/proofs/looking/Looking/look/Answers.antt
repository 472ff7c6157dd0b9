use Rattle.std.proofs.Common.{arith, Some}
use Rattle.std.specs.BTreeSet.{contains}
use Rattle.std.specs.Cmp.Lexicographic.{slice_cmp}
use Rattle.std.specs.Ordering.{nat_cmp}
use Rattle.dfdl_rows.specs.Looking.{stand_of}
use Rattle.dfdl_rows.proofs.Looks.{rest_less}
use Rattle.dfdl_rows.proofs.Elements.{idle_step, own_step, rest_ready}
use Rattle.dfdl_rows.proofs.looking.Looking.look.Goals as goal

pub returns-then-known-number-clause-step : goal.returns-then-known-number-clause-step
returns-then-known-number-clause-step c =
    idle_step c.args.components.now c.args.known.idle.now c.args.known.refusals.now c.args.number c.args.self.now.tasks.items c.requires.ready
    (stand_of c.args.self.now.level c.args.self.now.outer.items) (contains (λ x y. slice_cmp nat_cmp x.now y.now) c.args.self.now.names) c.requires.kept
    c.if-known-number.true

pub returns-then-known-number-clause-ready : goal.returns-then-known-number-clause-ready
returns-then-known-number-clause-ready c = rest_ready _ _ _ _ _ c.requires.ready

pub returns-then-known-number-clause-less : goal.returns-then-known-number-clause-less
returns-then-known-number-clause-less c =
    rest_less c.args.components.now c.requires.ready.order c.requires.ready.are_known.is_order c.args.number (c.requires.ready.within 0 c.args.number (omega arith)) c.args.self.now.tasks.items

pub returns-in-Some-clause-step : goal.returns-in-Some-clause-step
returns-in-Some-clause-step c =
    own_step c.args.components.now c.args.known.idle.now c.args.known.refusals.now c.args.number c.args.self.now.tasks.items c.requires.ready
    (stand_of c.args.self.now.level c.args.self.now.outer.items) (contains (λ x y. slice_cmp nat_cmp x.now y.now) c.args.self.now.names) c.requires.kept
    c.args.self.now.tasks.items (stand_of c.args.self.now.level c.args.self.now.outer.items) (contains (λ x y. slice_cmp nat_cmp x.now y.now) c.args.self.now.names) (Some c.in-Some.refusal) c.in-Some.ensures (cc)

pub returns-in-Some-clause-ready : goal.returns-in-Some-clause-ready
returns-in-Some-clause-ready c = rest_ready _ _ _ _ _ c.requires.ready

pub returns-in-Some-clause-less : goal.returns-in-Some-clause-less
returns-in-Some-clause-less c =
    rest_less c.args.components.now c.requires.ready.order c.requires.ready.are_known.is_order c.args.number (c.requires.ready.within 0 c.args.number (omega arith)) c.args.self.now.tasks.items
