use Rattle.std.proofs.Common.{length, drop, ap, ◌∙◌, arith, chars}
use Rattle.std.proofs.lemmas.Bool.{cond-false, cond-true}
use Rattle.std.proofs.lemmas.Iterator.{YieldsList-from_chars}
use Rattle.std.proofs.lemmas.Iterator.Consumers.{YieldsList-turn, YieldsList-end}
use Rattle.std.proofs.lemmas.List.{length_push}
use Rattle.dfdl_machines.specs.Machines.{run}
use Rattle.dfdl_literals.specs.SingleSteps.{single_step}
use Rattle.dfdl_literals.proofs.SingleLaws.{stops, goes_on, ends}
use Rattle.dfdl_literals.proofs.single.found_in_text.Goals as goal

pub returns-then-not-step : goal.returns-then-not-step
returns-then-not-step c =
    let t = YieldsList-turn (YieldsList-from_chars c.args.text.now c.utf8.text cc) c.loop-c.yielded _ c.loop-c.yielded_by _ _ c.in-Some.c c.in-Some.is c.next.ensures.steps in
    stops c.args.empty_allowed (chars c.args.text.now) (length c.loop-c.yielded) c.in-Some.c c.loop-c.scan t.0 t.1 (c.step.ensures ∙ cond-false _ _ _ c.if-not-step.true) c.loop-c.invariant

pub loop-c-preserved : goal.loop-c-preserved
loop-c-preserved c =
    let t = YieldsList-turn (YieldsList-from_chars c.args.text.now c.utf8.text cc) c.loop-c.yielded _ c.loop-c.yielded_by _ _ c.in-Some.c c.in-Some.is c.next.ensures.steps in
    ap (λ n. run (single_step c.args.empty_allowed) c.step.new.self (drop n (chars c.args.text.now))) (length_push c.loop-c.yielded c.in-Some.c)
    ∙ goes_on c.args.empty_allowed (chars c.args.text.now) (length c.loop-c.yielded) c.in-Some.c c.loop-c.scan c.step.new.self t.0 t.1
    (c.step.ensures ∙ cond-true _ _ _ c.if-not-step.false) c.loop-c.invariant

pub returns : goal.returns
returns c =
    let t = YieldsList-end (YieldsList-from_chars c.args.text.now c.utf8.text cc) c.loop-c.yielded _ c.loop-c.yielded_by _ _ c.in-None.is c.next.ensures.steps in
    c.finish.ensures ∙ ends c.args.empty_allowed (chars c.args.text.now) (length c.loop-c.yielded) c.loop-c.scan (omega (arith, t.1)) c.loop-c.invariant
