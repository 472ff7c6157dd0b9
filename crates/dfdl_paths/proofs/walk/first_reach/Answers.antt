use Rattle.std.proofs.Common.{ℕ, drop, sym, ◌∙◌, subst, arith}
use Rattle.std.proofs.lemmas.Option.{get_or_from_slice_get}
use Rattle.dfdl_paths.specs.declared.walk.Next.{Next}
use Rattle.dfdl_paths.specs.Leads.{next_index}
use Rattle.dfdl_paths.specs.Spans.{IsNext}
use Rattle.dfdl_paths.specs.declared.walk.Next.TheVariants.{Nowhere, One}
use Rattle.dfdl_paths.proofs.Follows.{step-one, step-nowhere}
use Rattle.dfdl_paths.proofs.walk.first_reach.Goals as goal

pub returns-in-Nowhere-clause-none : goal.returns-in-Nowhere-clause-none
returns-in-Nowhere-clause-none c = λ q.
    let step = c.step_at-step.result in
    let there = c.step_at-step.ensures in
    let names = c.args.names.now in
    let nodes = c.args.nodes.now in
    let index = next_index (drop c.loop-at.used c.args.indexes.now) in
    let next : IsNext names nodes step index c.loop-at.place Nowhere =
    subst (λ (n : Next). IsNext names nodes step index c.loop-at.place n) c.in-Nowhere.is
    (subst (λ (i : ℕ). IsNext names nodes step i c.loop-at.place c.next_of.result) c.index_at.ensures c.next_of.ensures) in
    c.loop-at.invariant.same q
    ∙ step-nowhere c.args.names.now c.args.nodes.now c.args.steps.now c.args.indexes.now c.loop-at.at c.loop-at.used c.loop-at.place step
    c.loop-at-test.true (sym (get_or_from_slice_get c.args.steps.now c.loop-at.at step step there)) next q

pub loop-at-preserved : goal.loop-at-preserved
loop-at-preserved c =
    let step = c.step_at-step.result in
    let there = c.step_at-step.ensures in
    let few = c.loop-at.invariant.few in
    let uses = c.uses-used.ensures.few in
    let names = c.args.names.now in
    let nodes = c.args.nodes.now in
    let index = next_index (drop c.loop-at.used c.args.indexes.now) in
    let next : IsNext names nodes step index c.loop-at.place (One c.in-One.next) =
    subst (λ (n : Next). IsNext names nodes step index c.loop-at.place n) c.in-One.is
    (subst (λ (i : ℕ). IsNext names nodes step i c.loop-at.place c.next_of.result) c.index_at.ensures c.next_of.ensures) in
    record {
      few = omega (arith, few, uses);
      same = λ q. c.loop-at.invariant.same q
          ∙ step-one names nodes c.args.steps.now c.args.indexes.now c.loop-at.at c.loop-at.used c.uses-used.result c.loop-at.place
          c.in-One.next step c.loop-at-test.true (sym (get_or_from_slice_get c.args.steps.now c.loop-at.at step step there)) next
          c.uses-used.ensures.behind q;
    }
