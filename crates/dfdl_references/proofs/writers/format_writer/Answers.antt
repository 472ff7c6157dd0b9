use Rattle.std.proofs.Common.{sym, ap, subst, ◌∙◌, ℕ, ◌+◌, ◌-◌, ◌<◌, ◌≤◌, Option}
use Rattle.std.specs.Option.{option_and_then}
use Rattle.dfdl_components.specs.declared.site.Site.{Site}
use Rattle.dfdl_components.specs.Recursion.{count_of}
use Rattle.dfdl_references.specs.Writers.{writer_within}
use Rattle.dfdl_references.proofs.Stepping.{behind, here, over}
use Rattle.dfdl_references.proofs.writers.format_writer.Goals as goal

pub returns-in-Some : goal.returns-in-Some
returns-in-Some c =
    let low : c.loop-step.step < count_of c.args.schema.now = subst (λ (n : ℕ). c.loop-step.step < n) c.count-step-end.ensures c.loop-step-test.true in
    sym (here c.args.schema.now c.args.name.now (count_of c.args.schema.now) c.loop-step.step c.loop-step.current c.in-Some.writer low (sym c.format_own_writer.ensures ∙ c.in-Some.is))
    ∙ c.loop-step.invariant.0

pub returns-in_err-current : goal.returns-in_err-current
returns-in_err-current c =
    let low : c.loop-step.step < count_of c.args.schema.now = subst (λ (n : ℕ). c.loop-step.step < n) c.count-step-end.ensures c.loop-step-test.true in
    c.from_residual.ensures
    ∙ (ap (λ (o : Option Site). option_and_then (writer_within (count_of c.args.schema.now - (c.loop-step.step + 1)) c.args.schema.now c.args.name.now) o) c.in_err-current.ensures.format
    ∙ (sym (behind c.args.schema.now c.args.name.now (count_of c.args.schema.now) c.loop-step.step c.loop-step.current low (sym c.format_own_writer.ensures ∙ c.in_default.is))
    ∙ c.loop-step.invariant.0))

pub loop-step-preserved : goal.loop-step-preserved
loop-step-preserved c =
    let low : c.loop-step.step < count_of c.args.schema.now = subst (λ (n : ℕ). c.loop-step.step < n) c.count-step-end.ensures c.loop-step-test.true in (
      ap (λ (o : Option Site). option_and_then (writer_within (count_of c.args.schema.now - (c.loop-step.step + 1)) c.args.schema.now c.args.name.now) o) c.in_ok-current.ensures.format
          ∙ (sym (behind c.args.schema.now c.args.name.now (count_of c.args.schema.now) c.loop-step.step c.loop-step.current low (sym c.format_own_writer.ensures ∙ c.in_default.is))
          ∙ c.loop-step.invariant.0),
      c.in_ok-current.ensures.within,
    )

pub returns : goal.returns
returns c =
    let none : count_of c.args.schema.now ≤ c.loop-step.step = subst (λ (n : ℕ). n ≤ c.loop-step.step) c.count-step-end.ensures c.loop-step-test.false in
    sym (over c.args.schema.now c.args.name.now (count_of c.args.schema.now) c.loop-step.step c.loop-step.current none) ∙ c.loop-step.invariant.0
