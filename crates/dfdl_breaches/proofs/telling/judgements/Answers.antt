use Rattle.std.proofs.Common.{◌∙◌, refl, arith}
use Rattle.dfdl_breaches.proofs.Building.{all_first, err_part, next_first, next_part, none_first}
use Rattle.dfdl_breaches.proofs.telling.judgements.Goals as goal

pub loop-site-init : goal.loop-site-init
loop-site-init g c = none_first c.args.purpose c.args.schema.now _ c.new-judgements.result.items c.new-judgements.ensures.items

pub returns-in_err-push_judgement-clause-part : goal.returns-in_err-push_judgement-clause-part
returns-in_err-push_judgement-clause-part g c =
    err_part c.from_residual.result _
    (next_part c.args.purpose c.args.schema.now c.as_slice-site-items.result.now c.loop-site.site-index _ _
    (record { faults = g.P.Patterns.faults c.args.patterns.now; last = g.P.Patterns.last_refused c.args.patterns.now })
    (record { faults = g.P.Patterns.faults c.loop-site.patterns; last = g.P.Patterns.last_refused c.loop-site.patterns })
    (record { faults = g.P.Patterns.faults c.push_judgement.new.patterns; last = g.P.Patterns.last_refused c.push_judgement.new.patterns })
    c.loop-site.judgements.items (c.as_slice-site-items.ensures.value ∙ c.requires.kept.sites.all) c.loop-site-test.true refl c.loop-site.invariant
    c.push_judgement.ensures.0 c.push_judgement.ensures.1)

pub loop-site-preserved : goal.loop-site-preserved
loop-site-preserved g c =
    next_first c.args.purpose c.args.schema.now c.as_slice-site-items.result.now c.loop-site.site-index _ _
    (record { faults = g.P.Patterns.faults c.args.patterns.now; last = g.P.Patterns.last_refused c.args.patterns.now })
    (record { faults = g.P.Patterns.faults c.loop-site.patterns; last = g.P.Patterns.last_refused c.loop-site.patterns })
    (record { faults = g.P.Patterns.faults c.push_judgement.new.patterns; last = g.P.Patterns.last_refused c.push_judgement.new.patterns })
    c.loop-site.judgements.items c.push_judgement.new.judgements.items
    (c.as_slice-site-items.ensures.value ∙ c.requires.kept.sites.all) c.loop-site-test.true refl c.loop-site.invariant
    c.in_ok-push_judgement.ensures.0 c.in_ok-push_judgement.ensures.1 c.in_ok-push_judgement.ensures.2

pub returns-clause-judged : goal.returns-clause-judged
returns-clause-judged g c =
    all_first c.args.purpose c.args.schema.now c.as_slice-site-items.result.now c.loop-site.site-index _ _ _
    (c.as_slice-site-items.ensures.value ∙ c.requires.kept.sites.all) (omega (arith, c.loop-site-test.false, c.loop-site.auto.site-index-end)) c.loop-site.invariant
