use Rattle.std.proofs.Common.{◌≡◌, ◌∙◌, ap, map, false, refl}
use Rattle.dfdl_scope.specs.Shown.{chain_of}
use Rattle.dfdl_chains.specs.Kinds.{kind_at}
use Rattle.dfdl_checks.specs.Calculations.{kind_for}
use Rattle.dfdl_checks.specs.JudgedShown.{facts_judged_of, prefix_judged_of, test_judged_of}
use Rattle.dfdl_breaches.specs.Builds.{never}
use Rattle.dfdl_breaches.specs.Hidden.{content_hidden, facts_where, hides, hiding_at, is_unknown, kind_where, settings_where, tests_where}
use Rattle.dfdl_breaches.specs.Judging.{are_some, settings_for, stated_settings_at}
use Rattle.dfdl_breaches.proofs.Keeping.{judged_told, same_judged}
use Rattle.dfdl_breaches.proofs.telling.judged_by.Goals as goal

pub returns : goal.returns
returns g c =
    judged_told _ _ _ _ _ _ _ _ _
    (same_judged never c.args.schema.now c.args.site
    (record {
      purpose = c.args.purpose;
      kind = c.kind_for.result;
      place = c.place.result;
      chain = chain_of c.args.own.now.chain;
      facts = facts_judged_of c.facts_where.result;
      root_bits_by = c.args.bits_by;
      prefix = prefix_judged_of c.lent.result;
      scheme = c.args.own.now.scheme;
      pattern_is_refused = false;
      tests = map test_judged_of c.tests_where.result.now;
      sets_variables = c.are_some.result;
      standing = c.args.standing;
      group_is_unknown = c.is_unknown.result;
    })
    (c.kind_for.ensures ∙ (λ i. kind_for c.args.purpose (c.facts_at-facts.ensures i) (c.requires.own.chain i) (seen i)))
    c.place.ensures.document c.place.ensures.at c.requires.own.chain
    (c.facts_where.ensures ∙ (λ i. facts_where (hidden i) (c.facts_at-facts.ensures i)))
    c.requires.order (c.lent.ensures ∙ c.requires.own.prefix) c.requires.own.scheme refl
    (c.tests_where.ensures ∙ (λ i. tests_where (hidden i) ((ap (map test_judged_of) c.as_slice.ensures.value ∙ c.requires.own.tests) i)))
    (c.are_some.ensures ∙ ap are_some stated)
    c.requires.standing (c.is_unknown.ensures ∙ ap is_unknown c.hiding_at-hiding.ensures))
    (c.content_hidden.ensures ∙ ap content_hidden c.hiding_at-hiding.ensures)
    (c.settings_for-settings.ensures ∙ ap (settings_for c.args.purpose) stated)
    c.judge.ensures
  where
    hidden : c.hides-is_hidden.result ≡ hides (hiding_at c.args.purpose c.args.schema.now c.args.site)
    hidden = c.hides-is_hidden.ensures ∙ ap hides c.hiding_at-hiding.ensures

    seen : c.kind_where.result ≡ kind_where (hides (hiding_at c.args.purpose c.args.schema.now c.args.site)) (kind_at c.args.schema.now c.args.site)
    seen = c.kind_where.ensures ∙ (λ i. kind_where (hidden i) (c.kind_at-kind.ensures i))

    stated : c.settings_where-settings.result.items ≡ stated_settings_at c.args.purpose c.args.schema.now c.args.site
    stated = c.settings_where-settings.ensures ∙ (λ i. settings_where (hidden i) (c.requires.settings i))
