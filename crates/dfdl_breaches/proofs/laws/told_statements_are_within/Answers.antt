use Rattle.dfdl_breaches.proofs.Stated.{checks_within, settings_within}
use Rattle.dfdl_breaches.proofs.laws.told_statements_are_within.Goals as goal

pub returns-clause-checks : goal.returns-clause-checks
returns-clause-checks c =
    λ purpose refused documents own within. checks_within documents purpose refused own (c.statements_are_within.ensures.tests documents own within)

pub returns-clause-settings : goal.returns-clause-settings
returns-clause-settings c =
    λ purpose documents own within. settings_within documents purpose own (c.statements_are_within.ensures.settings documents own within)
