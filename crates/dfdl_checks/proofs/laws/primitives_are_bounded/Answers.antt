use Rattle.dfdl_checks.proofs.Primitives.{bounded, typed}
use Rattle.dfdl_checks.proofs.laws.primitives_are_bounded.Goals as goal

pub returns-clause-bounded : goal.returns-clause-bounded
returns-clause-bounded c = bounded c.texts_spell_one_pattern.ensures.bounded

pub returns-clause-kind : goal.returns-clause-kind
returns-clause-kind c = typed
