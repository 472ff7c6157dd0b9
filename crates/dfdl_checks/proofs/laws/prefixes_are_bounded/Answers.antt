use Rattle.dfdl_checks.proofs.PrefixBounds.{no-prefix, prefix-bounded, prefix-integer}
use Rattle.dfdl_checks.proofs.laws.prefixes_are_bounded.Goals as goal

pub returns-clause-bounded : goal.returns-clause-bounded
returns-clause-bounded c = prefix-bounded c.texts_spell_one_pattern.ensures.bounded

pub returns-clause-integer : goal.returns-clause-integer
returns-clause-integer c = prefix-integer

pub returns-clause-parsing : goal.returns-clause-parsing
returns-clause-parsing c = no-prefix
