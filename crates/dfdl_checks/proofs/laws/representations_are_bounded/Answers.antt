use Rattle.dfdl_checks.proofs.TriedBounds.{nil-bounded, no-others, required-bounded, tried-bounded}
use Rattle.dfdl_checks.proofs.laws.representations_are_bounded.Goals as goal

pub returns-clause-nil : goal.returns-clause-nil
returns-clause-nil c = nil-bounded c.texts_spell_one_pattern.ensures.bounded

pub returns-clause-required : goal.returns-clause-required
returns-clause-required c = required-bounded c.texts_spell_one_pattern.ensures.bounded

pub returns-clause-where_tried : goal.returns-clause-where_tried
returns-clause-where_tried c = tried-bounded c.texts_spell_one_pattern.ensures.bounded

pub returns-clause-parsing : goal.returns-clause-parsing
returns-clause-parsing c = no-others
