use Rattle.dfdl_separators.proofs.Answered.{separator_told, occurrence_told, same_slot}
use Rattle.dfdl_separators.proofs.laws.answers_add_up.Goals as goal

pub returns-clause-separator : goal.returns-clause-separator
returns-clause-separator c = λ group seen rule known found is asks. separator_told group seen rule known is found asks

pub returns-clause-occurrence : goal.returns-clause-occurrence
returns-clause-occurrence c = λ group seen rule known tried is parses. occurrence_told group seen rule known is tried parses

pub returns-clause-same : goal.returns-clause-same
returns-clause-same c = λ group seen rule known is asks. same_slot group seen rule known is asks
