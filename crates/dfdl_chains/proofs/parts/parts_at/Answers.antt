use Rattle.dfdl_chains.proofs.Within.{parts_within}
use Rattle.dfdl_chains.proofs.parts.parts_at.Goals as goal

pub returns-clause-within : goal.returns-clause-within
returns-clause-within c = parts_within c.args.schema.now c.args.site c.find_parts.result c.find_parts.new.parts.items c.requires.site c.find_parts.ensures
