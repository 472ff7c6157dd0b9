use Rattle.dfdl_chains.proofs.Within.{declaration_within}
use Rattle.dfdl_chains.proofs.declaring.declaration.Goals as goal

pub returns-clause-within : goal.returns-clause-within
returns-clause-within c = declaration_within c.args.schema.now c.args.site c.find_declaration.result c.role.result c.requires c.find_declaration.ensures
