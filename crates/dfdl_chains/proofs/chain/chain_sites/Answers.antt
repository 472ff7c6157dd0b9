use Rattle.dfdl_chains.proofs.Within.{chain_kept}
use Rattle.dfdl_chains.proofs.chain.chain_sites.Goals as goal

pub returns-clause-within : goal.returns-clause-within
returns-clause-within c = chain_kept c.args.schema.now c.args.site c.find_sites.result c.find_sites.new.chain.items c.requires.site c.find_sites.ensures
