use Rattle.dfdl_chains.proofs.Naming.{written_within}
use Rattle.dfdl_chains.proofs.prefixes.written.Goals as goal

pub returns-clause-within : goal.returns-clause-within
returns-clause-within c = written_within c.args.schema.now c.args.writer c.args.text.now c.find_written.result c.find_written.ensures
