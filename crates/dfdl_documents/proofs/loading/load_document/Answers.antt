use Rattle.std.proofs.Common.{arith}
use Rattle.dfdl_documents.proofs.loading.load_document.Goals as goal

pub returns-clause-counted : goal.returns-clause-counted
returns-clause-counted g c = record { n = 1; few = omega arith; loads = c.load.ensures.counted }
