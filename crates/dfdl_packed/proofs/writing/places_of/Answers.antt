use Rattle.std.proofs.lemmas.List.{take-replicate}
use Rattle.dfdl_packed.proofs.FillLemmas.{replicate_low}
use Rattle.dfdl_packed.proofs.writing.places_of.Goals as goal

pub returns-clause-alike : goal.returns-clause-alike
returns-clause-alike c = λ n few. take-replicate n 39 c.args.nibble few

pub returns-clause-low : goal.returns-clause-low
returns-clause-low c = λ k. replicate_low 39 c.args.nibble k c.requires
