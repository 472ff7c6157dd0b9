use Rattle.std.proofs.Common.{All, List, subst}
use Rattle.dfdl_terms.specs.declared.row.Primitive.{Primitive}
use Rattle.dfdl_compile.specs.Primitives.{HasWrittenText}
use Rattle.dfdl_compile.proofs.primitives.named.Goals as goal

pub returns-clause-written : goal.returns-clause-written
returns-clause-written c = subst (λ (ps : List Primitive). All HasWrittenText ps) c.as_slice.ensures.value c.texts_are_written.ensures
