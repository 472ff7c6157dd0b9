use Rattle.std.proofs.Common.{ℕ, ◌<◌, get_or}
use Rattle.dfdl_terms.specs.declared.row.Primitive.{Primitive}
use Rattle.dfdl_compile.specs.Primitives.{HasWrittenText}
use Rattle.dfdl_compile.proofs.primitives.texts_are_written.Given as goal

-- those so far
abbrev pub invariant-loop-primitive : goal.invariant-loop-primitive
invariant-loop-primitive l = (k : ℕ) (d : Primitive) → k < l.primitive-index → HasWrittenText (get_or l.primitives k d)
