use Rattle.std.proofs.Common.{All}
use Rattle.dfdl_terms.specs.Rows.{Table}
use Rattle.dfdl_checks.specs.Forms.{IsWhole}
use Rattle.dfdl_compile.specs.Primitives.{HasBareTypedLeaves}
use Rattle.dfdl_pieces.specs.Whole.{AreWholeFields}
use Rattle.dfdl_run.proofs.Tables.{both_ok, whole}
use Rattle.dfdl_run.proofs.loading.compiled.Goals as goal

pub returns-in-Unparse-clause-whole : goal.returns-in-Unparse-clause-whole
returns-in-Unparse-clause-whole g c = λ unparse.
    both_ok HasBareTypedLeaves (λ (t : Table). All IsWhole t.primitives) AreWholeFields whole
    c.compile_for_unparse.result c.compile_for_unparse.ensures.leaves c.compile_for_unparse.ensures.whole
