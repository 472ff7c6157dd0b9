use Rattle.std.proofs.Common.{refl}
use Rattle.dfdl_checks.specs.declared.purpose.Purpose.TheVariants.{Unparsing}
use Rattle.dfdl_compile.proofs.Coming.{terms_come}
use Rattle.dfdl_compile.proofs.calls.compile_for_unparse.Goals as goal

pub returns-clause-rows : goal.returns-clause-rows
returns-clause-rows g c =
    terms_come Unparsing c.args.schema.now c.args.depth c.args.rows _ _ c.in_ok-terms.field-0 c.in_ok-terms.ensures.compiled

pub returns-clause-leaves : goal.returns-clause-leaves
returns-clause-leaves g c = c.in_ok-terms.ensures.bare refl
