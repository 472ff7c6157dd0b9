use Rattle.dfdl_checks.specs.declared.purpose.Purpose.TheVariants.{Parsing}
use Rattle.dfdl_compile.proofs.Coming.{terms_come}
use Rattle.dfdl_compile.proofs.calls.compile.Goals as goal

pub returns-clause-rows : goal.returns-clause-rows
returns-clause-rows g c =
    terms_come Parsing c.args.schema.now c.args.depth c.args.rows _ _ c.in_ok-terms.field-0 c.in_ok-terms.ensures.compiled
