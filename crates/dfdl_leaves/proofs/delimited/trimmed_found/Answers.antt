use Rattle.dfdl_leaves.proofs.DelimitedReadings.{found-before}
use Rattle.dfdl_leaves.proofs.delimited.trimmed_found.Goals as goal

pub returns-clause-within : goal.returns-clause-within
returns-clause-within c last few =
    found-before c.args.form.now _ c.args.byte last c.kept_found.new.scratch c.in_ok-found.found few c.in_ok-found.ensures.shown
