use Rattle.dfdl_breaches.proofs.Building.{err_part, no_part}
use Rattle.dfdl_breaches.proofs.telling.breaches.Goals as goal

pub returns-in_err-sites-clause-part : goal.returns-in_err-sites-clause-part
returns-in_err-sites-clause-part g c = err_part c.from_residual.result _ (no_part c.args.purpose c.args.schema.now _)

pub returns-in_err-formats-clause-part : goal.returns-in_err-formats-clause-part
returns-in_err-formats-clause-part g c = err_part c.from_residual-in_err-formats.result _ (no_part c.args.purpose c.args.schema.now _)

pub returns-in_err-entries-clause-part : goal.returns-in_err-entries-clause-part
returns-in_err-entries-clause-part g c = err_part c.from_residual-in_err-entries.result _ (no_part c.args.purpose c.args.schema.now _)

pub returns-in_err-bits_by-clause-part : goal.returns-in_err-bits_by-clause-part
returns-in_err-bits_by-clause-part g c = err_part c.from_residual-in_err-bits_by.result _ (no_part c.args.purpose c.args.schema.now _)

pub returns-in_err-standings-clause-part : goal.returns-in_err-standings-clause-part
returns-in_err-standings-clause-part g c = err_part c.from_residual-in_err-standings.result _ (no_part c.args.purpose c.args.schema.now _)
