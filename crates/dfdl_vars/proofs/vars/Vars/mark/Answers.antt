use Rattle.std.proofs.Common.{subst}
use Rattle.dfdl_vars.specs.Kept.{Kept}
use Rattle.dfdl_vars.specs.Marks.{LeadsBack}
use Rattle.dfdl_vars.specs.VarsShown.{kept_as}
use Rattle.dfdl_vars.proofs.Backs.{here}
use Rattle.dfdl_vars.proofs.vars.Vars.mark.Goals as goal

pub returns-clause-way : goal.returns-clause-way
returns-clause-way c =
    let held = c.self.invariant in
    let way = here (kept_as c.self.inside.instances.items c.self.inside.changes.items c.self.inside.globals c.self.inside.deep) held.sound held.whole in
    subst (λ (k : Kept). LeadsBack k k) c.self.view_is way
