use Rattle.std.proofs.Common.{sym, subst, ℕ, ◌<◌, length}
use Rattle.dfdl_components.specs.Recursion.{number_of}
use Rattle.dfdl_breaches.proofs.Numbering.{number_below}
use Rattle.dfdl_breaches.proofs.Standings.{standing_told}
use Rattle.dfdl_breaches.proofs.standing.standing_at.Goals as goal

pub bounds-standings-number : goal.bounds-standings-number
bounds-standings-number c =
    subst (λ (k : ℕ). k < length c.args.standings.now) (sym c.number.ensures)
    (subst (λ (k : ℕ). number_of c.args.schema.now c.args.site < k) (sym c.requires.standings.many)
    (number_below c.args.schema.now c.args.site c.requires.site))

pub returns : goal.returns
returns c = standing_told c.args.schema.now c.args.standings.now c.args.site c.number.result _ c.requires.standings c.requires.site c.number.ensures
