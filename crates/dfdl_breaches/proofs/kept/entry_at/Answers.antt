use Rattle.std.proofs.Common.{sym, subst, ℕ, get_or}
use Rattle.dfdl_breaches.proofs.Keeping.{at_site, number_low}
use Rattle.dfdl_breaches.specs.Tabled.{IsEntry}
use Rattle.dfdl_breaches.proofs.kept.entry_at.Goals as goal

pub bounds-kept-number : goal.bounds-kept-number
bounds-kept-number c =
    number_low (IsEntry c.args.schema.now) c.args.schema.now c.args.kept.now.sites.now.all.items c.args.kept.now.entries.now c.args.site c.number.result
    c.requires.kept.sites.all c.requires.kept.entries c.requires.site c.number.ensures

pub returns : goal.returns
returns c =
    subst (λ (k : ℕ). IsEntry c.args.schema.now c.args.site (get_or c.args.kept.now.entries.now k c.index-kept-number.result)) (sym c.number.ensures)
    (at_site (IsEntry c.args.schema.now) c.args.schema.now c.args.kept.now.sites.now.all.items c.args.kept.now.entries.now c.args.site
    c.index-kept-number.result c.requires.kept.sites.all c.requires.kept.entries c.requires.site)
