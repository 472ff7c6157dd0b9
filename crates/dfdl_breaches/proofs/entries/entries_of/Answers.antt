use Rattle.std.proofs.Common.{ap, subst, ◌<◌, List, length, get_or}
use Rattle.dfdl_components.specs.declared.site.Site.{Site}
use Rattle.dfdl_breaches.proofs.Tables.{one_tabled}
use Rattle.dfdl_breaches.specs.Tabled.{IsEntry}
use Rattle.dfdl_breaches.proofs.entries.entries_of.Goals as goal

pub loop-site-preserved : goal.loop-site-preserved
loop-site-preserved c =
    one_tabled (IsEntry c.args.schema.now) c.args.sites.now.all.items c.loop-site.site-index c.loop-site.entries.items c.push.new.self.items _
    (record { document = 0; element = 0 }) _
    (subst (λ (sites : List Site). c.loop-site.site-index < length sites) c.as_slice-site-items.ensures.value c.loop-site-test.true)
    c.loop-site.invariant
    (ap (λ (sites : List Site). get_or sites c.loop-site.site-index (record { document = 0; element = 0 })) c.as_slice-site-items.ensures.value)
    c.in_ok-entry_of.ensures c.in_ok-push.ensures.items
