use Rattle.dfdl_chains.proofs.Numbering.{one_site_more}
use Rattle.dfdl_chains.proofs.everywhere.push_sites.Goals as goal

pub loop-element-preserved : goal.loop-element-preserved
loop-element-preserved c = one_site_more c.args.document c.loop-element.element c.args.sites.now.items c.loop-element.sites.items c.push.new.self.items
    c.loop-element.invariant c.in_ok-push.ensures.items
