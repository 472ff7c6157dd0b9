use Rattle.dfdl_breaches.proofs.Numbering.{sites_within}
use Rattle.dfdl_breaches.proofs.sites.sites_of.Goals as goal

pub returns : goal.returns
returns c = record {
  all = c.in_ok-all.ensures;
  within = sites_within c.args.schema.now c.in_ok-all.all.items c.in_ok-all.ensures;
  numbers = c.in_ok-numbers.ensures;
}
