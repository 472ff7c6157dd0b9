use Rattle.std.proofs.Common.{◌∙◌, ap, map}
use Rattle.dfdl_scope.specs.Shown.{chain_of}
use Rattle.dfdl_breaches.specs.Elements.{element_at}
use Rattle.dfdl_breaches.specs.Schemes.{scheme_of}
use Rattle.dfdl_breaches.proofs.NamedSchemes.{of_chain}
use Rattle.dfdl_breaches.proofs.gathered.gather.Goals as goal

pub returns : goal.returns
returns c = record {
  chain = c.in_ok-chain.ensures ∙ ap (map (element_at c.args.schema.now)) c.requires.chain;
  prefix = c.in_ok-prefix.ensures;
  scheme =
      of_chain c.args.schema.now c.args.sites.now (chain_of c.in_ok-chain.chain) c.in_ok-scheme.scheme c.in_ok-scheme.ensures c.in_ok-chain.ensures
      ∙ ap (scheme_of c.args.schema.now) c.requires.chain;
  tests = c.in_ok-tests_at.ensures;
}
