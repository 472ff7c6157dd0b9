use Rattle.dfdl_scope.specs.Shown.{chain_of}
use Rattle.dfdl_breaches.proofs.PrefixTypes.{built_in}
use Rattle.dfdl_breaches.proofs.prefixes.built_in_type.Goals as goal

pub returns : goal.returns
returns c =
    built_in c.args.schema.now c.args.site c.args.simple c.args.sites.now c.place.result (chain_of c.in_ok-chain.chain) c.in_ok-scheme.scheme
    c.place.ensures.document c.place.ensures.at c.requires.chain c.in_ok-chain.ensures c.in_ok-scheme.ensures
