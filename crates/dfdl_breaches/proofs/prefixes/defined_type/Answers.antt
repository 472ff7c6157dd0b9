use Rattle.dfdl_scope.specs.Shown.{chain_of}
use Rattle.dfdl_breaches.proofs.PrefixTypes.{defined}
use Rattle.dfdl_breaches.proofs.prefixes.defined_type.Goals as goal

pub returns : goal.returns
returns c =
    defined c.args.schema.now c.args.own c.args.simple c.args.types.now c.place.result (chain_of c.in_ok-chain.chain) c.in_ok-scheme.scheme
    c.place.ensures.document c.place.ensures.at c.in_ok-chain.ensures c.in_ok-scheme.ensures
