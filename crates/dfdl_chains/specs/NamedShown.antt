-- Mirror for the prover: what a type that is named is seen as.
use Rattle.dfdl_chains.specs.Prefixes as prefixes
use Rattle.dfdl_chains.specs.declared.named_type.NamedType.{NamedType}

-- the simple type that it comes to, and the simple types that it comes of
abbrev pub named_shown : NamedType → prefixes.NamedType
named_shown named = record { simple = named.simple; sites = named.sites.items }
