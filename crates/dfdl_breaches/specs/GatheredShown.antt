-- Mirror for the prover: what a component is judged by.
use Rattle.std.specs.Prelude.{◌≡◌, List, map, option_map}
use Rattle.dfdl_documents.specs.Documents.{SchemaDocument}
use Rattle.dfdl_components.specs.declared.site.Site.{Site}
use Rattle.dfdl_scope.specs.Shown.{chain_of}
use Rattle.dfdl_checks.specs.JudgedShown.{test_judged_of}
use Rattle.dfdl_chains.specs.Tests.{tests_at}
use Rattle.dfdl_breaches.specs.Prefixes.{prefix_at}
use Rattle.dfdl_breaches.specs.PrefixesShown.{prefix_seen}
use Rattle.dfdl_breaches.specs.Roots.{chain_at}
use Rattle.dfdl_breaches.specs.Schemes.{scheme_at}
use Rattle.dfdl_breaches.specs.declared.gathered.Gathered.{Gathered}

-- what is gathered is that of the component
pub record IsGathered (documents : List SchemaDocument) (own : Site) (gathered : Gathered) : Type 0 where
  pub chain : chain_of gathered.chain ≡ chain_at documents own
  pub prefix : option_map prefix_seen gathered.prefix ≡ prefix_at documents own
  pub scheme : gathered.scheme ≡ scheme_at documents own
  pub tests : map test_judged_of gathered.tests.items ≡ tests_at documents own
