-- Mirror for the prover: the elements of a schema in the order of their numbers.
use Rattle.std.specs.Prelude.{◌≡◌, List, All}
use Rattle.dfdl_documents.specs.Documents.{SchemaDocument}
use Rattle.dfdl_components.specs.Sites.{IsSite}
use Rattle.dfdl_chains.specs.Everywhere.{all_sites}
use Rattle.dfdl_chains.specs.Shown.{AreNumbers}
use Rattle.dfdl_breaches.specs.declared.sites.Sites.{Sites}

-- all elements, and their numbers
pub record AreSites (documents : List SchemaDocument) (sites : Sites) : Type 0 where
  pub all : sites.all.items ≡ all_sites documents
  pub within : All (IsSite documents) sites.all.items
  pub numbers : AreNumbers documents sites.numbers
