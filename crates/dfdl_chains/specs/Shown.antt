-- Mirror for the prover: what is found in documents is an element of them, and the numbers of elements
-- as the code keeps them.
use Rattle.std.specs.Prelude.{◌≡◌, ℕ, ◌<◌, ◌^◌, List, length, get_or}
use Rattle.dfdl_documents.specs.Documents.{SchemaDocument}
use Rattle.dfdl_components.specs.Sites.{IsSite}
use Rattle.dfdl_components.specs.Recursion.{start_of, count_of}
use Rattle.dfdl_chains.specs.declared.typed.Typed.{Typed}
use Rattle.dfdl_chains.specs.declared.typed.Typed.TheVariants.{Carried, NotCarried, Defined}
use Rattle.dfdl_chains.specs.declared.numbers.Numbers.{Numbers}

-- a type that a document defines is one of the documents'
abbrev pub IsTypeOf : List SchemaDocument → Typed → Type 0
IsTypeOf documents (Carried simple) = Unit {0}
IsTypeOf documents NotCarried = Unit {0}
IsTypeOf documents (Defined own) = IsSite documents own

-- the number of the first element of each document, and how many elements there are
pub record AreNumbers (documents : List SchemaDocument) (numbers : Numbers) : Type 0 where
  pub documents_counted : length numbers.starts.items ≡ length documents
  pub starts : (d : ℕ) → d < length documents → get_or numbers.starts.items d 0 ≡ start_of documents d
  pub count : numbers.count ≡ count_of documents
  pub few : numbers.count < 2 ^ 32
