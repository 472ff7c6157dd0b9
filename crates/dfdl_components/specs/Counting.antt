-- Mirror for the prover: the numbers of elements as the code keeps them.
use Rattle.std.specs.Prelude.{◌≡◌, ℕ, ◌<◌, ◌≤◌, ◌^◌, List, length, get_or, true, false}
use Rattle.dfdl_order.specs.Cycles.{reaches_itself}
use Rattle.dfdl_documents.specs.Documents.{SchemaDocument}
use Rattle.dfdl_components.specs.declared.parts.Numbers.{Numbers}
use Rattle.dfdl_components.specs.declared.recursion.Recursion.{Recursion}
use Rattle.dfdl_components.specs.Recursion.{start_of, count_of, all_uses}

-- the number of the first element of each document, and how many elements there are
pub record AreNumbers (documents : List SchemaDocument) (numbers : Numbers) : Type 0 where
  pub documents_counted : length numbers.starts.items ≡ length documents
  pub starts : (d : ℕ) → d < length documents → get_or numbers.starts.items d 0 ≡ start_of documents d
  pub count : numbers.count ≡ count_of documents
  pub few : numbers.count < 2 ^ 32

-- the number of the first element that reaches itself, or the count of all
pub record IsFirstOrCount (documents : List SchemaDocument) (first : ℕ) : Type 0 where
  pub few : first ≤ count_of documents
  pub before : (b : ℕ) → b < first → reaches_itself (all_uses documents) b ≡ false
  pub at : first < count_of documents → reaches_itself (all_uses documents) first ≡ true

-- what the code keeps of recursive definitions
pub record IsRecursionOf (documents : List SchemaDocument) (recursion : Recursion) : Type 0 where
  pub numbers : AreNumbers documents recursion.numbers
  pub first : IsFirstOrCount documents recursion.first
