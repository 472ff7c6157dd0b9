-- The documents of a schema, and what they name.
use Rattle.std.specs.Prelude.{ℕ, List}
use Rattle.dfdl_markup.specs.Trees.{Node}
use Rattle.dfdl_documents.specs.declared.reference.ReferenceKind.{ReferenceKind}

-- a document: the name by which it was loaded, and its elements
pub record SchemaDocument : Type 0 where
  pub name : List ℕ
  pub nodes : List Node

-- a reference to a document: its kind, the number of the element that it is, and the name of the
-- document
pub record Reference : Type 0 where
  pub kind : ReferenceKind
  pub element : ℕ
  pub name : List ℕ
