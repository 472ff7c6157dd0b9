-- Mirror for the prover: what is kept of a schema.
use Rattle.std.specs.Prelude.{◌≡◌, ℕ, List, length, Option, Some, None, true, false}
use Rattle.dfdl_documents.specs.Documents.{SchemaDocument}
use Rattle.dfdl_components.specs.declared.site.Site.{Site}
use Rattle.dfdl_components.specs.Recursion.{count_of}
use Rattle.dfdl_components.specs.Sites.{IsSite, role_of}
use Rattle.dfdl_scope.specs.Shown.{given, given_twice}
use Rattle.dfdl_scope.specs.declared.properties.Properties.{Properties}
use Rattle.dfdl_breaches.specs.Numbered.{AreSites}
use Rattle.dfdl_breaches.specs.Tabled.{AreJoined, AreTabled, IsEntry}
use Rattle.dfdl_references.specs.References.{is_format}
use Rattle.dfdl_breaches.specs.declared.kept.Kept.{Kept}

-- properties that give nothing
pub record IsNothing (properties : Properties) : Type 0 where
  pub none : (name : List ℕ) → given properties name ≡ None
  pub once : (name : List ℕ) → given_twice properties name ≡ false

-- what is kept: the elements, an entry of each, the formats, and properties that give nothing
pub record AreKept (documents : List SchemaDocument) (kept : Kept) : Type 0 where
  pub sites : AreSites documents kept.sites.now
  pub entries : AreTabled (IsEntry documents) kept.sites.now.all.items (length kept.sites.now.all.items) kept.entries.now
  pub formats : AreJoined documents (count_of documents) kept.formats.now
  pub nothing : IsNothing kept.nothing.now

-- an element that may be lacking is a format of the documents
abbrev pub IsFormatIf : List SchemaDocument → Option Site → Type 0
IsFormatIf documents None = Unit {0}
IsFormatIf documents (Some format) = IsSite documents format × (is_format (role_of documents format) ≡ true)
