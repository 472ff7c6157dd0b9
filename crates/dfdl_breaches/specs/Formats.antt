-- What formats give, with what they take from the formats that they refer to ('Property Scoping and DFDL Schema
-- Checking').
use Rattle.std.specs.Prelude.{ℕ, zero, suc, List, Option, Some, None}
use Rattle.dfdl_documents.specs.Documents.{SchemaDocument}
use Rattle.dfdl_components.specs.declared.site.Site.{Site}
use Rattle.dfdl_components.specs.Sites.{nodes_of}
use Rattle.dfdl_components.specs.Recursion.{count_of}
use Rattle.dfdl_properties.specs.Own.{format_given_at}
use Rattle.dfdl_scope.specs.Scoping.{Given, nothing, nearer}
use Rattle.dfdl_references.specs.References.{format_after, default_of}

-- what a format gives that may be lacking
abbrev pub given_by : (Site → Given) → Option Site → Given
given_by given None = nothing
given_by given (Some format) = given format

-- what a format gives: its own properties, and those of the format that it refers to which it doesn't give. At most so
-- many formats that refer to one another are looked at
unfoldable pub format_within : ℕ → List SchemaDocument → Site → Given
format_within zero documents format = nothing
format_within (suc n) documents format =
    nearer (format_given_at (nodes_of documents format.document) format.element)
    (given_by (format_within n documents) (format_after documents format))

-- what a format gives: no format reaches itself, so there are no more of them than there are elements
abbrev pub format_value : List SchemaDocument → Site → Given
format_value documents format = format_within (count_of documents) documents format

-- what the default format of a document gives
abbrev pub default_value : List SchemaDocument → ℕ → Given
default_value documents document = given_by (format_value documents) (default_of documents document)
