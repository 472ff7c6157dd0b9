-- An element of a component's chain, as the documents have it ('Property Scoping and DFDL Schema Checking').
use Rattle.std.specs.Prelude.{List}
use Rattle.dfdl_report.specs.declared.place.Place.{Place}
use Rattle.dfdl_markup.specs.Trees.{node_at}
use Rattle.dfdl_documents.specs.Documents.{SchemaDocument}
use Rattle.dfdl_components.specs.declared.site.Site.{Site}
use Rattle.dfdl_components.specs.Sites.{nodes_of}
use Rattle.dfdl_properties.specs.Own.{given_at, repeats_at}
use Rattle.dfdl_scope.specs.Scoping.{Element}
use Rattle.dfdl_references.specs.References.{format_of}
use Rattle.dfdl_breaches.specs.Formats.{given_by, format_value, default_value}

-- the start tag of an element
abbrev pub place_of : List SchemaDocument → Site → Place
place_of documents own = record {
  document = own.document;
  at = (node_at (nodes_of documents own.document) own.element).at;
}

-- the element with its own properties, those of the format that it refers to, and those of the default format of its
-- document
abbrev pub element_at : List SchemaDocument → Site → Element
element_at documents own = record {
  place = place_of documents own;
  own = given_at (nodes_of documents own.document) own.element;
  is_twice = repeats_at (nodes_of documents own.document) own.element;
  format = given_by (format_value documents) (format_of documents own);
  by_default = default_value documents own.document;
}
