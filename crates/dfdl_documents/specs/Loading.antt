-- Which documents a schema has, and in which order they are loaded.
use Rattle.std.specs.Prelude.{◌≡◌, ℕ, zero, suc, ◌≤◌, Bool, not, IsTrue, IfSome, All}
use Rattle.std.specs.Prelude.{List, [], ◌∷◌, length, take, map, Option, None, Some, slice_index_or}
use Rattle.std.specs.List.{find, flat_map, list_any, slice_get}
use Rattle.std.specs.Str.{bytes_eq}
use Rattle.dfdl_edge.specs.Faults.{one_more}
use Rattle.dfdl_edge.specs.Files.{FilesSeen}
use Rattle.dfdl_markup.specs.Documents.{IsTreeOf}
use Rattle.dfdl_documents.specs.Documents.{SchemaDocument}
use Rattle.dfdl_documents.specs.References.{names_of}

-- the name is one of these
abbrev pub is_among : List (List ℕ) → List ℕ → Bool
is_among names name = list_any (λ other. bytes_eq other name) names

-- no document
abbrev pub no_document : SchemaDocument
no_document = record { name = []; nodes = [] }

-- the document of a number
abbrev pub document_at : List SchemaDocument → ℕ → SchemaDocument
document_at documents number = slice_index_or documents number no_document

-- the names of documents
abbrev pub loaded_names : List SchemaDocument → List (List ℕ)
loaded_names documents = map (λ (d : SchemaDocument). d.name) documents

-- the first document's name, and those that the documents name, in their order
abbrev pub all_names : List ℕ → List SchemaDocument → List (List ℕ)
all_names first documents = first ∷ flat_map names_of documents

-- the name of the document that is loaded behind these: the first name that none of them has
abbrev pub next_name : List ℕ → List SchemaDocument → Option (List ℕ)
next_name first documents =
    find (λ name. not (is_among (loaded_names documents) name)) (all_names first documents)

-- the bytes are not too long, and a document of these elements
pub record IsWithinTree (most : ℕ) (bytes : List ℕ) (document : SchemaDocument) : Type 0 where
  pub fits : length bytes ≤ most
  pub tree : IsTreeOf bytes document.nodes

-- the document is that of the file of its name
pub record IsFile (files : FilesSeen) (most : ℕ) (document : SchemaDocument) : Type 0 where
  pub there : IsTrue (files.is_missing document.name) → ⊥
  pub read : IfSome (files.content document.name) (λ bytes. IsWithinTree most bytes document)

-- These documents are loaded, in this order, where the first has this name and no file has more
-- than `most` bytes; there may be more to load.
pub record IsLoading (files : FilesSeen) (most : ℕ) (first : List ℕ)
    (documents : List SchemaDocument) : Type 0 where
  pub in_turn : (i : ℕ) (document : SchemaDocument) → slice_get documents i ≡ Some document
      → next_name first (take i documents) ≡ Some document.name
  pub are_files : All (IsFile files most) documents

-- these are all documents of a schema, at most `schemas`
pub record AreLoaded (files : FilesSeen) (most schemas : ℕ) (first : List ℕ)
    (documents : List SchemaDocument) : Type 0 where
  pub loading : IsLoading files most first documents
  pub no_more : next_name first documents ≡ None
  pub few : length documents ≤ schemas

-- a count of loads after so many more
abbrev pub more_loads : ℕ → ℕ → ℕ
more_loads zero count = count
more_loads (suc n) count = one_more (more_loads n count)

-- the count of loads has risen by at most so many
pub record IsCounted (most before after : ℕ) : Type 0 where
  pub n : ℕ
  pub few : n ≤ most
  pub loads : after ≡ more_loads n before

-- what is seen of files after so many loads that did not fail
abbrev pub after_loads : ℕ → FilesSeen → FilesSeen
after_loads n files = record files { loads = more_loads n files.loads }
