-- THE meaning of a schema: its rows with the first refusal of a component and the statements that its documents write, or why it has none.
-- What the refusal and the statements come to together is told behind it ('specs/Settling.antt').
use Rattle.std.specs.Prelude.{ℕ, Bool, List, nat_lt, length, Option, None, Some, option_map, Result, Ok, Err, if◌then◌else◌}
use Rattle.dfdl_report.specs.declared.cause.LimitCause.{LimitCause}
use Rattle.dfdl_report.specs.declared.cause.LimitCause.TheVariants.{Depth, Rows}
use Rattle.dfdl_report.specs.declared.cause.SchemaCause.{SchemaCause}
use Rattle.dfdl_report.specs.declared.cause.SchemaCause.TheVariants.{NameNotFound, Recursive}
use Rattle.dfdl_report.specs.declared.place.Place.{Place}
use Rattle.dfdl_documents.specs.Documents.{SchemaDocument}
use Rattle.dfdl_order.specs.Cycles.{reaches_itself}
use Rattle.dfdl_components.specs.declared.site.Site.{Site}
use Rattle.dfdl_components.specs.Recursion.{number_of}
use Rattle.dfdl_components.specs.Searching.{first_below}
use Rattle.dfdl_terms.specs.declared.delimiters.Delimiters.{Delimiters}
use Rattle.dfdl_terms.specs.declared.row.Primitive.{Primitive}
use Rattle.dfdl_terms.specs.declared.row.Row.{Row}
use Rattle.dfdl_vars.specs.declared.values.VarDef.{VarDef}
use Rattle.dfdl_chains.specs.Everywhere.{site_at}
use Rattle.dfdl_breaches.specs.Elements.{place_of}
use Rattle.dfdl_breaches.specs.Roots.{root_of}
use Rattle.dfdl_rows.specs.Answers.{Asked, asked}
use Rattle.dfdl_rows.specs.Depths.{depth_of}
use Rattle.dfdl_rows.specs.Positions.{refused_row}
use Rattle.dfdl_rows.specs.Refusals.{first_refusal}
use Rattle.dfdl_rows.specs.RowLists.{rows_of}
use Rattle.dfdl_rows.specs.Sizes.{size_of}
use Rattle.dfdl_rows.specs.declared.refusal.Refusal.{Refusal}
use Rattle.dfdl_rows.specs.declared.refusal.RefusedRow.{RefusedRow}
use Rattle.dfdl_checks.specs.declared.purpose.Purpose.{Purpose}
use Rattle.dfdl_written.specs.Variables.{definitions_of}
use Rattle.dfdl_written.specs.declared.noted.Noted.{Noted}
use Rattle.dfdl_compile.specs.Components.{components_of, delimiters_of, primitives_of}
use Rattle.dfdl_compile.specs.Statements.{noted_of}

-- why a schema has no rows: a rule is broken, told at a place, or a limit of this number is reached
pub data CompileEnd : Type 0 where
  Refused : SchemaCause → Place → CompileEnd
  Limit : LimitCause → ℕ → CompileEnd

-- what the documents say of all rows: the primitives and the lists of literals, the statements as they are written, and the variables
pub record Told : Type 0 where
  pub primitives : List Primitive
  pub delimiters : List Delimiters
  pub noted : List Noted
  pub variables : List VarDef

-- the same of documents, where patterns of these elements are refused
abbrev pub told_of : Purpose → (Site → Bool) → List SchemaDocument → Told
told_of purpose refused documents = record {
  primitives = primitives_of purpose refused documents;
  delimiters = delimiters_of purpose refused documents;
  noted = noted_of purpose refused documents;
  variables = definitions_of documents;
}

-- rows, the first refusal of a component that is reached at its row, if there is one, and what the documents say of all rows
pub record Laid : Type 0 where
  pub rows : List Row
  pub refused : Option RefusedRow
  pub told : Told

abbrev pub laid : List Row → Option RefusedRow → Told → Laid
laid rows refused told = record { rows = rows; refused = refused; told = told }

-- why a root has no rows that has more than the limit allows: the first refusal, if there is one
abbrev pub past_rows : ℕ → Option Refusal → CompileEnd
past_rows most None = Limit Rows most
past_rows most (Some refusal) = Refused refusal.cause refusal.place

-- the rows of a root with the first refusal, where there are no more rows than the limit allows
abbrev pub by_rows : Told → Asked → Option Refusal → Result Laid CompileEnd
by_rows told a refusal =
    if nat_lt a.rows (size_of a.schema a.root) then Err (past_rows a.rows refusal)
    else Ok (laid (rows_of a.schema a.root) (option_map (refused_row a.schema a.root) refusal) told)

-- the same, where elements are nested no deeper than the limit allows
unfoldable pub by_depth : Told → Asked → Result Laid CompileEnd
by_depth told a =
    if nat_lt a.depth (depth_of a.schema a.root) then Err (Limit Depth a.depth)
    else by_rows told a (first_refusal a.schema a.root)

-- the component, if it reaches itself through its parts
abbrev pub if_recursive : List (List ℕ) → ℕ → Option ℕ
if_recursive uses c = if reaches_itself uses c then Some c else None

-- the first component that reaches itself
unfoldable pub first_recursive : List (List ℕ) → Option ℕ
first_recursive uses = first_below (if_recursive uses) (length uses)

-- what a root comes to, where no component reaches itself, else the first one that does
abbrev pub by_recursion : List SchemaDocument → Told → Asked → Option ℕ → Result Laid CompileEnd
by_recursion documents told a None = by_depth told a
by_recursion documents told a (Some c) = Err (Refused Recursive (place_of documents (site_at documents c)))

-- the first byte of the first document
abbrev pub first_place : Place
first_place = record { document = 0; at = 0 }

-- what documents with this root come to
abbrev pub by_root : Purpose → (Site → Bool) → List SchemaDocument → ℕ → ℕ → Option Site → Result Laid CompileEnd
by_root purpose refused documents depth rows None = Err (Refused NameNotFound first_place)
by_root purpose refused documents depth rows (Some root) =
    by_recursion documents (told_of purpose refused documents) (asked (components_of purpose refused documents) (number_of documents root) depth rows)
    (first_recursive (components_of purpose refused documents).uses)

-- what documents come to for a purpose, where elements may be nested so deep, and there may be so many rows
unfoldable pub compiled : Purpose → (Site → Bool) → List SchemaDocument → ℕ → ℕ → Result Laid CompileEnd
compiled purpose refused documents depth rows = by_root purpose refused documents depth rows (root_of documents)
