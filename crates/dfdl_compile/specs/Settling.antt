-- What the statements of a schema's rows come to. They are settled where the rows are there, and with them the first refusal of a component, so
-- what is wrong in an expression is told in the order of the components, and behind the limit on rows ('DFDL Expression Language').
use Rattle.std.specs.Prelude.{◌≡◌, ℕ, Bool, List, map, Option, None, Some, option_map, Result, Ok, Err}
use Rattle.std.specs.BTreeMap.{get_by_text}
use Rattle.dfdl_documents.specs.Documents.{SchemaDocument}
use Rattle.dfdl_components.specs.declared.site.Site.{Site}
use Rattle.dfdl_expression_tree.specs.Trees.{Formula}
use Rattle.dfdl_terms.specs.Rows.{Table}
use Rattle.dfdl_terms.specs.declared.row.Row.{Row}
use Rattle.dfdl_terms.specs.declared.statement.Statement.{Statement}
use Rattle.dfdl_checks.specs.declared.purpose.Purpose.{Purpose}
use Rattle.dfdl_breaches.specs.Builds.{never}
use Rattle.dfdl_statements.specs.Elements.{declaration_shown, declarations, name_numbers, named}
use Rattle.dfdl_statements.specs.Settled.{settled}
use Rattle.dfdl_statements.specs.Texts.{ReadsTexts}
use Rattle.dfdl_rows.specs.declared.refusal.RefusedRow.{RefusedRow}
use Rattle.dfdl_statements.specs.declared.fault.GivenRefusal.{GivenRefusal}
use Rattle.dfdl_statements.specs.declared.fault.Refusal.{Refusal}
use Rattle.dfdl_statements.specs.declared.sight.Sight.{Sight}
use Rattle.dfdl_statements.specs.declared.written.Written.{Written}
use Rattle.dfdl_variables.specs.Variables.{variables_of}
use Rattle.dfdl_written.specs.Noting.{AreAsNoted}
use Rattle.dfdl_written.specs.Variables.{HasVariables}
use Rattle.dfdl_compile.specs.Compiled.{CompileEnd, Laid, Refused, compiled}

-- what expressions may name: the elements of rows with the numbers of their names, and the variables of the documents
pub record Sees (documents : List SchemaDocument) (rows : List Row) (sight : Sight) : Type 0 where
  pub elements : map declaration_shown sight.elements.now ≡ declarations rows
  pub names : (q : List ℕ) → get_by_text sight.names.now q ≡ named rows q
  pub variables : HasVariables (variables_of documents) sight.variables.now

-- rows over what they name, with these statements
abbrev pub table_with : Laid → List Statement → Table
table_with laid statements = record {
  rows = laid.rows;
  primitives = laid.told.primitives;
  delimiters = laid.told.delimiters;
  statements = statements;
  names = name_numbers laid.rows;
  variables = laid.told.variables;
}

-- the table of rows whose statements come to these, or the refusal of one
abbrev pub end_with : Laid → Result (List Statement) Refusal → Result Table CompileEnd
end_with laid (Ok statements) = Ok (table_with laid statements)
end_with laid (Err refusal) = Err (Refused refusal.cause refusal.place)

-- the refusal of a component, as it is given where statements are settled
abbrev pub given_of : RefusedRow → GivenRefusal
given_of refused = record { row = refused.row; refusal = record { cause = refused.refusal.cause; place = refused.refusal.place } }

-- the maps that keep what expressions may name: the elements of rows and the variables, and for each statement the prefixes in scope
pub record Maps : Type 0 where
  pub sight : Sight
  pub written : List Written

-- The statements of rows are settled so, with the refusal of a component, by maps that keep just what the rows and the documents have. What tells the trees of texts is free, as
-- long as each text has its own.
pub record SettlesTo (maps : Maps) (documents : List SchemaDocument) (laid : Laid) (end : Result Table CompileEnd) : Type 0 where
  pub sees : Sees documents laid.rows maps.sight
  pub noted : AreAsNoted documents laid.told.noted maps.written
  pub settles : (read : List ℕ → Option Formula) → ReadsTexts read → end_with laid (settled read maps.sight laid.rows maps.written (option_map given_of laid.refused)) ≡ end

-- the same, where there are maps
abbrev pub SettlesIf : Option Maps → List SchemaDocument → Laid → Result Table CompileEnd → Type 0
SettlesIf None documents laid end = ⊥
SettlesIf (Some maps) documents laid end = SettlesTo maps documents laid end

-- the same, where there may be no rows
abbrev pub EndsWith : Option Maps → List SchemaDocument → Result Laid CompileEnd → Result Table CompileEnd → Type 0
EndsWith maps documents (Ok laid) end = SettlesIf maps documents laid end
EndsWith maps documents (Err why) end = end ≡ Err why

-- what documents alone don't fix: which patterns are refused, and the maps, where the statements of rows are settled
pub record Free : Type 0 where
  pub refused : Site → Bool
  pub maps : Option Maps

-- no pattern is refused, and there are no maps
abbrev pub nothing_free : Free
nothing_free = record { refused = never; maps = None }

-- documents come to this for a purpose, where elements may be nested so deep, and there may be so many rows
abbrev pub CompilesTo : Purpose → Free → List SchemaDocument → ℕ → ℕ → Result Table CompileEnd → Type 0
CompilesTo purpose free documents depth rows end = EndsWith free.maps documents (compiled purpose free.refused documents depth rows) end

-- some maps settle the statements of rows so
abbrev pub Settles : List SchemaDocument → Laid → Result Table CompileEnd → Type 0
Settles documents laid end = (maps : Maps) × SettlesTo maps documents laid end

-- the same, where there may be no rows
abbrev pub Ends : List SchemaDocument → Result Laid CompileEnd → Result Table CompileEnd → Type 0
Ends documents answer end = (maps : Option Maps) × EndsWith maps documents answer end
