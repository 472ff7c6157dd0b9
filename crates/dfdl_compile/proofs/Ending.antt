-- What rows and faults say of a schema.
use Rattle.std.proofs.Common.{◌≡◌, ℕ, ◌<◌, ◌≤◌, List, length, Option, Some, None, option_map, Result, Ok, Err, Bool, if◌then◌else◌, ap, sym, subst, ◌∙◌, arith}
use Rattle.std.proofs.lemmas.Bool.{le-ltb, lt-ltb}
use Rattle.dfdl_report.specs.declared.cause.LimitCause.{LimitCause}
use Rattle.dfdl_report.specs.declared.cause.LimitCause.TheVariants as limit
use Rattle.dfdl_documents.specs.Documents.{SchemaDocument}
use Rattle.dfdl_terms.specs.declared.row.Row.{Row}
use Rattle.dfdl_rows.specs.Answers.{Asked, AreRowsOf, IsFaultOf as IsRowsFault, IsLimitOf}
use Rattle.dfdl_rows.specs.Positions.{refused_row}
use Rattle.dfdl_rows.specs.Depths.{depth_of}
use Rattle.dfdl_rows.specs.Refusals.{first_refusal}
use Rattle.dfdl_rows.specs.RowLists.{rows_of}
use Rattle.dfdl_rows.specs.Sizes.{size_of}
use Rattle.dfdl_rows.specs.declared.refusal.Refusal.{Refusal}
use Rattle.dfdl_rows.specs.declared.refusal.RefusedRow.{RefusedRow}
use Rattle.dfdl_rows.specs.declared.fault.RowsFault.{RowsFault}
use Rattle.dfdl_rows.specs.declared.fault.RowsFault.TheVariants as rows
use Rattle.dfdl_rows.specs.Answers.{asked}
use Rattle.dfdl_rows.specs.Components.{Schema}
use Rattle.dfdl_report.specs.declared.cause.SchemaCause.{SchemaCause}
use Rattle.dfdl_report.specs.declared.place.Place.{Place}
use Rattle.dfdl_components.specs.declared.site.Site.{Site}
use Rattle.dfdl_components.specs.Sites.{IsSite}
use Rattle.dfdl_components.specs.Recursion.{number_of}
use Rattle.dfdl_chains.specs.Everywhere.{site_at}
use Rattle.dfdl_chains.proofs.Numbering.{number_below}
use Rattle.dfdl_breaches.specs.Elements.{place_of}
use Rattle.dfdl_compile.specs.declared.fault.CompileFault.{CompileFault}
use Rattle.dfdl_compile.specs.declared.fault.CompileFault.TheVariants as fault
use Rattle.dfdl_checks.specs.declared.purpose.Purpose.{Purpose}
use Rattle.dfdl_compile.specs.Components.{components_of}
use Rattle.dfdl_compile.proofs.Fitting.{length_uses}
use Rattle.dfdl_compile.specs.Compiled as ends
use Rattle.dfdl_compile.specs.Compiled.{CompileEnd, Laid, Told, by_rows, by_depth, by_recursion, by_root, first_recursive, laid, told_of}
use Rattle.dfdl_compile.specs.Faults.{IsFaultOf, IsRecursionFault}
use Rattle.dfdl_compile.specs.FaultsShown.{fault_of}

-- rows where elements are nested no deeper than the limit allows
flat : (told : Told) (a : Asked) → depth_of a.schema a.root ≤ a.depth → by_depth told a ≡ by_rows told a (first_refusal a.schema a.root)
unfolding by_depth
flat told a few =
    ap (λ (b : Bool). if b then Err (ends.Limit limit.Depth a.depth) else by_rows told a (first_refusal a.schema a.root)) (le-ltb a.depth (depth_of a.schema a.root) few)

-- where there are more rows than the limit allows
past : (told : Told) (a : Asked) (refusal : Option Refusal) → a.rows < size_of a.schema a.root → by_rows told a refusal ≡ Err (ends.past_rows a.rows refusal)
past told a refusal many =
    ap (λ (b : Bool). if b then Err (ends.past_rows a.rows refusal)
    else Ok (laid (rows_of a.schema a.root) (option_map (refused_row a.schema a.root) refusal) told)) (lt-ltb a.rows (size_of a.schema a.root) many)

-- the rows of a root
rows_are : (told : Told) (a : Asked) (made : List Row) (refused : Option RefusedRow) → AreRowsOf a made refused → by_depth told a ≡ Ok (laid made refused told)
rows_are told a made refused are =
    flat told a are.flat
    ∙ (ap (λ (b : Bool). if b then Err (ends.past_rows a.rows (first_refusal a.schema a.root))
    else Ok (laid (rows_of a.schema a.root) (option_map (refused_row a.schema a.root) (first_refusal a.schema a.root)) told))
    (le-ltb a.rows (size_of a.schema a.root) are.short)
    ∙ (ap (λ (rs : List Row). Ok (laid rs (option_map (refused_row a.schema a.root) (first_refusal a.schema a.root)) told)) (sym are.rows_are)
    ∙ ap (λ (o : Option RefusedRow). Ok (laid made o told)) (sym are.refused_is)))

-- a limit that was reached
limit_is : (told : Told) (a : Asked) (cause : LimitCause) (quantity : ℕ) → IsLimitOf a cause quantity → by_depth told a ≡ Err (ends.Limit cause quantity)
unfolding by_depth
limit_is told a limit.Input quantity is = absurd is
limit_is told a limit.Window quantity is = absurd is
limit_is told a limit.Nodes quantity is = absurd is
limit_is told a limit.Text quantity is = absurd is
limit_is told a limit.Depth quantity is =
    ap (λ (b : Bool). if b then Err (ends.Limit limit.Depth a.depth) else by_rows told a (first_refusal a.schema a.root)) (lt-ltb a.depth (depth_of a.schema a.root) is.1)
    ∙ ap (λ (n : ℕ). Err (ends.Limit limit.Depth n)) (sym is.0)
limit_is told a limit.Schema quantity is = absurd is
limit_is told a limit.Cells quantity is = absurd is
limit_is told a limit.Held quantity is = absurd is
limit_is told a limit.Schemas quantity is = absurd is
limit_is told a limit.Rows quantity is =
    flat told a is.1
    ∙ (ap (by_rows told a) is.2
    ∙ (past told a None is.3
    ∙ ap (λ (n : ℕ). Err (ends.Limit limit.Rows n)) (sym is.0)))

-- a fault of rows
fault_is : (told : Told) (a : Asked) (e : RowsFault) → IsRowsFault a e → IsFaultOf (by_depth told a) (fault_of e)
fault_is told a (rows.Refused refusal) is = flat told a is.0 ∙ (ap (by_rows told a) is.1 ∙ past told a (Some refusal) is.2)
fault_is told a (rows.Limit cause quantity) is = limit_is told a cause quantity is
fault_is told a rows.OutOfMemory is = tt

-- the same of the documents, where no component reaches itself
pub root_laid : (purpose : Purpose) (refused : Site → Bool) (documents : List SchemaDocument) (depth most : ℕ) (root : Site) (schema : Schema) (number : ℕ) (made : List Row)
    (refused_at : Option RefusedRow) → schema ≡ components_of purpose refused documents
    → number ≡ number_of documents root → first_recursive (components_of purpose refused documents).uses ≡ None → AreRowsOf (asked schema number depth most) made refused_at
    → by_root purpose refused documents depth most (Some root) ≡ Ok (laid made refused_at (told_of purpose refused documents))
root_laid purpose refused documents depth most root schema number made refused_at schema_is number_is none are =
    ap (by_recursion documents (told_of purpose refused documents) (asked (components_of purpose refused documents) (number_of documents root) depth most)) none
    ∙ rows_are (told_of purpose refused documents) (asked (components_of purpose refused documents) (number_of documents root) depth most) made refused_at
    (subst (λ (n : ℕ). AreRowsOf (asked (components_of purpose refused documents) n depth most) made refused_at) number_is
    (subst (λ (s : Schema). AreRowsOf (asked s number depth most) made refused_at) schema_is are))

pub root_fault : (purpose : Purpose) (refused : Site → Bool) (documents : List SchemaDocument) (depth most : ℕ) (root : Site) (schema : Schema) (number : ℕ) (e : RowsFault) → schema ≡ components_of purpose refused documents
    → number ≡ number_of documents root → first_recursive (components_of purpose refused documents).uses ≡ None → IsRowsFault (asked schema number depth most) e
    → IsFaultOf (by_root purpose refused documents depth most (Some root)) (fault_of e)
root_fault purpose refused documents depth most root schema number e schema_is number_is none is =
    subst (λ (r : Result Laid CompileEnd). IsFaultOf r (fault_of e)) (sym (ap (by_recursion documents (told_of purpose refused documents) (asked (components_of purpose refused documents) (number_of documents root) depth most)) none))
    (fault_is (told_of purpose refused documents) (asked (components_of purpose refused documents) (number_of documents root) depth most) e
    (subst (λ (n : ℕ). IsRowsFault (asked (components_of purpose refused documents) n depth most) e) number_is
    (subst (λ (s : Schema). IsRowsFault (asked s number depth most) e) schema_is is)))

-- a component that reaches itself
pub recursion_fault : (purpose : Purpose) (refused : Site → Bool) (documents : List SchemaDocument) (depth most : ℕ) (root : Site) (e : CompileFault) → IsRecursionFault purpose refused documents e
    → IsFaultOf (by_root purpose refused documents depth most (Some root)) e
recursion_fault purpose refused documents depth most root (fault.Refused cause place) is =
    ap (by_recursion documents (told_of purpose refused documents) (asked (components_of purpose refused documents) (number_of documents root) depth most)) is.1
    ∙ (ap (λ (c : SchemaCause). Err (ends.Refused c (place_of documents (site_at documents is.0)))) (sym is.2)
    ∙ ap (λ (p : Place). Err (ends.Refused cause p)) (sym is.3))
recursion_fault purpose refused documents depth most root (fault.Limit cause quantity) is = absurd is
recursion_fault purpose refused documents depth most root fault.OutOfMemory is = tt

-- the number of a root
pub root_within : (purpose : Purpose) (refused : Site → Bool) (documents : List SchemaDocument) (root : Site) (schema : Schema) (number : ℕ) → schema ≡ components_of purpose refused documents → number ≡ number_of documents root
    → IsSite documents root → number < length schema.uses
root_within purpose refused documents root schema number schema_is number_is within =
    subst (λ (s : Schema). number < length s.uses) (sym schema_is)
    (omega (arith, number_is, number_below documents root within, length_uses purpose refused documents))
