-- What rows and their statements come to.
use Rattle.std.proofs.Common.{◌≡◌, ℕ, List, map, Bool, Option, Some, None, option_map, Result, Ok, Err, IfOk, IfErr, ap, sym, subst, ◌∙◌, refl}
use Rattle.dfdl_documents.specs.Documents.{SchemaDocument}
use Rattle.dfdl_components.specs.declared.site.Site.{Site}
use Rattle.dfdl_expression_tree.specs.Trees.{Formula}
use Rattle.dfdl_terms.specs.Rows.{Table, table_of}
use Rattle.dfdl_terms.specs.Tables.{Named}
use Rattle.dfdl_terms.specs.declared.row.Row.{Row}
use Rattle.dfdl_terms.specs.declared.statement.Statement.{Statement}
use Rattle.dfdl_checks.specs.declared.purpose.Purpose.{Purpose}
use Rattle.dfdl_statements.specs.Elements.{name_numbers}
use Rattle.dfdl_statements.specs.Settled.{settled}
use Rattle.dfdl_statements.specs.SettledShown.{Settles as IsSettled}
use Rattle.dfdl_statements.specs.Texts.{ReadsTexts}
use Rattle.dfdl_rows.specs.declared.refusal.RefusedRow.{RefusedRow}
use Rattle.dfdl_statements.specs.declared.fault.GivenRefusal.{GivenRefusal}
use Rattle.dfdl_statements.specs.declared.fault.Refusal.{Refusal}
use Rattle.dfdl_statements.specs.declared.fault.StatementFault.{StatementFault}
use Rattle.dfdl_statements.specs.declared.fault.StatementFault.TheVariants as statements
use Rattle.dfdl_statements.specs.declared.sight.Sight.{Sight}
use Rattle.dfdl_statements.specs.declared.written.Written.{Written}
use Rattle.dfdl_variables.specs.Variables.{variables_of}
use Rattle.dfdl_variables.specs.declared.variable.Declared.{Declared}
use Rattle.dfdl_written.specs.Noting.{AreAsNoted}
use Rattle.dfdl_written.specs.Variables.{definition_of}
use Rattle.dfdl_written.specs.declared.noted.Noted.{Noted}
use Rattle.dfdl_compile.specs.Compiled as ends
use Rattle.dfdl_compile.specs.Compiled.{CompileEnd, Laid, Told, laid, told_of}
use Rattle.dfdl_compile.specs.Components.{delimiters_of, primitives_of}
use Rattle.dfdl_compile.specs.Faults.{IsEndFault, IsFaultOf, IsSettledFault}
use Rattle.dfdl_compile.specs.FaultsShown.{statement_fault}
use Rattle.dfdl_compile.specs.Settling.{Ends, EndsWith, Sees, Settles, end_with, given_of, table_with}
use Rattle.dfdl_compile.specs.Shown.{told_shown}
use Rattle.dfdl_compile.specs.Statements.{noted_of}
use Rattle.dfdl_compile.specs.declared.compiling.ToldLists.{ToldLists}
use Rattle.dfdl_compile.specs.declared.fault.CompileFault.{CompileFault}
use Rattle.dfdl_compile.specs.declared.fault.CompileFault.TheVariants as fault

module _ (documents : List SchemaDocument) where
  -- statements that are settled
  pub settles_so : (l : Laid) (rows : List Row) (noted : List Noted) (sight : Sight) (written : List Written)
      (refused : Option RefusedRow) (given : Option GivenRefusal) (answer : Result (List Statement) Refusal)
      → l.rows ≡ rows → l.refused ≡ refused → given ≡ option_map given_of refused → l.told.noted ≡ noted → Sees documents rows sight → AreAsNoted documents noted written
      → ((read : List ℕ → Option Formula) → ReadsTexts read → settled read sight rows written given ≡ answer)
      → Settles documents l (end_with l answer)
  settles_so l rows noted sight written refused given answer rows_are refused_is given_is noted_are sees are settles = (
    record { sight = sight; written = written },
    record {
      sees = subst (λ (rs : List Row). Sees documents rs sight) (sym rows_are) sees;
      noted = subst (λ (ns : List Noted). AreAsNoted documents ns written) (sym noted_are) are;
      settles = λ read reads.
          ap (end_with l)
          (ap (settled read sight l.rows written) (ap (option_map given_of) refused_is ∙ sym given_is)
          ∙ (ap (λ (rs : List Row). settled read sight rs written given) rows_are ∙ settles read reads));
    },
  )

  -- a fault of statements
  pub statements_fault : (Y : Type 0) (l : Laid) (rows : List Row) (noted : List Noted) (sight : Sight) (written : List Written)
      (refused : Option RefusedRow) (given : Option GivenRefusal) (e : StatementFault)
      → l.rows ≡ rows → l.refused ≡ refused → given ≡ option_map given_of refused → l.told.noted ≡ noted → Sees documents rows sight → AreAsNoted documents noted written
      → ((read : List ℕ → Option Formula) → ReadsTexts read → IsSettled {Y = Y} (settled read sight rows written given) (Err e))
      → IsSettledFault documents l (statement_fault e)
  statements_fault Y l rows noted sight written refused given (statements.Refused refusal) rows_are refused_is given_is noted_are sees are settles =
      settles_so l rows noted sight written refused given (Err refusal) rows_are refused_is given_is noted_are sees are settles
  statements_fault Y l rows noted sight written refused given statements.OutOfMemory rows_are refused_is given_is noted_are sees are settles = tt

  -- rows whose statements come to this
  ends_so : (answer : Result Laid CompileEnd) (l : Laid) (end : Result Table CompileEnd) → answer ≡ Ok l → Settles documents l end → Ends documents answer end
  ends_so answer l end is (maps, settles) = (Some maps, subst (λ (r : Result Laid CompileEnd). EndsWith (Some maps) documents r end) (sym is) settles)

  settled_fault : (answer : Result Laid CompileEnd) (l : Laid) (e : CompileFault) → answer ≡ Ok l → IsSettledFault documents l e → IsEndFault documents answer e
  settled_fault answer l (fault.Refused cause place) is settles = ends_so answer l (Err (ends.Refused cause place)) is settles
  settled_fault answer l (fault.Limit cause quantity) is settles = absurd settles
  settled_fault answer l fault.OutOfMemory is settles = tt

  -- why there are no rows
  pub rows_fault : (answer : Result Laid CompileEnd) (e : CompileFault) → IsFaultOf answer e → IsEndFault documents answer e
  rows_fault answer (fault.Refused cause place) is =
      (None, subst (λ (r : Result Laid CompileEnd). EndsWith None documents r (Err (ends.Refused cause place))) (sym is) refl)
  rows_fault answer (fault.Limit cause quantity) is =
      (None, subst (λ (r : Result Laid CompileEnd). EndsWith None documents r (Err (ends.Limit cause quantity))) (sym is) refl)
  rows_fault answer fault.OutOfMemory is = tt

  -- the same of what is answered
  pub all_end : (answer : Result Laid CompileEnd) (l : Laid) (r : Result Table CompileFault) → answer ≡ Ok l
      → IfOk r (λ t. Settles documents l (Ok t)) → IfOk r (λ t. Ends documents answer (Ok t))
  all_end answer l (Ok t) is settles = ends_so answer l (Ok t) is settles
  all_end answer l (Err e) is settles = tt

  pub all_faults : (answer : Result Laid CompileEnd) (l : Laid) (r : Result Table CompileFault) → answer ≡ Ok l
      → IfErr r (IsSettledFault documents l) → IfErr r (IsEndFault documents answer)
  all_faults answer l (Ok t) is settles = tt
  all_faults answer l (Err e) is settles = settled_fault answer l e is settles

-- what is known of a table where there is one
pub if_there : (P Q : Table → Type 0) (r : Result Table CompileFault) → IfOk r P → ((t : Table) → P t → Q t) → IfOk r Q
if_there P Q (Ok t) holds goes = goes t holds
if_there P Q (Err e) holds goes = tt

pub both : (P Q : Table → Type 0) (r : Result Table CompileFault) → IfOk r P → IfOk r Q → IfOk r (λ t. P t × Q t)
both P Q (Ok t) one other = (one, other)
both P Q (Err e) one other = tt

-- what is told of all rows is that of the documents
pub told_is : (purpose : Purpose) (refused : Site → Bool) (documents : List SchemaDocument) (told : ToldLists) (variables : List Declared)
    → told.primitives.items ≡ primitives_of purpose refused documents → told.delimiters.items ≡ delimiters_of purpose refused documents
    → told.noted.items ≡ noted_of purpose refused documents → variables ≡ variables_of documents
    → told_shown told variables ≡ told_of purpose refused documents
told_is purpose refused documents told variables primitives delimiters noted declared =
    λ i. record { primitives = primitives i; delimiters = delimiters i; noted = noted i; variables = map definition_of (declared i) }

-- rows with what is told of them
pub laid_is : (made : List Row) (refused : Option RefusedRow) (one other : Told) → one ≡ other → laid made refused one ≡ laid made refused other
laid_is made refused one other same = ap (laid made refused) same

-- the table of rows with what is told of them and their statements
pub finished : (documents : List SchemaDocument) (made : List Row) (refused : Option RefusedRow) (told : Told) (statements : List Statement) (tables : Named) (t : Table)
    → t ≡ table_of made tables
    → tables ≡ record {
      primitives = told.primitives;
      delimiters = told.delimiters;
      statements = statements;
      names = name_numbers made;
      variables = told.variables;
    }
    → Settles documents (laid made refused told) (Ok (table_with (laid made refused told) statements)) → Settles documents (laid made refused told) (Ok t)
finished documents made refused told statements tables t t_is tables_is settles =
    subst (λ (u : Table). Settles documents (laid made refused told) (Ok u)) (sym (t_is ∙ ap (table_of made) tables_is)) settles
