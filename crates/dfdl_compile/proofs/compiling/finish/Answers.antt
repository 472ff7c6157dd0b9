use Rattle.std.proofs.Common.{rules, ◌∙◌, All, List, ap, length, refl, subst, sym}
use Rattle.std.specs.List.{AllZip}
use Rattle.dfdl_terms.specs.Rows.{IsPrimitive, Table}
use Rattle.dfdl_terms.specs.Tables.{Named}
use Rattle.dfdl_terms.specs.declared.row.Primitive.{Primitive}
use Rattle.dfdl_terms.specs.declared.statement.Statement.{Statement}
use Rattle.dfdl_statements.specs.Elements.{name_numbers}
use Rattle.dfdl_compile.specs.Compiled.{laid}
use Rattle.dfdl_compile.specs.Shown.{IsAsWritten, told_shown}
use Rattle.dfdl_compile.proofs.Finishing.{finished}
use Rattle.dfdl_compile.proofs.compiling.finish.Goals as goal

pub terms_from-requires-clause-named : goal.terms_from-requires-clause-named
terms_from-requires-clause-named c =
    c.requires.named c.new-tables.result (ap (λ (n : Named). n.primitives) c.new-tables.ensures) (ap (λ (n : Named). n.delimiters) c.new-tables.ensures)
    (ap (λ (n : Named). length n.statements) c.new-tables.ensures ∙ c.in_ok-statements.ensures.counted)

pub terms_from-requires-clause-bounded : goal.terms_from-requires-clause-bounded
terms_from-requires-clause-bounded c =
    subst (λ (ps : List Primitive). All IsPrimitive ps) (sym (ap (λ (n : Named). n.primitives) c.new-tables.ensures)) c.requires.bounded

pub returns-clause-settled : goal.returns-clause-settled
returns-clause-settled c =
    finished c.args.schema.now c.args.rows.items c.args.refused (told_shown c.args.told c.args.variables.items) c.in_ok-statements.field-0.statements.items c.new-tables.result
    c.terms_from.result c.terms_from.ensures
    (c.new-tables.ensures
    ∙ (λ i. record {
      primitives = c.args.told.primitives.items;
      delimiters = c.args.told.delimiters.items;
      statements = c.in_ok-statements.field-0.statements.items;
      names = (c.in_ok-statements.ensures.numbers ∙ ap name_numbers c.as_slice.ensures.value) i;
      variables = c.in_ok-variables.ensures i;
    }))
    (c.in_ok-statements.ensures.settled (laid c.args.rows.items c.args.refused (told_shown c.args.told c.args.variables.items)) (sym c.as_slice.ensures.value) refl refl)

pub returns-clause-written : goal.returns-clause-written
returns-clause-written c =
    subst (λ (ss : List Statement). AllZip IsAsWritten c.args.told.noted.items ss)
    (sym (ap (λ (t : Table). t.statements) c.terms_from.ensures ∙ ap (λ (n : Named). n.statements) c.new-tables.ensures))
    c.in_ok-statements.ensures.written

pub returns-in_err-statements-clause-fault : goal.returns-in_err-statements-clause-fault
returns-in_err-statements-clause-fault c =
    let given = c.in_err-statements.ensures.fault (laid c.args.rows.items c.args.refused (told_shown c.args.told c.args.variables.items)) (sym c.as_slice.ensures.value) refl refl in
    search (rules, given)
