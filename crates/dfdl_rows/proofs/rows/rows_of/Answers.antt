use Rattle.std.proofs.Common.{List, length, All, sym, ap, subst, arith}
use Rattle.dfdl_terms.specs.declared.row.Row.{Row}
use Rattle.dfdl_terms.specs.Rows.{Nests, NamesWithin, HasPlainRows}
use Rattle.dfdl_rows.specs.Components.{component_at}
use Rattle.dfdl_rows.specs.Answers.{EndsWith}
use Rattle.dfdl_rows.proofs.Nesting.{rows_nest, rows_some, rows_named, rows_bare, rows_end}
use Rattle.dfdl_rows.specs.Leaves.{HaveLeaves, HaveBareLeaves}
use Rattle.dfdl_rows.proofs.Leaves.{rows_have_leaves, rows_have_bare_leaves}
use Rattle.dfdl_rows.proofs.RowsOf.{length_rows}
use Rattle.dfdl_rows.proofs.rows.rows_of.Goals as goal

pub returns-clause-some : goal.returns-clause-some
returns-clause-some c =
    omega (
      arith,
      c.in_ok-rows.rows.ok.0,
      ap (λ (rows : List Row). length rows) c.in_ok-rows.ensures,
      rows_some c.args.components.now c.facts.ensures.ordered c.facts.ensures.of_one c.args.root c.requires,
    )

pub returns-clause-few : goal.returns-clause-few
returns-clause-few c =
    omega (
      arith,
      c.in_ok-rows.rows.ok.0,
      ap (λ (rows : List Row). length rows) c.in_ok-rows.ensures,
      length_rows c.args.components.now c.facts.ensures.ordered c.args.root c.requires 0,
      c.if-branch-from-2.false,
      c.in_ok-size.ensures,
      c.from-2.ensures,
    )

pub returns-clause-nests : goal.returns-clause-nests
returns-clause-nests c =
    subst Nests (sym c.in_ok-rows.ensures)
    (rows_nest c.args.components.now c.facts.ensures.ordered c.facts.ensures.of_one c.args.root c.requires)

pub returns-clause-root : goal.returns-clause-root
returns-clause-root c =
    subst (EndsWith (component_at c.args.components.now.components c.args.root)) (sym c.in_ok-rows.ensures)
    (rows_end c.args.components.now c.facts.ensures.ordered c.args.root c.requires)

pub returns-clause-named : goal.returns-clause-named
returns-clause-named c = λ named has lists statements.
    subst (λ (rows : List Row). All (NamesWithin named) rows) (sym c.in_ok-rows.ensures)
    (rows_named c.args.components.now c.facts.ensures.ordered c.facts.ensures.of_one named has lists statements c.args.root c.requires 0)

pub returns-clause-leaves : goal.returns-clause-leaves
returns-clause-leaves c =
    subst (λ (rows : List Row). HaveLeaves c.args.components.now.components rows) (sym c.in_ok-rows.ensures)
    (rows_have_leaves c.args.components.now c.facts.ensures.ordered c.facts.ensures.of_one c.args.root c.requires)

pub returns-clause-bare : goal.returns-clause-bare
returns-clause-bare c = λ bare.
    subst (λ (rows : List Row). HaveBareLeaves c.args.components.now.components rows) (sym c.in_ok-rows.ensures)
    (rows_have_bare_leaves c.args.components.now c.facts.ensures.ordered c.facts.ensures.of_one bare c.args.root c.requires)

pub returns-clause-plain : goal.returns-clause-plain
returns-clause-plain c = λ bare.
    subst HasPlainRows (sym c.in_ok-rows.ensures)
    (rows_bare c.args.components.now c.facts.ensures.ordered c.facts.ensures.of_one bare c.args.root c.requires)
