use Rattle.std.proofs.Common.{◌≡◌, ◌++◌, ℕ, List, Option, length, vec_len}
use Rattle.std.specs.List.{AllZip}
use Rattle.std.specs.Vec.Iter.{into_iter_items, into_iter_len}
use Rattle.dfdl_expression_tree.specs.Trees.{Formula}
use Rattle.dfdl_terms.specs.declared.row.Row.{Row}
use Rattle.dfdl_terms.specs.declared.statement.Statement.{Statement}
use Rattle.dfdl_statements.specs.Making.{IsMadeOf}
use Rattle.dfdl_statements.specs.Settled.{made_from, places}
use Rattle.dfdl_statements.specs.SettledShown.{put_before}
use Rattle.dfdl_statements.specs.Texts.{ReadsTexts}
use Rattle.dfdl_statements.proofs.settling.made.Given as goal

-- the statements that are made and those that are still to be made are all, and so are their kinds
abbrev pub invariant-loop-one : goal.invariant-loop-one
invariant-loop-one l = record {
  whole : (rows : List Row) (read : List ℕ → Option Formula) → ReadsTexts read → l.places ≡ places rows l.fn.written.items
      → put_before l.statements.items (made_from read l.sight rows l.fn.written.items (vec_len l.statements) (into_iter_items l.one-iterator))
      ≡ made_from read l.sight rows l.fn.written.items 0 l.fn.written.items;
  kinds : (others : List Statement) → AllZip IsMadeOf (into_iter_items l.one-iterator) others
      → AllZip IsMadeOf l.fn.written.items (l.statements.items ++ others);
  many : into_iter_len l.one-iterator ≡ length (into_iter_items l.one-iterator);
}
