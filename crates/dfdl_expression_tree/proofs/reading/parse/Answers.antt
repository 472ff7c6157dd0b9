use Rattle.std.proofs.Common.{◌≡◌, ◌∙◌, ap, sym, Some, None}
use Rattle.dfdl_expression_tree.specs.Numbering.{planted}
use Rattle.dfdl_expression_tree.proofs.Numbers.{told_tree, told_none}
use Rattle.dfdl_expression_tree.proofs.reading.parse.Goals as goal

pub unreachable-requires : goal.unreachable-requires
unreachable-requires c =
    let none : planted c.deref.result.now ≡ None = rw c.in-None.is at c.in_ok-nodes.ensures in
    told_none c.args.text.now c.in_ok-tokens.tokens.items c.in_ok-tokens.ensures.tokens (ap planted (sym c.deref.ensures.value) ∙ none)

pub returns-clause-tree : goal.returns-clause-tree
returns-clause-tree c =
    let some : planted c.deref.result.now ≡ Some c.in-Some.nodes.items = rw c.in-Some.is at c.in_ok-nodes.ensures in
    told_tree c.args.text.now c.in_ok-tokens.tokens.items c.in-Some.nodes.items c.in_ok-tokens.ensures.tokens
    (ap planted (sym c.deref.ensures.value) ∙ some)
