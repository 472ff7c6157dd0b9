use Rattle.std.proofs.Common.{arith}
use Rattle.std.proofs.lemmas.Bool.Decides.{nat_tests}
use Rattle.dfdl_xml_tree.proofs.Scopes.{none_if_empty, some_if_not}
use Rattle.dfdl_xml_tree.proofs.tree.if_some.Goals as goal

pub returns-then-is_empty : goal.returns-then-is_empty
returns-then-is_empty c = none_if_empty c.args.namespace.now (grind (arith, nat_tests, c.if-is_empty.ensures))

pub returns-else-is_empty : goal.returns-else-is_empty
returns-else-is_empty c =
    some_if_not c.args.namespace.now c.utf8.namespace
    (λ none. grind (arith, nat_tests, none, c.if-is_empty.ensures))
