use Rattle.std.proofs.Common.{◌≡◌, drop}
use Rattle.std.specs.List.{list_any}
use Rattle.dfdl_statements.specs.Unbound.{is_unbound_in}
use Rattle.dfdl_statements.proofs.prefixes.names_unbound.Given as goal

abbrev pub invariant-loop-node : goal.invariant-loop-node
invariant-loop-node l =
    list_any (is_unbound_in l.statics l.text) (drop l.node-index l.node-items) ≡ list_any (is_unbound_in l.statics l.text) l.node-items
