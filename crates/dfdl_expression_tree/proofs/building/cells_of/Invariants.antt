use Rattle.std.proofs.Common.{◌≡◌, map, drop}
use Rattle.dfdl_expression_tree.specs.declared.token.Token.{Token}
use Rattle.dfdl_expression_tree.specs.Building.{run, built}
use Rattle.dfdl_expression_tree.specs.Shown.{state_seen}
use Rattle.dfdl_expression_tree.proofs.building.cells_of.Given as goal

-- what is built of the tokens that are left is what is built of all
abbrev pub invariant-loop-at : goal.invariant-loop-at
invariant-loop-at l = run l.tokens (map (λ (t : Token). t.kind) (drop l.at l.tokens)) l.at (state_seen l.builder) ≡ built l.tokens
