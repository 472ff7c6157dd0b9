use Rattle.std.proofs.Common.{◌≡◌, drop}
use Rattle.std.specs.List.{list_any}
use Rattle.dfdl_grammar.specs.Leaves.{is_value}
use Rattle.dfdl_leaves.proofs.nil_values.is_content.Given as goal

-- the values that are left tell it
abbrev pub invariant-loop-value : goal.invariant-loop-value
invariant-loop-value l = list_any (is_value l.content) (drop l.value-index l.values) ≡ list_any (is_value l.content) l.values
