use Rattle.std.proofs.Common.{◌≡◌, drop}
use Rattle.std.specs.List.{list_any}
use Rattle.dfdl_grammar.specs.Leaves.{is_text}
use Rattle.dfdl_leaves.proofs.nil_values.is_text.Given as goal

-- the values that are left tell it
abbrev pub invariant-loop-value : goal.invariant-loop-value
invariant-loop-value l = list_any (is_text l.bytes) (drop l.value-index l.values) ≡ list_any (is_text l.bytes) l.values
