use Rattle.std.proofs.Common.{◌≡◌, ℕ, List, drop}
use Rattle.std.specs.BTreeMap.{get_by_text}
use Rattle.dfdl_components.specs.Searching.{or_else}
use Rattle.dfdl_written.specs.Variables.{variable_from}
use Rattle.dfdl_written.proofs.variables.variables_by_name.Given as goal

-- the variables so far, and those that are left
abbrev pub invariant-loop-at : goal.invariant-loop-at
invariant-loop-at l = (q : List ℕ) → or_else (get_by_text l.named q) (variable_from l.at (drop l.at l.variables) q) ≡ variable_from 0 l.variables q
