use Rattle.std.proofs.Common.{◌≡◌, ℕ, List}
use Rattle.std.specs.BTreeMap.{get_by_text}
use Rattle.dfdl_statements.specs.Elements.{named_in}
use Rattle.dfdl_statements.proofs.names.names_of.Given as goal

abbrev pub invariant-loop-number : goal.invariant-loop-number
invariant-loop-number l = (q : List ℕ) → get_by_text l.names q ≡ named_in l.rows q l.number
