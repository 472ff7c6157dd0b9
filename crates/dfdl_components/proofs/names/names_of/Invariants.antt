use Rattle.std.proofs.Common.{◌≡◌, ℕ, List}
use Rattle.std.specs.BTreeMap.{get_by_text}
use Rattle.dfdl_components.specs.Searching.{first_below}
use Rattle.dfdl_components.specs.Globals.{named_at}
use Rattle.dfdl_components.proofs.names.names_of.Given as goal

abbrev pub invariant-loop-element : goal.invariant-loop-element
invariant-loop-element l = (q : List ℕ) → get_by_text l.names q ≡ first_below (named_at l.tree l.kind q) l.element
