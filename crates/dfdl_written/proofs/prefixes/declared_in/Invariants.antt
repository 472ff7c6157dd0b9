use Rattle.std.proofs.Common.{◌≡◌, ℕ, ◌||◌, List, drop}
use Rattle.std.specs.List.{list_any}
use Rattle.dfdl_documents.specs.Loading.{is_among}
use Rattle.dfdl_written.specs.Prefixes.{declares_among, is_declared}
use Rattle.dfdl_written.proofs.prefixes.declared_in.Given as goal

-- the prefixes so far, and those of the elements that are left
abbrev pub invariant-loop-element : goal.invariant-loop-element
invariant-loop-element l = (q : List ℕ) → (is_among l.prefixes q || list_any (declares_among q) (drop l.element l.tree)) ≡ is_declared l.tree q
