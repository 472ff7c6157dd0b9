use Rattle.std.proofs.Common.{◌≡◌, ℕ, ◌||◌, List, drop}
use Rattle.std.specs.List.{list_any}
use Rattle.dfdl_markup.specs.Trees.{node_at}
use Rattle.dfdl_documents.specs.Loading.{is_among}
use Rattle.dfdl_written.specs.Prefixes.{declares, declares_among}
use Rattle.dfdl_written.proofs.prefixes.with_element.Given as goal

-- the prefixes so far, and those of the attributes that are left
abbrev pub invariant-loop-at : goal.invariant-loop-at
invariant-loop-at l = (q : List ℕ) → (is_among l.more q || list_any (declares q) (drop l.at (node_at l.tree l.element).attributes))
    ≡ (is_among l.fn.prefixes q || declares_among q (node_at l.tree l.element))
