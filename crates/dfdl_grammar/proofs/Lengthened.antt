-- Nodes of which one has other lengths, and is else as it was.
use Rattle.std.proofs.Common.{◌≡◌, ℕ, zero, suc, refl, List, [], ◌∷◌, length, Option, Some, ap}
use Rattle.std.specs.Prelude.{slice_get}
use Rattle.dfdl_region.specs.declared.node.Node.{Node}
use Rattle.dfdl_region.specs.declared.node.Lengths.{Lengths}
use Rattle.dfdl_region.specs.Nodes.{with_lengths}

pub lengths-length : (nodes : List Node) (number : ℕ) (lengths : Option Lengths) → length (with_lengths nodes number lengths) ≡ length nodes
lengths-length [] number lengths = refl
lengths-length (node ∷ rest) zero lengths = refl
lengths-length (node ∷ rest) (suc number) lengths = ap suc (lengths-length rest number lengths)

-- a node of which only the lengths may have changed
pub record IsSame (nodes : List Node) (at : ℕ) (node : Node) : Type 0 where
  pub old : Node
  pub there : slice_get nodes at ≡ Some old
  pub parent : old.parent ≡ node.parent
  pub element : old.element ≡ node.element
  pub content : old.content ≡ node.content

pub lengths-same : (nodes : List Node) (number at : ℕ) (lengths : Option Lengths) (node : Node)
    → slice_get (with_lengths nodes number lengths) at ≡ Some node → IsSame nodes at node
lengths-same [] number at lengths node is = absurd (cc)
lengths-same (first ∷ rest) zero zero lengths node is =
    let same : ◌≡◌ {A = Node} (record first { lengths = lengths }) node = cc in
    record {
      old = first;
      there = refl;
      parent = ap (λ (n : Node). n.parent) same;
      element = ap (λ (n : Node). n.element) same;
      content = ap (λ (n : Node). n.content) same;
    }
lengths-same (first ∷ rest) zero (suc at) lengths node is = record { old = node; there = is; parent = refl; element = refl; content = refl }
lengths-same (first ∷ rest) (suc number) zero lengths node is = record { old = node; there = is; parent = refl; element = refl; content = refl }
lengths-same (first ∷ rest) (suc number) (suc at) lengths node is =
    let more = lengths-same rest number at lengths node is in
    record { old = more.old; there = more.there; parent = more.parent; element = more.element; content = more.content }
