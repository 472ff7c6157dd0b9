-- A write of one node's content or lengths, as a place of a list that is set.
use Rattle.std.proofs.Common.{◌≡◌, ℕ, zero, suc, List, [], ◌∷◌, refl, ap, ◌≤◌, length, arith, Option}
use Rattle.std.specs.Prelude.{slice_set, slice_index_or}
use Rattle.dfdl_region.specs.Nodes.{with_content, with_lengths}
use Rattle.dfdl_region.specs.declared.node.Node.{Node}
use Rattle.dfdl_region.specs.declared.node.Content.{Content}
use Rattle.dfdl_region.specs.declared.node.Lengths.{Lengths}

pub set-content : (nodes : List Node) (number : ℕ) (node : Node) (content : Content) → node ≡ slice_index_or nodes number node
    → slice_set nodes number (record node { content = content }) ≡ with_content nodes number content
set-content [] number node content is = refl
set-content (first ∷ rest) zero node content is = ap (λ (n : Node). record n { content = content } ∷ rest) is
set-content (first ∷ rest) (suc number) node content is = ap (λ (ns : List Node). first ∷ ns) (set-content rest number node content is)

-- where there is no node of this number, nothing changes
pub with_content-none : (nodes : List Node) (number : ℕ) (content : Content) → length nodes ≤ number → with_content nodes number content ≡ nodes
with_content-none [] number content few = refl
with_content-none (first ∷ rest) zero content few = absurd (omega arith)
with_content-none (first ∷ rest) (suc number) content few =
    let less : length rest ≤ number = omega arith in
    ap (λ (ns : List Node). first ∷ ns) (with_content-none rest number content less)

pub set-lengths : (nodes : List Node) (number : ℕ) (node : Node) (lengths : Option Lengths) → node ≡ slice_index_or nodes number node
    → slice_set nodes number (record node { lengths = lengths }) ≡ with_lengths nodes number lengths
set-lengths [] number node lengths is = refl
set-lengths (first ∷ rest) zero node lengths is = ap (λ (n : Node). record n { lengths = lengths } ∷ rest) is
set-lengths (first ∷ rest) (suc number) node lengths is = ap (λ (ns : List Node). first ∷ ns) (set-lengths rest number node lengths is)

-- where there is no node of this number, nothing changes
pub with_lengths-none : (nodes : List Node) (number : ℕ) (lengths : Option Lengths) → length nodes ≤ number → with_lengths nodes number lengths ≡ nodes
with_lengths-none [] number lengths few = refl
with_lengths-none (first ∷ rest) zero lengths few = absurd (omega arith)
with_lengths-none (first ∷ rest) (suc number) lengths few =
    let less : length rest ≤ number = omega arith in
    ap (λ (ns : List Node). first ∷ ns) (with_lengths-none rest number lengths less)
