-- What a change of one element makes of the list of the elements.
use Rattle.std.proofs.Common.{◌≡◌, ℕ, zero, suc, ◌<◌, ◌≤◌, List, [], ◌∷◌, length, get_or, refl, ap, sym, arith}
use Rattle.std.proofs.Common.{Some, None}
use Rattle.std.proofs.Math.ListN.{set}
use Rattle.dfdl_markup.specs.Trees.{Node}
use Rattle.dfdl_markup.specs.Building.{Built, changed, changed_in, first_of}

-- the element is written anew in its place
pub set_changed : (f : Node → Node) (p : ℕ) (nodes : List Node) (d : Node) → p < length nodes
    → set nodes p (f (get_or nodes p d)) ≡ changed f p nodes
set_changed f p [] d h = absurd (omega arith)
set_changed f zero (n ∷ nodes) d h = refl
set_changed f (suc p) (n ∷ nodes) d h = ap (λ ns. n ∷ ns) (set_changed f p nodes d (omega arith))

-- there is no such element
pub none_changed : (f : Node → Node) (p : ℕ) (nodes : List Node) → length nodes ≤ p
    → changed f p nodes ≡ nodes
none_changed f p [] h = refl
none_changed f zero (n ∷ nodes) h = absurd (omega arith)
none_changed f (suc p) (n ∷ nodes) h = ap (λ ns. n ∷ ns) (none_changed f p nodes (omega arith))

-- nor is the innermost open one there
pub none_changed_in : (f : Node → Node) (p : ℕ) (ancestors : List ℕ) (nodes : List Node)
    → first_of ancestors ≡ Some p → length nodes ≤ p → changed_in f ancestors nodes ≡ nodes
none_changed_in f p [] nodes is h = refl
none_changed_in f p (q ∷ ancestors) nodes is h =
    let same : q ≡ p = cc in none_changed f q nodes (omega (arith, same))

-- the innermost open one is changed
pub first_changed : (f : Node → Node) (p : ℕ) (ancestors : List ℕ) (nodes : List Node)
    → first_of ancestors ≡ Some p → changed_in f ancestors nodes ≡ changed f p nodes
first_changed f p [] nodes is = absurd cc
first_changed f p (q ∷ ancestors) nodes is = let same : q ≡ p = cc in ap (λ r. changed f r nodes) same

-- none is open
pub none_open : (f : Node → Node) (ancestors : List ℕ) (nodes : List Node)
    → first_of ancestors ≡ None → changed_in f ancestors nodes ≡ nodes
none_open f [] nodes is = refl
none_open f (q ∷ ancestors) nodes is = absurd cc

-- a change keeps their number
pub length-changed : (f : Node → Node) (p : ℕ) (nodes : List Node)
    → length (changed f p nodes) ≡ length nodes
length-changed f p [] = refl
length-changed f zero (n ∷ nodes) = refl
length-changed f (suc p) (n ∷ nodes) = ap suc (length-changed f p nodes)

-- all is as it was where there is no such element
pub kept_if_none : (f : Node → Node) (p : ℕ) (b : Built) → first_of b.ancestors ≡ Some p
    → length b.nodes ≤ p
    → b ≡ record {
      nodes = changed_in f b.ancestors b.nodes;
      ancestors = b.ancestors;
      behind_cr = b.behind_cr;
      at = b.at;
      opened_at = b.opened_at;
    }
kept_if_none f p b is h =
    ap (λ (nodes : List Node). record {
      nodes = nodes;
      ancestors = b.ancestors;
      behind_cr = b.behind_cr;
      at = b.at;
      opened_at = b.opened_at;
    }) (sym (none_changed_in f p b.ancestors b.nodes is h))
