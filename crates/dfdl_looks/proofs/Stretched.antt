-- Where the looks of a stretch of bytes lie.
use Rattle.std.proofs.Common.{ℕ, zero, suc, ◌+◌, ◌≤◌, List, ◌∷◌, Option, Some, None, arith}
use Rattle.dfdl_looks.specs.Asks.{Ask, Answer, AsksFrom, look_at}

behind : {F : Type 0} (count low k : ℕ) (ends : F) (go : List ℕ → F)
    → ((more : List ℕ → F) → AsksFrom low (look_at count (k + 1) ends more))
    → (o : Option ℕ) → AsksFrom low (elim o as (λ _. Ask F) [ None ↦ Answer ends | Some byte ↦ look_at count (k + 1) ends (λ bytes. go (byte ∷ bytes)) ])
behind count low k ends go rest None = tt
behind count low k ends go rest (Some byte) = rest (λ bytes. go (byte ∷ bytes))

pub look_at-from : {F : Type 0} (count low k : ℕ) (ends : F) (go : List ℕ → F) → low ≤ k → AsksFrom low (look_at count k ends go)
look_at-from zero low k ends go base = tt
look_at-from (suc count) low k ends go base =
    (base, behind count low k ends go (λ more. look_at-from count low (k + 1) ends more (omega arith)))
