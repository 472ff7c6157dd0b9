-- Mirror for the prover: how the parts of components are kept.
use Rattle.std.specs.Prelude.{ℕ, ◌-◌, ◌≤◌, List, map, take, drop, length, All}
use Rattle.dfdl_order.specs.declared.uses.Span.{Span}

-- the parts within a span
abbrev pub parts_in : List ℕ → Span → List ℕ
parts_in parts s = take (s.end - s.begin) (drop s.begin parts)

-- the parts of each component
abbrev pub lists_in : List ℕ → List Span → List (List ℕ)
lists_in parts spans = map (parts_in parts) spans

-- each span stands within the parts
abbrev pub AreWithin : List ℕ → List Span → Type 0
AreWithin parts spans = All (λ s. (s.begin ≤ s.end) × (s.end ≤ length parts)) spans
