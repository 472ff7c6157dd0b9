use Rattle.std.proofs.Common.{◌≡◌, ℕ, List, map, option_map, take}
use Rattle.std.specs.BTreeMap.{get_by_text}
use Rattle.std.specs.Prelude.{string_bytes}
use Rattle.dfdl_written.specs.Prefixes.{namespace_among}
use Rattle.dfdl_written.proofs.prefixes.namespaces.Given as goal

-- the namespaces of the prefixes so far
abbrev pub invariant-loop-at : goal.invariant-loop-at
invariant-loop-at l = (q : List ℕ) → option_map string_bytes (get_by_text l.made q)
    ≡ namespace_among (map (λ name. string_bytes name) (take l.at l.prefixes)) l.tree l.element q
