use Rattle.std.proofs.Common.{◌≡◌, drop, map, List, ℕ, Bor}
use Rattle.dfdl_components.specs.Naming.{is_among}
use Rattle.dfdl_components.proofs.built_ins.is_among.Given as goal

abbrev pub invariant-loop-other : goal.invariant-loop-other
invariant-loop-other l = is_among (map (λ (t : Bor (List ℕ)). t.now) (drop l.other-index l.texts)) l.text
    ≡ is_among (map (λ (t : Bor (List ℕ)). t.now) l.texts) l.text
