-- The first of a list that passes a test.
use Rattle.std.proofs.Common.{◌≡◌, ℕ, suc, ◌<◌, List, Bool, true, Some, length, get_or, drop, drop-cons, ap, sym, ◌∙◌, if◌then◌else◌}
use Rattle.std.specs.List.{find}

pub found_at : {X : Type 0} (test : X → Bool) (xs : List X) (i : ℕ) (d : X) → i < length xs → find test (drop i xs) ≡ find test xs → test (get_or xs i d) ≡ true
    → Some (get_or xs i d) ≡ find test xs
found_at {X} test xs i d less rest passes =
    sym (sym rest
    ∙ (ap (find test) (drop-cons xs i d less)
    ∙ ap (λ (b : Bool). if b then Some (get_or xs i d) else find test (drop (suc i) xs)) passes))
