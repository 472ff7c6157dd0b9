-- A list whose end isn't written yet is the same list when more of it is written.
use Rattle.std.proofs.Common.{◌≡◌, ℕ, ◌+◌, ◌-◌, ◌<◌, ◌≤◌, Option, None, List, [], ◌∷◌, ◌++◌, length, set, replicate, sym, ap, ◌∙◌, arith, append_assoc, length-append, length-set}
use Rattle.std.proofs.lemmas.List.{length-replicate, replicate-append-replicate, replicate_more, set-append_left}
use Rattle.dfdl_suspend.specs.Padded.{padded}

pub padded_fill : {V : Type 0} (cells n : ℕ) (written : List (Option V)) → length written ≤ cells → n ≤ cells
    → padded cells (written ++ replicate (n - length written) None) ≡ padded cells written
padded_fill {V} cells n written few within =
    let more : List (Option V) = replicate (n - length written) None in
    let long : length (written ++ more) ≡ length written + (n - length written) = length-append written more ∙ ap (λ k. length written + k) (length-replicate (n - length written) None) in
    let split : (n - length written) + (cells - length (written ++ more)) ≡ cells - length written = omega (arith, long) in
    append_assoc written more (replicate (cells - length (written ++ more)) None)
    ∙ ap (λ rest. written ++ rest) (replicate-append-replicate (n - length written) (cells - length (written ++ more)) None ∙ ap (λ k. replicate k None) split)

pub padded_set : {V : Type 0} (cells i : ℕ) (written : List (Option V)) (o : Option V) → i < length written
    → padded cells (set written i o) ≡ set (padded cells written) i o
padded_set cells i written o within =
    ap (λ k. set written i o ++ replicate (cells - k) None) (length-set written i o) ∙ sym (set-append_left written (replicate (cells - length written) None) i o within)

pub filled_more : {X : Type 0} (xs ys : List X) (from i : ℕ) (y : X) → from ≤ i → ys ≡ xs ++ replicate (i - from) y → ys ++ y ∷ [] ≡ xs ++ replicate (i + 1 - from) y
filled_more xs ys from i y behind is =
    let step : i - from + 1 ≡ i + 1 - from = omega arith in
    ap (λ zs. zs ++ y ∷ []) is ∙ (append_assoc xs (replicate (i - from) y) (y ∷ []) ∙ ap (λ zs. xs ++ zs) (replicate_more (i - from) y ∙ ap (λ k. replicate k y) step))
