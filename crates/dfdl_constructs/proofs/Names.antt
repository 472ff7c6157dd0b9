-- Of the elements of a list from a place on, whether all pass.
use Rattle.std.proofs.Common.{◌≡◌, ℕ, suc, arith, ◌+◌, ◌<◌, List, length, drop, get_or, Bool, true, false, ap, sym, ◌∙◌, ◌&&◌}
use Rattle.std.proofs.Math.Seq.{drop-cons}
use Rattle.std.specs.List.{list_all}

from_place : {X : Type 0} (p : X → Bool) (xs : List X) (n : ℕ) (x : X) → n < length xs → x ≡ get_or xs n x
    → list_all p (drop n xs) ≡ (p x && list_all p (drop (n + 1) xs))
from_place {X} p xs n x within is =
    let behind : suc n ≡ n + 1 = omega arith in
    ap (list_all p) (drop-cons xs n x within)
    ∙ (ap (λ (k : ℕ). p (get_or xs n x) && list_all p (drop k xs)) behind
    ∙ ap (λ (y : X). p y && list_all p (drop (n + 1) xs)) (sym is))

pub first_fails : {X : Type 0} (p : X → Bool) (xs : List X) (n : ℕ) (x : X) → n < length xs → x ≡ get_or xs n x
    → p x ≡ false → false ≡ list_all p (drop n xs)
first_fails p xs n x within is fails =
    sym (from_place p xs n x within is ∙ ap (λ (b : Bool). b && list_all p (drop (n + 1) xs)) fails)

pub first_holds : {X : Type 0} (p : X → Bool) (xs : List X) (n : ℕ) (x : X) → n < length xs → x ≡ get_or xs n x
    → p x ≡ true → list_all p (drop (n + 1) xs) ≡ list_all p (drop n xs)
first_holds p xs n x within is holds =
    sym (from_place p xs n x within is ∙ ap (λ (b : Bool). b && list_all p (drop (n + 1) xs)) holds)
