-- Runs over lists that are put together, and items each of which has a property.
use Rattle.std.proofs.Common.{◌≡◌, ℕ, ◌+◌, ◌<◌, List, [], ◌∷◌, ◌++◌, length, take, get_or, refl}
use Rattle.std.proofs.Common.{ap, ◌∙◌, Result, Ok, Err}
use Rattle.std.proofs.lemmas.List.{take_more}
use Rattle.dfdl_layers.specs.Tellers.{Each, go_on, run}

-- a run over two lists is the run over the second from where the first ends
pub run-append : {S A : Type 0} (step : S → A → Result S ℕ) (xs ys : List A) (s : S)
    → run step s (xs ++ ys) ≡ go_on (λ t. run step t ys) (run step s xs)
run-append step [] ys s = refl
run-append step (x ∷ xs) ys s =
    elim (step s x) as
    (λ o. go_on (λ t. run step t (xs ++ ys)) o
    ≡ go_on (λ t. run step t ys) (go_on (λ t. run step t xs) o)) [
      | Ok t ↦ run-append step xs ys t
      | Err m ↦ refl
    ]

pub step_alone : {S : Type 0} (o : Result S ℕ) → go_on (λ t. Ok t) o ≡ o
step_alone (Ok t) = refl
step_alone (Err m) = refl

-- a run and one item more is the step from where the run ends
pub run_push : {S A : Type 0} (step : S → A → Result S ℕ) (xs : List A) (a : A) (s t : S)
    → run step s xs ≡ Ok t → run step s (xs ++ a ∷ []) ≡ step t a
run_push step xs a s t is =
    run-append step xs (a ∷ []) s ∙ ap (λ o. go_on (λ u. run step u (a ∷ [])) o) is
    ∙ step_alone (step t a)

-- the run over the items up to and with the one at i
pub run_through : {S A : Type 0} (step : S → A → Result S ℕ) (start : S) (items : List A) (i : ℕ)
    (s : S) (d : A) → i < length items
    → run step start (take i items) ≡ Ok s
    → run step start (take (i + 1) items) ≡ step s (get_or items i d)
run_through step start items i s d within is =
    ap (λ l. run step start l) (take_more items i d within)
    ∙ run_push step (take i items) (get_or items i d) start s is

-- one step more of a run over the items
pub run_more : {S A : Type 0} (step : S → A → Result S ℕ) (start : S) (items : List A) (i : ℕ)
    (s t : S) (d : A) → i < length items
    → run step start (take i items) ≡ Ok s → step s (get_or items i d) ≡ Ok t
    → run step start (take (i + 1) items) ≡ Ok t
run_more step start items i s t d within is goes =
    run_through step start items i s d within is ∙ goes

-- what goes on to an Ok was an Ok
pub go_on_ok : {S T P : Type 0} (go : S → Result T ℕ) (o : Result S ℕ) (t : T) → go_on go o ≡ Ok t
    → ((s : S) → o ≡ Ok s → go s ≡ Ok t → P) → P
go_on_ok go (Ok s) t is next = next s refl is
go_on_ok go (Err m) t is next = absurd (cc)

-- what each item has, each item of either list has, and the other way round
pub each-append : {A : Type 0} (P : A → Type 0) (xs ys : List A) → Each P xs → Each P ys
    → Each P (xs ++ ys)
each-append P [] ys first second = second
each-append P (x ∷ xs) ys first second = (first.0, each-append P xs ys first.1 second)

-- what follows of each item
pub each-map : {A : Type 0} (P Q : A → Type 0) → ((a : A) → P a → Q a) → (xs : List A) → Each P xs
    → Each Q xs
each-map P Q then [] each = tt
each-map P Q then (x ∷ xs) each = (then x each.0, each-map P Q then xs each.1)

-- a property of every item is one of each item of a list
pub each_of_all : {A : Type 0} (P : A → Type 0) → ((a : A) → P a) → (xs : List A) → Each P xs
each_of_all P all [] = tt
each_of_all P all (x ∷ xs) = (all x, each_of_all P all xs)
