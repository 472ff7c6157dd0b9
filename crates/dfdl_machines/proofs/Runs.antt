-- Runs over lists that are put together, and the place of a fault from what a machine's runs say of its language.
use Rattle.std.proofs.Common.{◌≡◌, ℕ, ◌+◌, ◌<◌, List, [], ◌∷◌, ◌++◌, length, take, drop, get_or, Option, Some, None, Bool, true, false, refl, sym, ap, subst, ◌∙◌, arith}
use Rattle.std.specs.Option.{option_and_then}
use Rattle.std.proofs.lemmas.List.{take_more, take_all, take-append-drop}
use Rattle.dfdl_fronts.specs.Fronts.{IsFront, IsPlace}
use Rattle.dfdl_machines.specs.Machines.{run}

-- a run over two lists is the run over the second from where the first ends
pub run-append : {S A : Type 0} (step : S → A → Option S) (xs ys : List A) (s : S)
    → run step s (xs ++ ys) ≡ option_and_then (λ t. run step t ys) (run step s xs)
run-append step [] ys s = refl
run-append step (x ∷ xs) ys s =
    elim (step s x) as (λ o. option_and_then (λ t. run step t (xs ++ ys)) o ≡ option_and_then (λ t. run step t ys) (option_and_then (λ t. run step t xs) o)) [
      | None ↦ refl
      | Some t ↦ run-append step xs ys t
    ]

step_alone : {S : Type 0} (o : Option S) → option_and_then (λ t. Some t) o ≡ o
step_alone None = refl
step_alone (Some t) = refl

-- a run and one item more is the step from where the run ends
pub run_push : {S A : Type 0} (step : S → A → Option S) (xs : List A) (a : A) (s t : S) → run step s xs ≡ Some t → run step s (xs ++ a ∷ []) ≡ step t a
run_push step xs a s t is =
    run-append step xs (a ∷ []) s ∙ ap (λ o. option_and_then (λ u. run step u (a ∷ [])) o) is ∙ step_alone (step t a)

-- the run over the items up to and with the one at i
pub run_through : {S A : Type 0} (step : S → A → Option S) (start : S) (items : List A) (i : ℕ) (s : S) (d : A) → i < length items
    → run step start (take i items) ≡ Some s → run step start (take (i + 1) items) ≡ step s (get_or items i d)
run_through step start items i s d within is =
    ap (λ l. run step start l) (take_more items i d within) ∙ run_push step (take i items) (get_or items i d) start s is

-- one of the two that an Option cannot be at once
none_some : {S : Type 0} (t : S) → None ≡ Some t → ⊥
none_some t same = cc

-- a run that stops in a front accepts nothing that begins so
pub stuck : {S A : Type 0} (step : S → A → Option S) (start : S) (accepts : S → Bool) (Text : List A → Type 0)
    → ((text : List A) → Text text → (t : S) × (run step start text ≡ Some t) × (accepts t ≡ true))
    → (front : List A) → run step start front ≡ None → IsFront Text front → ⊥
stuck step start accepts Text full front is text =
    let found = full (front ++ text.0) text.1 in
    none_some found.0 (sym (run-append step front text.0 start ∙ ap (λ o. option_and_then (λ u. run step u text.0) o) is) ∙ found.1)

pub place_where : {S A : Type 0} (step : S → A → Option S) (start : S) (accepts : S → Bool) (Text : List A → Type 0)
    → ((text : List A) → Text text → (t : S) × (run step start text ≡ Some t) × (accepts t ≡ true))
    → (items : List A) (i : ℕ) (s : S) (d : A) → i < length items → run step start (take i items) ≡ Some s
    → step s (get_or items i d) ≡ None → IsFront Text (take i items) → IsPlace Text items i
place_where step start accepts Text full items i s d within is none front =
    let stops : IsFront Text (take (i + 1) items) → ⊥ =
    stuck step start accepts Text full (take (i + 1) items) (run_through step start items i s d within is ∙ none) in
    record {
      within = omega arith;
      before = front;
      stops = λ less. stops;
      no_text = λ text. stops (drop (i + 1) items, subst Text (sym (take-append-drop (i + 1) items)) text);
    }

not_both : {S A : Type 0} (step : S → A → Option S) (start : S) (accepts : S → Bool) (items : List A) (s t : S)
    → run step start items ≡ Some s → accepts s ≡ false → run step start items ≡ Some t → accepts t ≡ true → ⊥
not_both step start accepts items s t is refuses other takes = cc

pub place_behind : {S A : Type 0} (step : S → A → Option S) (start : S) (accepts : S → Bool) (Text : List A → Type 0)
    → ((text : List A) → Text text → (t : S) × (run step start text ≡ Some t) × (accepts t ≡ true))
    → (items : List A) (s : S) → run step start items ≡ Some s → accepts s ≡ false → IsFront Text items → IsPlace Text items (length items)
place_behind step start accepts Text full items s is refuses front =
    record {
      within = omega arith;
      before = subst (λ l. IsFront Text l) (sym (take_all (length items) items (omega arith))) front;
      stops = λ less. absurd (omega (arith, less));
      no_text = λ text. (let found = full items text in not_both step start accepts items s found.0 is refuses found.1 found.2);
    }
