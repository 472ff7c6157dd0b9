-- What follows where a machine reads a language, told by what has been read.
use Rattle.std.proofs.Common.{◌≡◌, ℕ, ◌+◌, ◌<◌, List, [], ◌∷◌, ◌++◌, length, take, get_or, Option, Some, None, Bool, true, false, sym, ap, subst, ◌∙◌, append_assoc}
use Rattle.std.specs.Option.{option_and_then}
use Rattle.std.proofs.lemmas.List.{append-nil}
use Rattle.std.proofs.lemmas.Option.{option_and_then_some}
use Rattle.dfdl_fronts.specs.Fronts.{IsFront, IsPlace}
use Rattle.dfdl_machines.specs.Machines.{run, IsReader}
use Rattle.dfdl_machines.proofs.Runs.{run-append, run_through, place_where, place_behind}

reaches_from : {S A : Type 0} (step : S → A → Option S) (start : S) (accepts : S → Bool) (Reached : S → List A → Type 0) (Text : List A → Type 0)
    → IsReader step start accepts Reached Text → (more front : List A) (s t : S) → Reached s front → run step s more ≡ Some t → Reached t (front ++ more)
reaches_from step start accepts Reached Text reader [] front s t at is =
    let same : s ≡ t = cc in
    subst (λ l. Reached t l) (sym (append-nil front)) (subst (λ u. Reached u front) same at)
reaches_from step start accepts Reached Text reader (a ∷ more) front s t at is =
    option_and_then_some (λ u. run step u more) (step s a) t is
    (λ u goes rest. subst (λ l. Reached t l) (append_assoc front (a ∷ []) more)
    (reaches_from step start accepts Reached Text reader more (front ++ a ∷ []) u t (reader.goes s u a front at goes) rest))

-- what a run keeps of its text
pub reaches : {S A : Type 0} {step : S → A → Option S} {start : S} {accepts : S → Bool} {Reached : S → List A → Type 0} {Text : List A → Type 0}
    → IsReader step start accepts Reached Text → (items : List A) (s : S) → run step start items ≡ Some s → Reached s items
reaches {step} {start} {accepts} {Reached} {Text} reader items s is = reaches_from step start accepts Reached Text reader items [] start s reader.begins is

-- each list that is run through is a front
pub front : {S A : Type 0} {step : S → A → Option S} {start : S} {accepts : S → Bool} {Reached : S → List A → Type 0} {Text : List A → Type 0}
    → IsReader step start accepts Reached Text → (items : List A) (s : S) → run step start items ≡ Some s → IsFront Text items
front {step} {start} {accepts} {Reached} {Text} reader items s is =
    let rest = reader.live s items (reaches reader items s is) in (
      rest.0,
      reader.ends rest.1 (items ++ rest.0)
          (reaches reader (items ++ rest.0) rest.1 (run-append step items rest.0 start ∙ ap (λ o. option_and_then (λ u. run step u rest.0) o) is ∙ rest.2))
          rest.3,
    )

-- the place of an item that has no step
pub place_at : {S A : Type 0} {step : S → A → Option S} {start : S} {accepts : S → Bool} {Reached : S → List A → Type 0} {Text : List A → Type 0}
    → IsReader step start accepts Reached Text → (items : List A) (i : ℕ) (s : S) (d : A) → i < length items → run step start (take i items) ≡ Some s
    → step s (get_or items i d) ≡ None → IsPlace Text items i
place_at {step} {start} {accepts} {Reached} {Text} reader items i s d within is none =
    place_where step start accepts Text (λ text. reader.full text) items i s d within is none (front reader (take i items) s is)

-- the place where the items end inside a text
pub place_end : {S A : Type 0} {step : S → A → Option S} {start : S} {accepts : S → Bool} {Reached : S → List A → Type 0} {Text : List A → Type 0}
    → IsReader step start accepts Reached Text → (items : List A) (s : S) → run step start items ≡ Some s → accepts s ≡ false
    → IsPlace Text items (length items)
place_end {step} {start} {accepts} {Reached} {Text} reader items s is refuses =
    place_behind step start accepts Text (λ text. reader.full text) items s is refuses (front reader items s is)

-- the items are a text where the machine accepts behind them
pub text_end : {S A : Type 0} {step : S → A → Option S} {start : S} {accepts : S → Bool} {Reached : S → List A → Type 0} {Text : List A → Type 0}
    → IsReader step start accepts Reached Text → (items : List A) (s : S) → run step start items ≡ Some s → accepts s ≡ true → Text items
text_end reader items s is takes = reader.ends s items (reaches reader items s is) takes

-- one step more of a run over the items
pub run_more : {S A : Type 0} (step : S → A → Option S) (start : S) (items : List A) (i : ℕ) (s t : S) (d : A) → i < length items
    → run step start (take i items) ≡ Some s → step s (get_or items i d) ≡ Some t → run step start (take (i + 1) items) ≡ Some t
run_more step start items i s t d within is goes = run_through step start items i s d within is ∙ goes
