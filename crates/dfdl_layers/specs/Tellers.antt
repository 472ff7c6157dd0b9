-- Machines that read a text item by item and tell, at an item that they refuse, which rule it
-- breaks.
use Rattle.std.specs.Prelude.{◌≡◌, ℕ, ◌≤◌, List, [], ◌∷◌, Bool, true, Result, Ok, Err}

-- the property holds of each item
abbrev pub Each : {A : Type 0} → (A → Type 0) → List A → Type 0
Each P [] = Unit {0}
Each P (a ∷ items) = P a × Each P items

-- the state goes on to this answer: a state, or the rule that is broken
abbrev pub go_on : {S T : Type 0} → (S → Result T ℕ) → Result S ℕ → Result T ℕ
go_on go (Ok s) = go s
go_on go (Err m) = Err m

-- the state after all of the items, or the rule that the first refused one breaks
abbrev pub run : {S A : Type 0} → (S → A → Result S ℕ) → S → List A → Result S ℕ
run step s [] = Ok s
run step s (a ∷ items) = go_on (λ t. run step t items) (step s a)

-- no rule below this one is told
abbrev pub Keeps : {S : Type 0} → ℕ → Result S ℕ → Type 0
Keeps n (Ok s) = Unit {0}
Keeps n (Err m) = n ≤ m

-- the machine reads the language whose texts keep the rules below `all`, told by what may still
-- come: `Rest n s` are the items that may follow at the state in a text that keeps the rules below
-- n; `Good` are the items that it is given, and `Sound` the states that it comes to
pub record IsTeller {S A : Type 0} (step : S → A → Result S ℕ) (start : S) (accepts : S → Bool)
    (all : ℕ)
    (Good : A → Type 0) (Sound : S → Type 0) (Rest : ℕ → S → List A → Type 0) : Type 0 where
  -- it starts soundly, and each step keeps that
  pub begins : Sound start
  pub goes : (s t : S) (a : A) → Sound s → step s a ≡ Ok t → Sound t
  -- what may follow a step may follow its item before the step
  pub back : (n : ℕ) (s t : S) (a : A) (items : List A) → Sound s → step s a ≡ Ok t → Rest n t items
      → Rest n s (a ∷ items)
  -- nothing may follow where the machine accepts
  pub done : (s : S) → Sound s → accepts s ≡ true → Rest all s []
  -- some good items may follow at each state
  pub live : (s : S) → Sound s → (more : List A) × Each Good more × Rest all s more
  -- an item that is refused may stand there as far as the rules below the one told go
  pub tells : (s : S) (a : A) (m : ℕ) → Sound s → Good a → step s a ≡ Err m
      → (more : List A) × Each Good more × Rest m s (a ∷ more)
  -- of a text that keeps the rules below n no rule below n is told
  pub keeps : (n : ℕ) (text : List A) → Rest n start text → Keeps n (run step start text)
  -- each text is run through and accepted
  pub full : (text : List A) → Rest all start text
      → (t : S) × (run step start text ≡ Ok t) × (accepts t ≡ true)
