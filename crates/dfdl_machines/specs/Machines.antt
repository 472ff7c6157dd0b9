-- Machines that read a text item by item, and what they owe so that their runs say which texts a language has.
use Rattle.std.specs.Prelude.{◌≡◌, List, [], ◌∷◌, ◌++◌, Option, Some, Bool, true}
use Rattle.std.specs.Option.{option_and_then}

-- the state after all of the items, or None where some item has no step
abbrev pub run : {S A : Type 0} → (S → A → Option S) → S → List A → Option S
run step s [] = Some s
run step s (a ∷ items) = option_and_then (λ t. run step t items) (step s a)

-- the machine reads the language, told by what has been read: `Reached s text` says what the state keeps of the text
pub record IsReader {S A : Type 0} (step : S → A → Option S) (start : S) (accepts : S → Bool) (Reached : S → List A → Type 0)
    (Text : List A → Type 0) : Type 0 where
  -- nothing has been read at the start
  pub begins : Reached start []
  -- a step keeps what is said of the text
  pub goes : (s t : S) (a : A) (text : List A) → Reached s text → step s a ≡ Some t → Reached t (text ++ a ∷ [])
  -- what is accepted is a text
  pub ends : (s : S) (text : List A) → Reached s text → accepts s ≡ true → Text text
  -- from each state that is reached some items lead to one that accepts
  pub live : (s : S) (text : List A) → Reached s text → (more : List A) × (t : S) × (run step s more ≡ Some t) × (accepts t ≡ true)
  -- each text is run through and accepted
  pub full : (text : List A) → Text text → (t : S) × (run step start text ≡ Some t) × (accepts t ≡ true)
