-- A rule that only some items are allowed, before a machine.
use Rattle.std.specs.Prelude.{◌≡◌, ℕ, ◌<◌, List, Bool, true, if◌then◌else◌, Result, Err}
use Rattle.dfdl_layers.specs.Tellers.{Each}

-- the item is allowed by the test
abbrev pub Allowed : {A : Type 0} → (A → Bool) → A → Type 0
Allowed is_allowed a = is_allowed a ≡ true

-- the item is good, and allowed by the test
abbrev pub GoodAllowed : {A : Type 0} → (A → Bool) → (A → Type 0) → A → Type 0
GoodAllowed is_allowed Good a = Good a × Allowed is_allowed a

-- the machine's step at an item that is allowed, and the rule at any other
abbrev pub allowed_step : {S A : Type 0} → ℕ → (A → Bool) → (S → A → Result S ℕ) → S → A
    → Result S ℕ
allowed_step rule is_allowed step s a = if is_allowed a then step s a else Err rule

-- what may follow: past the rule allowed items alone, and what may follow at the machine's state
pub record RestOfAllowed {S A : Type 0} (rule : ℕ) (is_allowed : A → Bool)
    (Rest : ℕ → S → List A → Type 0) (n : ℕ) (s : S)
    (items : List A) : Type 0 where
  pub allowed : rule < n → Each (Allowed is_allowed) items
  pub rest : Rest n s items
