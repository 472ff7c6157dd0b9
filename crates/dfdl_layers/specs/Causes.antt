-- Why a text is refused. The rules have numbers, and `Text n` says which lists of items keep the
-- rules below n; so each rule leaves fewer texts, and a text of the language keeps all of them.
use Rattle.std.specs.Prelude.{◌≡◌, ℕ, ◌+◌, ◌<◌, ◌≤◌, List, length, take}
use Rattle.dfdl_fronts.specs.Fronts.{IsFront, IsPlace}

-- some text that keeps the rules below this one begins with these items, and none that keeps this
-- one as well
pub record IsBroken {A : Type 0} (Text : ℕ → List A → Type 0) (front : List A)
    (rule : ℕ) : Type 0 where
  pub kept : IsFront (Text rule) front
  pub broken : IsFront (Text (rule + 1)) front → ⊥

-- the items are no text that keeps the rules below `all`: at the place none can go on, and the rule
-- is the one that the items up to and with the one there break; where the items end inside a text,
-- it is `all` itself
pub record IsRefused {A : Type 0} (Text : ℕ → List A → Type 0) (all : ℕ) (items : List A)
    (at rule : ℕ) : Type 0 where
  pub place : IsPlace (Text all) items at
  pub breaks : at < length items → IsBroken Text (take (at + 1) items) rule
  pub ends : at ≡ length items → rule ≡ all

-- the more rules, the fewer texts
abbrev pub LeavesFewer : {A : Type 0} → (ℕ → List A → Type 0) → Type 0
LeavesFewer {A} Text = (n m : ℕ) (text : List A) → n ≤ m → Text m text → Text n text
