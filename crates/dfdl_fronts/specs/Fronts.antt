-- The place at which a text is refused, over any language: `Text` says which lists of items are its texts.
use Rattle.std.specs.Prelude.{ℕ, List, length, take, ◌++◌, ◌+◌, ◌<◌, ◌≤◌}

-- some text of the language begins with these items
abbrev pub IsFront : {A : Type 0} → (List A → Type 0) → List A → Type 0
IsFront {A} Text items = (rest : List A) × Text (items ++ rest)

-- the items are no text, those before the place can still become one, and with the item at the place they cannot;
-- the place is the number of items where they end inside a text
pub record IsPlace {A : Type 0} (Text : List A → Type 0) (items : List A) (at : ℕ) : Type 0 where
  pub within : at ≤ length items
  pub before : IsFront Text (take at items)
  pub stops : at < length items → IsFront Text (take (at + 1) items) → ⊥
  pub no_text : Text items → ⊥
