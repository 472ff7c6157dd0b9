-- What is kept of the first bytes of the texts of lists.
use Rattle.std.specs.Prelude.{◌≡◌, ℕ, ◌<◌, List, [], ◌∷◌, Bool, true, false}
use Rattle.dfdl_bits.specs.ByteSets.{has_byte}
use Rattle.dfdl_delims.specs.declared.firsts.Firsts.{Firsts}
use Rattle.dfdl_delims.specs.Lists.{Opened, is_text_at, is_text_in}

-- a text that has a byte
pub record HasByte (is_text : List ℕ → Bool) : Type 0 where
  pub next : ℕ
  pub more : List ℕ
  pub is : is_text (next ∷ more) ≡ true

-- What is kept is so of these texts: whether no byte is one, whether one has a byte, which bytes alone are one, and with which bytes
-- at most longer ones begin.
pub record Tells (firsts : Firsts) (is_text : List ℕ → Bool) : Type 0 where
  pub empty : firsts.empty ≡ is_text []
  pub some : firsts.some ≡ true → HasByte is_text
  pub none : firsts.some ≡ false → (byte : ℕ) (rest : List ℕ) → is_text (byte ∷ rest) ≡ false
  pub ones : (byte : ℕ) → byte < 256 → has_byte firsts.ones byte ≡ is_text (byte ∷ [])
  pub more : (byte : ℕ) → byte < 256 → has_byte firsts.more byte ≡ false → (next : ℕ) (rest : List ℕ) → is_text (byte ∷ next ∷ rest) ≡ false

-- what is kept is so of the texts of list after list
abbrev pub AreFirsts : List Opened → List Firsts → Type 0
AreFirsts [] [] = Unit {0}
AreFirsts [] (firsts ∷ rest) = ⊥
AreFirsts (list ∷ lists) [] = ⊥
AreFirsts (list ∷ lists) (firsts ∷ rest) = Tells firsts (is_text_in list) × AreFirsts lists rest

-- no text of the lists begins with the byte
abbrev pub BeginsNone : List Opened → ℕ → Type 0
BeginsNone lists byte = (place : ℕ) (rest : List ℕ) → is_text_at lists place (byte ∷ rest) ≡ false
