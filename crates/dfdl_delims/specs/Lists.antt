-- Lists of literals that are open, and which bytes are texts of them. 'DFDL Syntax Basics' (DFDL String Literals).
use Rattle.std.specs.Prelude.{◌≡◌, ◌↔◌, ℕ, zero, suc, List, [], ◌∷◌, ◌++◌, length, Option, Some, None, Bool, true, false, if◌then◌else◌}
use Rattle.dfdl_forms.specs.declared.encoding.Encoding.{Encoding}
use Rattle.dfdl_forms.specs.declared.literals.Piece.{Piece}
use Rattle.dfdl_literal_texts.specs.Texts.{is_text_of_some}

-- a list of literals, the encoding of their texts, and whether an ASCII letter is its other case too
pub record Opened : Type 0 where
  pub encoding : Encoding
  pub fold : Bool
  pub literals : List (List Piece)

-- the bytes are a text of the list
abbrev pub is_text_in : Opened → List ℕ → Bool
is_text_in list bytes = is_text_of_some list.encoding list.fold list.literals bytes

-- the bytes are a text of the list at the place
unfoldable pub is_text_at : List Opened → ℕ → List ℕ → Bool
is_text_at [] place bytes = false
is_text_at (list ∷ lists) zero bytes = is_text_in list bytes
is_text_at (list ∷ lists) (suc place) bytes = is_text_at lists place bytes

-- A text of some list is longer than the bytes and begins with them.
pub record GoesOn (lists : List Opened) (bytes : List ℕ) : Type 0 where
  pub place : ℕ
  pub next : ℕ
  pub more : List ℕ
  pub is : is_text_at lists place (bytes ++ next ∷ more) ≡ true

-- the test tells of which bytes some text is longer
abbrev pub Decides : List Opened → (List ℕ → Bool) → Type 0
Decides lists test = (bytes : List ℕ) → (test bytes ≡ true) ↔ GoesOn lists bytes

-- the greatest number below n that passes
abbrev pub last_below : (ℕ → Bool) → ℕ → Option ℕ
last_below passes zero = None
last_below passes (suc n) = if passes n then Some n else last_below passes n

-- the place of the innermost list that has the text
abbrev pub innermost : List Opened → List ℕ → Option ℕ
innermost lists bytes = last_below (λ place. is_text_at lists place bytes) (length lists)
