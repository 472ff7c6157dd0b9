-- What the text of a pad character stands for.
use Rattle.std.specs.Prelude.{◌≡◌, ℕ, List, [], ◌∷◌, true, false}
use Rattle.std.specs.List.{list_any}
use Rattle.dfdl_literals.specs.Lists.{IsList, Reads, is_divider}
use Rattle.dfdl_forms.specs.declared.literals.Piece.TheVariants.{Char}
use Rattle.dfdl_literals.specs.declared.pad.PadCharacter.{PadCharacter}
use Rattle.dfdl_literals.specs.declared.pad.PadCharacter.TheVariants.{Character, Malformed, Other}

-- the characters write one literal, of the character c alone, without white space around it
abbrev pub IsCharacter : List ℕ → ℕ → Type 0
IsCharacter text c = Reads true ((Char c ∷ []) ∷ []) text × (list_any is_divider text ≡ false)

-- one character, no list of literals, or a list of others
abbrev pub StandsFor : List ℕ → PadCharacter → Type 0
StandsFor text (Character c) = IsCharacter text c
StandsFor text Malformed = IsList true text → ⊥
StandsFor text Other = IsList true text × ((c : ℕ) → IsCharacter text c → ⊥)
