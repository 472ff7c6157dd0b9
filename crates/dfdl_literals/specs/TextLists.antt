-- Which texts a list of literals stands for.
use Rattle.std.specs.Prelude.{◌≡◌, ℕ, ◌<◌, List, [], length, map, false, ◌⊎◌}
use Rattle.std.specs.List.{list_all}
use Rattle.dfdl_forms.specs.declared.literals.Piece.{Piece}
use Rattle.dfdl_forms.specs.declared.literals.Piece.TheVariants.{Char}
use Rattle.dfdl_literals.specs.Lists.{IsList, Reads, is_character}
use Rattle.dfdl_literals.specs.declared.text_lists.TextList.{TextList}
use Rattle.dfdl_literals.specs.declared.text_lists.TextList.TheVariants.{Texts, Malformed, Other}

-- the characters write literals of these texts, of which there is at least one
abbrev pub AreTexts : List ℕ → List (List ℕ) → Type 0
AreTexts text texts = Reads false (map (map Char) texts) text × (0 < length texts)

-- no literal, or one with a piece that is no character
abbrev pub AreOther : List (List Piece) → Type 0
AreOther list = (list ≡ []) ⊎ (list_all (list_all is_character) list ≡ false)

-- texts, no list of literals, or a list of others
abbrev pub StandsForTexts : List ℕ → TextList → Type 0
StandsForTexts text (Texts texts) = AreTexts text texts
StandsForTexts text Malformed = IsList false text → ⊥
StandsForTexts text Other = (list : List (List Piece)) × Reads false list text × AreOther list
