-- Mirror for the prover: how a list of texts is read.
use Rattle.std.specs.Prelude.{ℕ, List, [], ◌∷◌, map, Option, Some, None, false, if◌then◌else◌}
use Rattle.std.specs.List.{list_all}
use Rattle.dfdl_machines.specs.Machines.{run}
use Rattle.dfdl_forms.specs.declared.literals.Piece.{Piece}
use Rattle.dfdl_forms.specs.declared.literals.Piece.TheVariants.{Char, Byte, NewLine, Space, Spaces, MaybeSpaces, Nothing}
use Rattle.dfdl_literals.specs.Lists.{closed, is_character}
use Rattle.dfdl_literals.specs.Steps.{State, accepts, start, step}
use Rattle.dfdl_literals.specs.declared.text_lists.TextList.{TextList}
use Rattle.dfdl_literals.specs.declared.text_lists.TextList.TheVariants.{Texts, Malformed, Other}

-- the character that a piece is; any, where it is none
abbrev pub character_of : Piece → ℕ
character_of (Char c) = c
character_of (Byte b) = 0
character_of NewLine = 0
character_of Space = 0
character_of Spaces = 0
character_of MaybeSpaces = 0
character_of Nothing = 0

-- what literals are
abbrev pub texts_of : List (List Piece) → TextList
texts_of [] = Other
texts_of (literal ∷ literals) =
    if list_all (list_all is_character) (literal ∷ literals)
    then Texts (map (map character_of) (literal ∷ literals))
    else Other

-- what the literals read are, if the list may end behind them
abbrev pub texts_whole : Option State → TextList
texts_whole None = Malformed
texts_whole (Some s) = if accepts s then texts_of (closed s.ended s.open_pieces) else Malformed

-- what a text is read as
abbrev pub texts_reading : List ℕ → TextList
texts_reading text = texts_whole (run (step false) start text)
