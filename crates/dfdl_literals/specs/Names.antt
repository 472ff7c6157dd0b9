-- The names of entities and classes, and what each stands for.
use Rattle.std.specs.Prelude.{ℕ, List, [], ◌∷◌, Option, Some, None, Bool, true, false, if◌then◌else◌}
use Rattle.std.specs.List.{starts_with}
use Rattle.std.specs.Cmp.Lexicographic.{pointwise}
use Rattle.std.proofs.Common.{eqb}
use Rattle.dfdl_forms.specs.declared.literals.Piece.{Piece}
use Rattle.dfdl_literals.specs.declared.names.Row.{Row}
use Rattle.dfdl_forms.specs.declared.literals.Piece.TheVariants.{Char, NewLine, Space, Spaces, MaybeSpaces}

-- a name and what it stands for
pub record Entry : Type 0 where
  pub name : List ℕ
  pub piece : Piece

abbrev pub entry : List ℕ → Piece → Entry
entry name piece = record { name = name; piece = piece }

-- a row of the program's table as an entry
abbrev pub row_of : Row → Entry
row_of r = record { name = r.name.now; piece = r.piece }

-- what a name stands for
abbrev pub named_in : List Entry → List ℕ → Option Piece
named_in [] name = None
named_in (e ∷ entries) name =
    if pointwise eqb e.name name then Some e.piece else named_in entries name

-- some name begins with these characters
abbrev pub begins_in : List Entry → List ℕ → Bool
begins_in [] front = false
begins_in (e ∷ entries) front =
    if starts_with eqb e.name front then true else begins_in entries front

-- the characters' names, in the order of their code points, and then the classes but for the empty
-- one
unfoldable pub names : List Entry
names =
    entry (78 ∷ 85 ∷ 76 ∷ []) (Char 0) ∷
    entry (83 ∷ 79 ∷ 72 ∷ []) (Char 1) ∷
    entry (83 ∷ 84 ∷ 88 ∷ []) (Char 2) ∷
    entry (69 ∷ 84 ∷ 88 ∷ []) (Char 3) ∷
    entry (69 ∷ 79 ∷ 84 ∷ []) (Char 4) ∷
    entry (69 ∷ 78 ∷ 81 ∷ []) (Char 5) ∷
    entry (65 ∷ 67 ∷ 75 ∷ []) (Char 6) ∷
    entry (66 ∷ 69 ∷ 76 ∷ []) (Char 7) ∷
    entry (66 ∷ 83 ∷ []) (Char 8) ∷
    entry (72 ∷ 84 ∷ []) (Char 9) ∷
    entry (76 ∷ 70 ∷ []) (Char 10) ∷
    entry (86 ∷ 84 ∷ []) (Char 11) ∷
    entry (70 ∷ 70 ∷ []) (Char 12) ∷
    entry (67 ∷ 82 ∷ []) (Char 13) ∷
    entry (83 ∷ 79 ∷ []) (Char 14) ∷
    entry (83 ∷ 73 ∷ []) (Char 15) ∷
    entry (68 ∷ 76 ∷ 69 ∷ []) (Char 16) ∷
    entry (68 ∷ 67 ∷ 49 ∷ []) (Char 17) ∷
    entry (68 ∷ 67 ∷ 50 ∷ []) (Char 18) ∷
    entry (68 ∷ 67 ∷ 51 ∷ []) (Char 19) ∷
    entry (68 ∷ 67 ∷ 52 ∷ []) (Char 20) ∷
    entry (78 ∷ 65 ∷ 75 ∷ []) (Char 21) ∷
    entry (83 ∷ 89 ∷ 78 ∷ []) (Char 22) ∷
    entry (69 ∷ 84 ∷ 66 ∷ []) (Char 23) ∷
    entry (67 ∷ 65 ∷ 78 ∷ []) (Char 24) ∷
    entry (69 ∷ 77 ∷ []) (Char 25) ∷
    entry (83 ∷ 85 ∷ 66 ∷ []) (Char 26) ∷
    entry (69 ∷ 83 ∷ 67 ∷ []) (Char 27) ∷
    entry (70 ∷ 83 ∷ []) (Char 28) ∷
    entry (71 ∷ 83 ∷ []) (Char 29) ∷
    entry (82 ∷ 83 ∷ []) (Char 30) ∷
    entry (85 ∷ 83 ∷ []) (Char 31) ∷
    entry (83 ∷ 80 ∷ []) (Char 32) ∷
    entry (68 ∷ 69 ∷ 76 ∷ []) (Char 127) ∷
    entry (78 ∷ 69 ∷ 76 ∷ []) (Char 133) ∷
    entry (78 ∷ 66 ∷ 83 ∷ 80 ∷ []) (Char 160) ∷
    entry (76 ∷ 83 ∷ []) (Char 8232) ∷
    entry (78 ∷ 76 ∷ []) NewLine ∷
    entry (87 ∷ 83 ∷ 80 ∷ []) Space ∷
    entry (87 ∷ 83 ∷ 80 ∷ 43 ∷ []) Spaces ∷
    entry (87 ∷ 83 ∷ 80 ∷ 42 ∷ []) MaybeSpaces ∷
    []

-- what a name of the table stands for
unfoldable pub named : List ℕ → Option Piece
named name = named_in names name

-- some name of the table begins with these characters
unfoldable pub begins_name : List ℕ → Bool
begins_name front = begins_in names front

-- the name of the class that is alone in its literal, ES
abbrev pub is_empty_name : List ℕ → Bool
is_empty_name name = pointwise eqb name (69 ∷ 83 ∷ [])
