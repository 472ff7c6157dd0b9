-- Registers of lists: how their literals lie there, and which lists a register holds.
use Rattle.std.specs.Prelude.{◌≡◌, ℕ, ◌+◌, ◌^◌, ◌<◌, List, [], ◌∷◌, ◌++◌, length, take, nat_lt, Option, Some, None, Bool, false, ◌⊎◌, if◌then◌else◌}
use Rattle.dfdl_forms.specs.declared.encoding.Encoding.{Encoding}
use Rattle.dfdl_forms.specs.declared.literals.Piece.{Piece}
use Rattle.dfdl_forms.specs.declared.literals.Piece.TheVariants.{Nothing}
use Rattle.dfdl_delims.specs.declared.left.Left.TheVariants.{Done}
use Rattle.dfdl_delims.specs.declared.candidate.Candidate.{Candidate}
use Rattle.dfdl_delims.specs.declared.mark.Mark.{Mark}
use Rattle.dfdl_delims.specs.declared.firsts.Firsts.{Firsts}
use Rattle.dfdl_delims.specs.Candidates.{have_texts}
use Rattle.dfdl_delims.specs.Firsts.{AreFirsts}
use Rattle.dfdl_delims.specs.Lists.{Opened}

-- what stands before each list, the begin of each literal that has a text, and the pieces of all literals
pub record Flat : Type 0 where
  pub marks : List Mark
  pub starts : List Candidate
  pub pieces : List Piece

-- no list
abbrev pub no_lists : Flat
no_lists = record { marks = []; starts = []; pieces = [] }

-- the pieces of a literal; one of no pieces stands for nothing
abbrev pub filled : List Piece → List Piece
filled [] = Nothing ∷ []
filled (piece ∷ pieces) = piece ∷ pieces

-- the pieces of literals
abbrev pub pieces_of : List (List Piece) → List Piece
pieces_of [] = []
pieces_of (literal ∷ literals) = filled literal ++ pieces_of literals

-- how many pieces literals take up
abbrev pub units_of : List (List Piece) → ℕ
units_of [] = 0
units_of (literal ∷ literals) = length (filled literal) + units_of literals

-- so many pieces and those that literals take up, if a register can have room for so many
abbrev pub with_units : ℕ → List (List Piece) → Option ℕ
with_units before literals = if nat_lt (before + units_of literals) (2 ^ 32) then Some (before + units_of literals) else None

-- how many pieces the literals of lists take up
abbrev pub units_in : List Opened → ℕ
units_in [] = 0
units_in (list ∷ lists) = units_of list.literals + units_in lists

-- the items begin with these
abbrev pub BeginsWith : {X : Type 0} → List X → List X → Type 0
BeginsWith first all = take (length first) all ≡ first

-- the begin of a literal of the list at the place, whose pieces stand from one place to another
abbrev pub begin_of : ℕ → Encoding → Bool → ℕ → ℕ → Candidate
begin_of place encoding fold at end = record {
  list = place;
  encoding = encoding;
  fold = fold;
  left = Done;
  loops = false;
  at = at;
  end = end;
}

-- the begin of a literal whose pieces stand from a place on, if it has a text
unfoldable pub start_of : ℕ → Encoding → Bool → ℕ → List Piece → List Candidate
start_of place encoding fold at literal =
    if have_texts encoding fold literal then begin_of place encoding fold at (at + length (filled literal)) ∷ [] else []

-- the begins of literals one after the other
unfoldable pub starts_of : ℕ → Encoding → Bool → ℕ → List (List Piece) → List Candidate
starts_of place encoding fold at [] = []
starts_of place encoding fold at (literal ∷ literals) =
    start_of place encoding fold at literal ++ starts_of place encoding fold (at + length (filled literal)) literals

-- with one list more
abbrev pub with_list : Flat → Opened → Flat
with_list flat list = record {
  marks = flat.marks ++ record { starts = length flat.starts; pieces = length flat.pieces } ∷ [];
  starts = flat.starts ++ starts_of (length flat.marks) list.encoding list.fold (length flat.pieces) list.literals;
  pieces = flat.pieces ++ pieces_of list.literals;
}

-- with more lists, one after the other
unfoldable pub with_lists : Flat → List Opened → Flat
with_lists flat [] = flat
with_lists flat (list ∷ lists) = with_lists (with_list flat list) lists

-- what a register has, what it keeps of the first bytes of each list's texts, and how many lists and how many pieces it has room for
pub record Register : Type 0 where
  pub flat : Flat
  pub firsts : List Firsts
  pub lists : ℕ
  pub units : ℕ

-- the register holds these lists, in the order of their numbers, and what it keeps of the first bytes of their texts is so
pub record Holds (register : Register) (lists : List Opened) : Type 0 where
  pub flat : register.flat ≡ with_lists no_lists lists
  pub firsts : AreFirsts lists register.firsts

-- a list of these literals has no room in the register
abbrev pub IsFull : Register → List (List Piece) → Type 0
IsFull register literals = (register.lists < length register.flat.marks + 1) ⊎ (register.units < length register.flat.pieces + units_of literals)
