-- Mirror for the prover: how a text is read where one literal of one piece is looked for, character by character.
use Rattle.std.specs.Prelude.{ℕ, List, [], ◌∷◌, ◌++◌, Option, Some, None, Bool, true, false, ◌&&◌, if◌then◌else◌}
use Rattle.std.specs.Option.{option_and_then}
use Rattle.dfdl_machines.specs.Machines.{run}
use Rattle.dfdl_literals.specs.Names.{begins_name}
use Rattle.dfdl_literals.specs.Steps.{act, accepts_mark}
use Rattle.dfdl_forms.specs.declared.literals.Piece.{Piece}
use Rattle.dfdl_literals.specs.declared.Ending.TheVariants.{Ordinary}
use Rattle.dfdl_literals.specs.declared.scan.Mark.{Mark}
use Rattle.dfdl_literals.specs.declared.scan.Mark.TheVariants.{Whole, Name}
use Rattle.dfdl_literals.specs.declared.scan.Act.{Act}
use Rattle.dfdl_literals.specs.declared.scan.Act.TheVariants.{Move, Add, Close, Letter}
use Rattle.dfdl_literals.specs.declared.single.Found.{Found}
use Rattle.dfdl_literals.specs.declared.single.Found.TheVariants.{Blank, One, More}

-- what has been read: what the literals come to, whether the open one has no piece, the letters of a
-- name, and where it stands
pub record SingleState : Type 0 where
  pub found : Found
  pub is_fresh : Bool
  pub name : List ℕ
  pub mark : Mark

-- nothing has been read
abbrev pub single_start : SingleState
single_start = record { found = Blank; is_fresh = true; name = []; mark = Whole Ordinary }

-- what literals come to with one piece more
abbrev pub found_more : Found → Piece → Found
found_more Blank piece = One piece
found_more (One first) piece = More
found_more More piece = More

-- what a list comes to by an act
abbrev pub single_acted : SingleState → Act → Option SingleState
single_acted s (Move mark) = Some (record s { mark = mark })
single_acted s (Add piece before) =
    Some (record {
      found = found_more s.found piece;
      is_fresh = false;
      name = [];
      mark = Whole before;
    })
single_acted s Close =
    Some (record {
      found = s.found;
      is_fresh = true;
      name = [];
      mark = Whole Ordinary;
    })
single_acted s (Letter c) =
    if begins_name (s.name ++ c ∷ [])
    then Some (record {
      found = s.found;
      is_fresh = s.is_fresh;
      name = s.name ++ c ∷ [];
      mark = Name;
    })
    else None

-- what a list comes to by a character, if it can go on by it
abbrev pub single_step : Bool → SingleState → ℕ → Option SingleState
single_step empty_allowed s c =
    option_and_then (single_acted s) (act (empty_allowed && s.is_fresh) s.name s.mark c)

-- what the literals come to, where the list may end
abbrev pub found_whole : SingleState → Option Found
found_whole s = if accepts_mark s.mark then Some s.found else None

-- what the literals of the characters come to, if they are a list
abbrev pub found_text : Bool → List ℕ → Option Found
found_text empty_allowed text = option_and_then found_whole (run (single_step empty_allowed) single_start text)
