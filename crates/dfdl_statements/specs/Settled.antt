-- What the statements of a schema come to: each is made where it stands, or one of them is refused. One that no row has is never refused.
-- A refusal of another kind may be given with its row: it has its place among theirs, and then no statements are made.
use Rattle.std.specs.Prelude.{ℕ, zero, suc, ◌-◌, List, [], ◌∷◌, ◌++◌, length, replicate, ◌==◌, Bool, nat_lt, if◌then◌else◌, Option, Some, None, option_map, Result, Ok, Err, slice_get, slice_index_or, slice_set}
use Rattle.dfdl_expression_tree.specs.Trees.{Formula}
use Rattle.dfdl_expression_types.specs.declared.statics.Place.{Place}
use Rattle.dfdl_report.specs.Causes.{schema_number}
use Rattle.dfdl_report.specs.declared.cause.SchemaCause.{SchemaCause}
use Rattle.dfdl_terms.specs.declared.row.Row.{Row}
use Rattle.dfdl_terms.specs.declared.statement.Statement.{Statement}
use Rattle.dfdl_statements.specs.declared.fault.GivenRefusal.{GivenRefusal}
use Rattle.dfdl_statements.specs.declared.fault.Refusal.{Refusal}
use Rattle.dfdl_statements.specs.declared.sight.Sight.{Sight}
use Rattle.dfdl_statements.specs.declared.standing.Standing.{Standing}
use Rattle.dfdl_statements.specs.declared.written.Written.{Written}
use Rattle.dfdl_terms.specs.declared.slots.Slot.{Slot}
use Rattle.dfdl_statements.specs.Children.{children_in, counted_in, slots_in}
use Rattle.dfdl_statements.specs.Elements.{arounds, or_else}
use Rattle.dfdl_statements.specs.Making.{made, unused}
use Rattle.dfdl_statements.specs.MakingShown.{cause_in}
use Rattle.dfdl_statements.specs.Sights.{statics_of}
use Rattle.dfdl_statements.specs.Standing.{slot_asked, slots_asked, standings}

abbrev pub refused_at : Written → SchemaCause → Refusal
refused_at written cause = record { cause = cause; place = written.place }

abbrev pub is_lower : Refusal → Refusal → Bool
is_lower a b = nat_lt (schema_number a.cause) (schema_number b.cause)

-- of two refusals that with the lower number, and of one number the first
abbrev pub lower : Option Refusal → Option Refusal → Option Refusal
lower None b = b
lower (Some a) None = Some a
lower (Some a) (Some b) = if is_lower b a then Some b else Some a

-- a refusal that is given, where it is of this row
abbrev pub given_at : Option GivenRefusal → ℕ → Option Refusal
given_at None row = None
given_at (Some given) row = if given.row == row then Some given.refusal else None

-- the same, where there may be no row
abbrev pub given_in : Option GivenRefusal → Option ℕ → Option Refusal
given_in given None = None
given_in given (Some row) = given_at given row

-- the refusal that is found of what is asked for a row, where one is, or the one that is given of that row, where its number is lower
abbrev pub beside : Option Refusal → Option Refusal → Option Refusal
beside given None = None
beside given (Some found) = lower given (Some found)

-- the refusal that is given, wherever it is
abbrev pub given_of : Option GivenRefusal → Option Refusal
given_of None = None
given_of (Some given) = Some given.refusal

-- the first of the refusals of some rows
abbrev pub first_told : List (Option Refusal) → List ℕ → Option Refusal
first_told table [] = None
first_told table (row ∷ rows) = or_else (slice_index_or table row None) (first_told table rows)

-- each statement stands there
abbrev pub noted : List Standing → List (Option Place) → List (Option Place)
noted [] places = places
noted (s ∷ others) places = noted others (slice_set places s.statement (Some s.place))

module _ (rows : List Row) (written : List Written) where
  -- where each statement stands by the first so many rows, the last of its places
  abbrev pub places_by : ℕ → List (Option Place)
  places_by zero = replicate (length written) None
  places_by (suc n) = noted (slots_asked rows written (arounds rows) n) (noted (standings rows written (arounds rows) n) (places_by n))

  -- where each statement stands; of several places it is the last, since these differ in what may be refused alone
  abbrev pub places : List (Option Place)
  places = places_by (length rows)

  abbrev pub place_of : ℕ → Option Place
  place_of number = slice_index_or places number None

-- a statement, or why it is refused, and the others behind it
abbrev pub joined : Written → Result Statement SchemaCause → Result (List Statement) Refusal → Result (List Statement) Refusal
joined w (Err cause) others = Err (refused_at w cause)
joined w (Ok s) (Ok others) = Ok (s ∷ others)
joined w (Ok s) (Err why) = Err why

module _ (read : List ℕ → Option Formula) (sight : Sight) where
  -- what is made of a statement at a place
  abbrev pub made_at : Written → Place → Result Statement SchemaCause
  made_at written place = made read (statics_of sight written place) written.source

  -- what is made of a statement that may stand somewhere
  abbrev pub made_where : Written → Option Place → Result Statement SchemaCause
  made_where written None = Ok (unused written.source)
  made_where written (Some place) = made_at written place

  abbrev pub refusal_by : Option Written → Place → Option Refusal
  refusal_by None place = None
  refusal_by (Some written) place = option_map (λ cause. refused_at written cause) (cause_in (made_at written place))

module _ (read : List ℕ → Option Formula) (sight : Sight) (written : List Written) where
  -- why a statement is refused where it stands, if it is
  abbrev pub refusal_of : Standing → Option Refusal
  refusal_of s = refusal_by read sight (slice_get written s.statement) s.place

  -- of a refusal and those of some statements that with the lowest number
  abbrev pub lowest : Option Refusal → List Standing → Option Refusal
  lowest found [] = found
  lowest found (s ∷ others) = lowest (lower found (refusal_of s)) others

module _ (read : List ℕ → Option Formula) (sight : Sight) (rows : List Row) (written : List Written) (given : Option GivenRefusal) where
  -- the refusal of what a slot of a row asks for
  abbrev pub slot_refusal : ℕ → Slot → Option Refusal
  slot_refusal row slot = beside (given_at given slot.body) (lowest read sight written None (slot_asked rows written (arounds rows) row slot))

  -- the first refusal of what slots of a row ask for, or of what is in them
  abbrev pub first_asked : ℕ → List (Option Refusal) → List Slot → Option Refusal
  first_asked row table [] = None
  first_asked row table (slot ∷ slots) =
      or_else (slot_refusal row slot) (or_else (slice_index_or table slot.body None) (first_asked row table slots))

  -- the refusal of the statements of a row, or of the row, where one is given of it
  abbrev pub own_refusal : ℕ → Option Refusal
  own_refusal row =
      beside (given_in given (counted_in (slice_get rows row)))
      (lowest read sight written (given_at given row) (standings rows written (arounds rows) row))

  -- the refusal of a row, or of what is inside of it, by those of the rows before it
  abbrev pub row_refusal : ℕ → List (Option Refusal) → Option Refusal
  row_refusal row table =
      or_else (own_refusal row) (or_else (first_asked row table (slots_in (slice_get rows row))) (first_told table (children_in (slice_get rows row))))

  -- those of each of the first so many rows
  abbrev pub refusals : ℕ → List (Option Refusal)
  refusals zero = []
  refusals (suc n) = refusals n ++ row_refusal n (refusals n) ∷ []

  -- that of the last row, in which all others are, and else the one that is given
  abbrev pub refusal : Option Refusal
  refusal = or_else (slice_index_or (refusals (length rows)) (length rows - 1) None) (given_of given)

module _ (read : List ℕ → Option Formula) (sight : Sight) (rows : List Row) (written : List Written) where
  -- the statements from a number on
  abbrev pub made_from : ℕ → List Written → Result (List Statement) Refusal
  made_from number [] = Ok []
  made_from number (w ∷ ws) = joined w (made_where read sight w (place_of rows written number)) (made_from (suc number) ws)

  abbrev pub settled_by : Option Refusal → Result (List Statement) Refusal
  settled_by (Some why) = Err why
  settled_by None = made_from 0 written

  -- the statements of rows, or the first refusal of one, or that which is given
  abbrev pub settled : Option GivenRefusal → Result (List Statement) Refusal
  settled given = settled_by (refusal read sight rows written given)
