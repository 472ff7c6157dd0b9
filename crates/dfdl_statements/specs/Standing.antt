-- Where the statements of rows stand, and which of them are of one component. 'DFDL Schema Component Model'.
use Rattle.std.specs.Prelude.{ℕ, zero, suc, List, [], ◌∷◌, ◌++◌, length, Bool, ◌&&◌, is_some, if◌then◌else◌, Option, Some, None, slice_get, slice_index_or}
use Rattle.std.specs.List.{flat_map}
use Rattle.dfdl_expression_types.specs.declared.statics.Place.{Place}
use Rattle.dfdl_expression_types.specs.declared.statics.Place.TheVariants.{Above, At, Inside}
use Rattle.dfdl_terms.specs.declared.row.Row.{Row}
use Rattle.dfdl_terms.specs.declared.row.Row.TheVariants.{Elem, Concluded}
use Rattle.dfdl_statements.specs.declared.written.Asked.{Asked}
use Rattle.dfdl_statements.specs.declared.written.Asked.TheVariants.{Length, Count, Key}
use Rattle.dfdl_statements.specs.declared.written.Source.{Source}
use Rattle.dfdl_statements.specs.declared.written.Source.TheVariants as source
use Rattle.dfdl_statements.specs.declared.written.Written.{Written}
use Rattle.dfdl_statements.specs.declared.standing.Opening.{Opening}
use Rattle.dfdl_statements.specs.declared.standing.Standing.{Standing}
use Rattle.dfdl_statements.specs.declared.rows.Instance.{Instance}
use Rattle.dfdl_terms.specs.declared.slots.Slot.{Slot}
use Rattle.dfdl_statements.specs.Children.{group_in, instance_in, question_in, slots_in, statement_in}
use Rattle.dfdl_statements.specs.Elements.{turned}

abbrev pub standing_of : ℕ → Place → Standing
standing_of statement place = record { statement = statement; place = place }

-- so many statements from a number on, which stand at one place
abbrev pub standings_from : ℕ → ℕ → Place → List Standing
standings_from first zero place = []
standings_from first (suc count) place = standing_of first place ∷ standings_from (suc first) count place

-- at the element of a number; above all where there is none
abbrev pub at_element : Option ℕ → Place
at_element None = Above
at_element (Some element) = At element

-- at a group right inside of the element of a number
abbrev pub in_element : Option ℕ → Place
in_element None = Above
in_element (Some element) = Inside element

-- where a question stands: that of a length at the element that is so long, others inside of the element around
abbrev pub question_place : Asked → Option ℕ → Place
question_place Length around = at_element around
question_place Count around = in_element around
question_place Key around = in_element around

abbrev pub source_place : Source → Option ℕ → Place
source_place (source.Calculation kind text output) around = at_element around
source_place (source.Question asked text) around = question_place asked around
source_place (source.Pattern test) around = in_element around
source_place (source.Test text discriminates message) around = in_element around
source_place (source.Setting variable text) around = in_element around
source_place (source.Opening variable text) around = in_element around

-- Where a statement stands that is done by a row of its own, by the element around it: what calculates a value and what asks for a length at the
-- element, others inside of it.
abbrev pub row_place : Option Written → Option ℕ → Place
row_place None around = in_element around
row_place (Some one) around = source_place one.source around

-- the elements around rows
abbrev pub around_at : List (Option ℕ) → ℕ → Option ℕ
around_at arounds row = slice_index_or arounds row None

-- the statements behind an element, a sequence or a choice, where these stand, and the row that they are behind
abbrev pub opening_in : ℕ → List (Option ℕ) → ℕ → Option Row → Option Opening
opening_in count arounds row (Some (Elem name simple tried behind body)) =
    Some (record { behind = behind; place = At (turned count row); body = body })
opening_in count arounds row (Some (Concluded behind body)) =
    Some (record { behind = behind; place = in_element (around_at arounds row); body = body })
opening_in count arounds row _ = None

module _ (rows : List Row) (written : List Written) (arounds : List (Option ℕ)) where
  abbrev pub stated_by : ℕ → Option ℕ → List Standing
  stated_by row None = []
  stated_by row (Some statement) = standing_of statement (row_place (slice_get written statement) (around_at arounds row)) ∷ []

  -- the statement that a row is, or by which it asks for its length, if there is one
  abbrev pub stated : ℕ → List Standing
  stated row = stated_by row (statement_in (slice_get rows row))

  abbrev pub grouped_by : ℕ → Option (List ℕ) → List Standing
  grouped_by row None = stated row
  grouped_by row (Some children) = flat_map stated children

  -- those right inside of a group, and of any other row itself
  abbrev pub grouped : ℕ → List Standing
  grouped row = grouped_by row (group_in (slice_get rows row))

  abbrev pub begun_with : (ℕ → List Standing) → ℕ → Option Instance → List Standing
  begun_with inner row None = grouped row
  begun_with inner row (Some instance) =
      standing_of instance.statement (row_place (slice_get written instance.statement) (around_at arounds row)) ∷ inner instance.body

  -- those of instances of variables that a row opens, one inside of the other and so many at most, and of the group inside of them
  abbrev pub begun_by : ℕ → ℕ → List Standing
  begun_by zero row = []
  begun_by (suc most) row = begun_with (begun_by most) row (instance_in (slice_get rows row))

  abbrev pub begun : ℕ → List Standing
  begun row = begun_by (length rows) row

  -- a row is a statement, and another opens an instance
  abbrev pub opens_behind : ℕ → ℕ → Bool
  opens_behind first last = is_some (statement_in (slice_get rows first)) && is_some (instance_in (slice_get rows last))

  -- those of the instances that the last one of some rows opens, where the first of them is a test
  abbrev pub tested_by : List ℕ → List Standing
  tested_by [] = []
  tested_by (first ∷ others) =
      if opens_behind first (slice_index_or (first ∷ others) (length others) first) then begun (slice_index_or (first ∷ others) (length others) first) else []

  abbrev pub tested_in : Option (List ℕ) → List Standing
  tested_in None = []
  tested_in (Some children) = tested_by children

  -- those of the instances that are opened behind tests, right inside of a group
  abbrev pub tested : ℕ → List Standing
  tested row = tested_in (group_in (slice_get rows row))

  -- what a row asks for that is a choice, or that repeats an element
  abbrev pub asked : ℕ → List Standing
  asked row = stated_by row (question_in (slice_get rows row))

  abbrev pub standings_by : ℕ → Option Opening → List Standing
  standings_by row None = begun row ++ asked row
  standings_by row (Some o) = standings_from o.behind.first o.behind.count o.place ++ (begun o.body ++ tested o.body)

  -- The statements that a component begins with at a row: those behind an element, a sequence or a choice, and with them those that open
  -- instances and those of the group right inside. A count or a key is looked at by itself.
  abbrev pub standings : ℕ → List Standing
  standings row = standings_by row (opening_in (length rows) arounds row (slice_get rows row))

  -- what a slot of a row asks for
  abbrev pub slot_asked : ℕ → Slot → List Standing
  slot_asked row slot = stated_by row slot.question

  -- what the slots of a row ask for
  abbrev pub slots_asked : ℕ → List Standing
  slots_asked row = flat_map (slot_asked row) (slots_in (slice_get rows row))
