-- The lists of events that fit the terms of a schema ('The DFDL Information Set').
use Rattle.std.specs.Prelude.{◌≡◌, ℕ, true, List, [], ◌∷◌, ◌++◌, Option, Some, None, slice_get}
use Rattle.dfdl_forms.specs.declared.simple.Simple.{Simple}
use Rattle.dfdl_value.specs.declared.value.Value.{Value}
use Rattle.dfdl_value.specs.Types.{IsOfType}
use Rattle.dfdl_terms.specs.declared.representations.Representations.{Representations}
use Rattle.dfdl_terms.specs.declared.statement.Statements.{Statements}
use Rattle.dfdl_terms.specs.declared.event.Event.{Event}
use Rattle.dfdl_terms.specs.declared.event.Event.TheVariants.{Start, Simple as SimpleElement, Nil, End}
use Rattle.dfdl_terms.specs.declared.row.Row.TheVariants.{Elem}
use Rattle.dfdl_terms.specs.Arrays.{is_item}
use Rattle.dfdl_terms.specs.Rows.{Table}
use Rattle.dfdl_json.specs.Children.{root_row}
use Rattle.dfdl_json.specs.Members.{members_in}

mutual
  -- The events of one occurrence of an element: a simple one has a value of its type, a complex one begins, has the events of
  -- what is inside, and ends, and one that may be nil is nil.
  pub data IsElement (t : Table) : ℕ → List Event → Type 0 where
    simple : (row : ℕ) (name : List ℕ) (kind : Simple) (tried : Representations) (behind : Statements) (body : ℕ) (value : Value)
        → slice_get t.rows row ≡ Some (Elem name (Some kind) tried behind body) → IsOfType kind value
        → IsElement t row (SimpleElement row value ∷ [])
    complex : (row : ℕ) (name : List ℕ) (tried : Representations) (behind : Statements) (body : ℕ) (inside : List Event)
        → slice_get t.rows row ≡ Some (Elem name None tried behind body) → AreInside t (members_in t body) inside
        → IsElement t row (Start row ∷ (inside ++ End ∷ []))
    nil : (row : ℕ) (name : List ℕ) (type : Option Simple) (tried : Representations) (behind : Statements) (body prim : ℕ)
        → slice_get t.rows row ≡ Some (Elem name type tried behind body) → tried.nil ≡ Some prim
        → IsElement t row (Nil row ∷ [])

  -- The events of items of an element, one after another.
  pub data AreItems (t : Table) : ℕ → List Event → Type 0 where
    no_item : (row : ℕ) → AreItems t row []
    one_more : (row : ℕ) (own more : List Event) → IsElement t row own → AreItems t row more → AreItems t row (own ++ more)

  -- The events of elements among these rows, in their order: each at most once, or any number of times where its occurrences
  -- are items of an array.
  pub data AreInside (t : Table) : List ℕ → List Event → Type 0 where
    nothing : AreInside t [] []
    absent : (row : ℕ) (rows : List ℕ) (events : List Event) → AreInside t rows events → AreInside t (row ∷ rows) events
    present : (row : ℕ) (rows : List ℕ) (own more : List Event)
        → IsElement t row own → AreInside t rows more → AreInside t (row ∷ rows) (own ++ more)
    several : (row : ℕ) (rows : List ℕ) (own more : List Event)
        → is_item t.rows row ≡ true → AreItems t row own → AreInside t rows more → AreInside t (row ∷ rows) (own ++ more)

-- the list is that of the root element, once
abbrev pub Fits : Table → List Event → Type 0
Fits t events = IsElement t (root_row t) events
