-- The values of events that fit are of their elements' types.
use Rattle.std.proofs.Common.{◌≡◌, ℕ, List, [], ◌∷◌, ◌++◌, All, Some, slice_get, subst}
use Rattle.std.proofs.lemmas.List.Elements.{All-cons, All-nil, All-append}
use Rattle.dfdl_forms.specs.declared.simple.Simple.{Simple as SimpleType}
use Rattle.dfdl_value.specs.Types.{IsOfType}
use Rattle.dfdl_value.specs.declared.value.Value.{Value}
use Rattle.dfdl_terms.specs.declared.representations.Representations.{Representations}
use Rattle.dfdl_terms.specs.declared.statement.Statements.{Statements}
use Rattle.dfdl_terms.specs.Rows.{Table}
use Rattle.dfdl_terms.specs.declared.event.Event.{Event}
use Rattle.dfdl_terms.specs.declared.event.Event.TheVariants.{Start, Simple, Nil, End}
use Rattle.dfdl_terms.specs.declared.row.Row.TheVariants.{Elem}
use Rattle.dfdl_json.specs.Fitting.{IsElement, AreItems, AreInside, simple, complex, nil, no_item, one_more, nothing, absent, present, several}
use Rattle.dfdl_pieces.specs.Unparsing.{IsTyped}

value_typed : (t : Table) (row : ℕ) (name : List ℕ) (kind : SimpleType) (tried : Representations) (behind : Statements) (body : ℕ) (value : Value) → slice_get t.rows row ≡ Some (Elem name (Some kind) tried behind body)
    → IsOfType kind value → IsTyped t (Simple row value)
value_typed t row name kind tried behind body value is typed = λ other_name other_kind other_tried other_behind other_body other_is.
    let same : kind ≡ other_kind = cc in subst (λ (k : SimpleType). IsOfType k value) same typed

mutual
  pub element_typed : (t : Table) (row : ℕ) (events : List Event) → IsElement t row events → All (IsTyped t) events
  element_typed t _ _ (simple row name kind tried behind body value is typed) =
      All-cons (IsTyped t) (Simple row value) [] (value_typed t row name kind tried behind body value is typed) (All-nil (IsTyped t))
  element_typed t _ _ (complex row name tried behind body inside is fits) =
      All-cons (IsTyped t) (Start row) (inside ++ End ∷ []) tt
      (All-append (IsTyped t) inside (End ∷ []) (inside_typed t _ inside fits) (All-cons (IsTyped t) End [] tt (All-nil (IsTyped t))))
  element_typed t _ _ (nil row name type tried behind body prim is some) = All-cons (IsTyped t) (Nil row) [] tt (All-nil (IsTyped t))

  pub items_typed : (t : Table) (row : ℕ) (events : List Event) → AreItems t row events → All (IsTyped t) events
  items_typed t _ _ (no_item row) = All-nil (IsTyped t)
  items_typed t _ _ (one_more row own more element items) =
      All-append (IsTyped t) own more (element_typed t row own element) (items_typed t row more items)

  pub inside_typed : (t : Table) (rows : List ℕ) (events : List Event) → AreInside t rows events → All (IsTyped t) events
  inside_typed t _ _ nothing = All-nil (IsTyped t)
  inside_typed t _ _ (absent row rows events fits) = inside_typed t rows events fits
  inside_typed t _ _ (present row rows own more element fits) =
      All-append (IsTyped t) own more (element_typed t row own element) (inside_typed t rows more fits)
  inside_typed t _ _ (several row rows own more are items fits) =
      All-append (IsTyped t) own more (items_typed t row own items) (inside_typed t rows more fits)
