-- Tables whose simple elements are whole fields.
use Rattle.std.specs.Prelude.{◌≡◌, ℕ, List, Option, None, Some, slice_get}
use Rattle.dfdl_forms.specs.declared.binary.IntForm.{IntForm}
use Rattle.dfdl_forms.specs.declared.simple.Simple.{Simple}
use Rattle.dfdl_terms.specs.declared.representations.Representations.{Representations}
use Rattle.dfdl_terms.specs.declared.statement.Statements.{Statements}
use Rattle.dfdl_terms.specs.declared.row.Row.TheVariants.{Elem}
use Rattle.dfdl_terms.specs.Rows.{Table}
use Rattle.dfdl_pieces.specs.Laying.{form_at}
use Rattle.dfdl_pieces.specs.Pieces.{IsWholeField}

-- there is a form, of a whole field of this type
abbrev pub IsWholeForm : Simple → Option IntForm → Type 0
IsWholeForm kind None = ⊥
IsWholeForm kind (Some form) = (form.kind ≡ kind) × IsWholeField form

-- the body of each simple element is a leaf that writes a whole field of the element's type
abbrev pub AreWholeFields : Table → Type 0
AreWholeFields t = (row : ℕ) (name : List ℕ) (kind : Simple) (tried : Representations) (behind : Statements) (body : ℕ)
    → slice_get t.rows row ≡ Some (Elem name (Some kind) tried behind body) → IsWholeForm kind (form_at t body)
