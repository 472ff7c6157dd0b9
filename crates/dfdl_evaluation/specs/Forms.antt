-- How the content of a simple element lies, as code is lent it.
use Rattle.std.specs.Prelude.{Option, None, Some, IfSome, option_copied}
use Rattle.dfdl_terms.specs.Rows.{IsPrimitive}
use Rattle.dfdl_cells.specs.Plans as plans
use Rattle.dfdl_evaluation.specs.declared.form.Form.{Form}

-- the form that is lent
abbrev pub form_shown : Form → plans.Form
form_shown form = record { prim = form.prim.now; nil = option_copied form.nil; length = form.length }

-- the same of one that may not be there
abbrev pub some_shown : Option Form → Option plans.Form
some_shown None = None
some_shown (Some form) = Some (form_shown form)

-- the primitives of a form keep the bounds of their types
pub record HasBounds (form : plans.Form) : Type 0 where
  pub prim : IsPrimitive form.prim
  pub nil : IfSome form.nil IsPrimitive
