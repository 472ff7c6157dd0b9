-- The row of a box around the content of a complex element ('Lengths').
use Rattle.std.specs.Prelude.{ℕ}
use Rattle.dfdl_terms.specs.declared.row.Row.{Row}
use Rattle.dfdl_terms.specs.declared.row.Row.TheVariants.{Boxed, PrefixedBox, MeasuredBox, Spanned}
use Rattle.dfdl_rows.specs.declared.component.ContentBox.{ContentBox}
use Rattle.dfdl_rows.specs.declared.component.ContentBox.TheVariants.{Unbounded, Sized, Prefixed, Measured}

-- the row of a box around the row of a content; where there is no box, one that keeps how long the content is
abbrev pub box_row : ContentBox → ℕ → Row
box_row Unbounded content = Spanned content
box_row (Sized bits) content = Boxed bits content
box_row (Prefixed prefix) content = PrefixedBox prefix content
box_row (Measured measure) content = MeasuredBox measure content
