use Rattle.std.proofs.Common.{◌≡◌, Bool, false, ◌&&◌, ap, sym, ◌∙◌, arith}
use Rattle.dfdl_checks.specs.JudgedShown.{judged_of}
use Rattle.dfdl_checks.specs.NewLines.{is_line_breaking, is_other_line_told}
use Rattle.dfdl_checks.proofs.new_lines.is_new_line_other.Goals as goal

-- nothing is told that is asked of the component
none-told : (breaks told : Bool) → told ≡ false → false ≡ (breaks && told)
none-told breaks told none = grind (arith, none)

pub returns-then-not-is_other_line_told : goal.returns-then-not-is_other_line_told
returns-then-not-is_other_line_told c =
    none-told (is_line_breaking (judged_of c.args.subject.now)) _
    (ap is_other_line_told (sym c.property.ensures) ∙ (sym c.is_other_line_told.ensures ∙ c.if-not-is_other_line_told.true))
