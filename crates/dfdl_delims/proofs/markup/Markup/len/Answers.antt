use Rattle.std.proofs.Common.{ap, ◌∙◌}
use Rattle.dfdl_delims.specs.Registers.{Register}
use Rattle.dfdl_delims.proofs.Held.{held}
use Rattle.dfdl_delims.proofs.markup.Markup.len.Goals as goal

pub returns : goal.returns
returns c = λ lists holds.
    c.len.ensures ∙ c.self.inside.marks.ok.0
    ∙ (held (record { marks = c.self.inside.marks.items; starts = c.self.inside.starts.items; pieces = c.self.inside.pieces.items }) lists
    (ap (λ (r : Register). r.flat) c.self.view_is ∙ holds.flat)).marks
