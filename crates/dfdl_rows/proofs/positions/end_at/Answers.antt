use Rattle.std.proofs.Common.{◌∙◌, sym}
use Rattle.dfdl_rows.proofs.Located.{parts_end}
use Rattle.dfdl_rows.proofs.positions.end_at.Goals as goal

pub returns : goal.returns
returns c =
    parts_end c.args.components.now c.args.place c.args.number c.args.sizes.now c.parts.result.now c.args.known.now c.first_end.result
    (sym c.is_of.ensures ∙ c.if-is_of.false) c.parts.ensures.parts c.parts.ensures.within c.requires.sizes c.first_end.ensures
