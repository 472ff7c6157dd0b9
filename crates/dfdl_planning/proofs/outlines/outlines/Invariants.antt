use Rattle.dfdl_planning.proofs.Tables.{IsKnown}
use Rattle.dfdl_planning.specs.Planned.{outline_from, unknown_outline}
use Rattle.dfdl_planning.specs.declared.outline.Outline.{Outline}
use Rattle.dfdl_planning.proofs.outlines.outlines.Given as goal

abbrev pub invariant-loop-number : goal.invariant-loop-number
invariant-loop-number l = IsKnown Outline l.source.schema.uses (outline_from l.source) unknown_outline l.number-items l.number-index l.known.items
