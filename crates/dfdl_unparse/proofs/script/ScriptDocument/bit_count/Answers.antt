use Rattle.std.proofs.Common.{[], ◌∷◌, sym, ◌∙◌}
use Rattle.dfdl_forms.specs.declared.order.BitOrder.TheVariants.{MostFirst}
use Rattle.dfdl_splice.proofs.Runs.{length-bits_from}
use Rattle.dfdl_suspend.specs.Asks.{at}
use Rattle.dfdl_unparse.specs.Scripts.{last_byte, width_at}
use Rattle.dfdl_unparse.proofs.script.ScriptDocument.bit_count.Goals as goal

pub returns : goal.returns
returns c = c.from.ensures ∙ (c.width.ensures ∙ sym (length-bits_from MostFirst (last_byte (at c.args._known.now c.args.piece) ∷ []) 0 (width_at c.args.self.now.widths.items c.args.piece)))
