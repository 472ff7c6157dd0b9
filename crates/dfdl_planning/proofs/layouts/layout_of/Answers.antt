use Rattle.std.proofs.Common.{◌∙◌, ◌++◌, ◌∷◌, [], List, ap, ap₂, sym, arith}
use Rattle.std.proofs.lemmas.List.FromFn.{map-range_with_len_more}
use Rattle.dfdl_outline.specs.declared.entry.Entry.{Entry}
use Rattle.dfdl_planning.specs.Planned.{entry_in}
use Rattle.dfdl_planning.proofs.layouts.layout_of.Goals as goal

pub loop-number-preserved : goal.loop-number-preserved
loop-number-preserved c =
    c.in_ok-push.ensures.items
    ∙ (ap₂ (λ (made : List Entry) (one : Entry). made ++ one ∷ []) c.loop-number.invariant c.in_ok-entry_at.ensures
    ∙ sym (map-range_with_len_more (entry_in c.args.source.now) 0 c.loop-number.number c.loop-number.number (omega arith)))
