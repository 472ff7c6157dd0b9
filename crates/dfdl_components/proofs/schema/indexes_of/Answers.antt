use Rattle.std.proofs.Common.{◌∷◌, [], List, length, get_or, ap, sym, subst, arith, length-append}
use Rattle.dfdl_components.specs.declared.schema.Index.{Index}
use Rattle.dfdl_components.specs.Shown.{IsIndex}
use Rattle.dfdl_components.proofs.Indexing.{one_more}
use Rattle.dfdl_components.proofs.schema.indexes_of.Goals as goal

pub loop-document-preserved : goal.loop-document-preserved
loop-document-preserved c =
    let items = c.in_ok-push.ensures.items in
    record {
      count = omega (arith, ap (λ (xs : List Index). length xs) items, length-append c.loop-document.indexes.items (c.in_ok-index_of.field-0 ∷ []), c.loop-document.invariant.count);
      each = λ i other small. subst (λ (xs : List Index). IsIndex c.args.documents.now i (get_or xs i other)) (sym items)
          (one_more c.args.documents.now c.loop-document.indexes.items c.in_ok-index_of.field-0 c.loop-document.document c.loop-document.invariant.count
          c.loop-document.invariant.each c.in_ok-index_of.ensures i other small);
    }
