use Rattle.std.proofs.Common.{◌≡◌, ◌∷◌, [], ◌∙◌, ℕ, List, Option, length, ap, arith, length-append}
use Rattle.dfdl_documents.specs.Documents.{Reference}
use Rattle.dfdl_components.specs.Namespaces.{includer_of, includer_among}
use Rattle.dfdl_components.proofs.Outward.{included, includer_is}
use Rattle.dfdl_components.proofs.includers.includers_of.Goals as goal

pub loop-document-preserved : goal.loop-document-preserved
loop-document-preserved c =
    let items = c.in_ok-push.ensures.items in
    let is : c.includer_among.result ≡ includer_of c.args.documents.now c.loop-document.document
    = c.includer_among.ensures
    ∙ (ap (λ (xs : List (List Reference)). includer_among xs c.name.result.now (length xs)) c.as_slice.ensures.value
    ∙ (ap (λ (t : List ℕ). includer_among c.in_ok-all.all.items t (length c.in_ok-all.all.items)) c.name.ensures
    ∙ includer_is c.args.documents.now c.in_ok-all.all.items c.loop-document.document c.in_ok-all.ensures)) in
    record {
      count = omega (arith, ap (λ (xs : List (Option ℕ)). length xs) items, length-append c.loop-document.includers.items (c.includer_among.result ∷ []), c.loop-document.invariant.count);
      each = included c.args.documents.now c.loop-document.document c.loop-document.includers.items c.push.new.self.items c.includer_among.result
          c.loop-document.invariant.count c.loop-document.invariant.each items is;
    }
