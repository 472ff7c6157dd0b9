use Rattle.dfdl_components.proofs.Outward.{referenced}
use Rattle.dfdl_components.proofs.includers.all_references.Goals as goal

pub loop-document-preserved : goal.loop-document-preserved
loop-document-preserved c = referenced c.args.documents.now c.loop-document.document c.loop-document.all.items c.push.new.self.items _ c.loop-document.invariant
    c.in_ok-push.ensures.items c.in_ok-of.ensures
