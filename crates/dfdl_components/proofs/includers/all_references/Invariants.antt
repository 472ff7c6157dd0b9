use Rattle.dfdl_components.specs.Namespaces.{AreReferences}
use Rattle.dfdl_components.proofs.includers.all_references.Given as goal

abbrev pub invariant-loop-document : goal.invariant-loop-document
invariant-loop-document l = AreReferences l.documents l.document l.all.items
