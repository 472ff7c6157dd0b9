use Rattle.dfdl_documents.proofs.Loops.{IsSoFar}
use Rattle.dfdl_documents.proofs.loading.load_documents.Given as goal

abbrev pub invariant-loop-number : goal.invariant-loop-number
invariant-loop-number g l =
    IsSoFar (g.F.Files.seen l.fn.files) (g.F.Files.seen l.files) l.most l.name l.documents l.names l.number
