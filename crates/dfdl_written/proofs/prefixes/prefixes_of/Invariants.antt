use Rattle.dfdl_written.proofs.Gathered.{AreDeclaredBefore}
use Rattle.dfdl_written.proofs.prefixes.prefixes_of.Given as goal

-- those of the documents so far
abbrev pub invariant-loop-document : goal.invariant-loop-document
invariant-loop-document l = AreDeclaredBefore l.schema l.document l.documents.items
