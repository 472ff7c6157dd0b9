use Rattle.dfdl_breaches.specs.Tabled.{AreDefaults}
use Rattle.dfdl_breaches.proofs.entries.defaults_of.Given as goal

-- the documents so far
abbrev pub invariant-loop-document : goal.invariant-loop-document
invariant-loop-document l = AreDefaults l.schema l.document l.defaults.items
