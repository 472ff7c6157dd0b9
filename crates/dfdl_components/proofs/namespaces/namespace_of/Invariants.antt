use Rattle.std.proofs.Common.{◌≡◌, ◌<◌, ◌-◌, ◌+◌, length}
use Rattle.dfdl_components.specs.Namespaces.{namespace_within}
use Rattle.dfdl_components.proofs.namespaces.namespace_of.Given as goal

abbrev pub invariant-loop : goal.invariant-loop
invariant-loop l = record {
  same : namespace_within (length l.documents + 1 - l.counter) l.documents l.outer
      ≡ namespace_within (length l.documents + 1) l.documents l.fn.document;
  within : l.outer < length l.documents;
}
