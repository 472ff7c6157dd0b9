use Rattle.std.proofs.Common.{◌≡◌, ◌+◌, ◌-◌, ◌*◌, ◌++◌}
use Rattle.dfdl_grammar.specs.Octets.{octets_from}
use Rattle.dfdl_leaves.proofs.octets.put_octets.Given as goal

-- what was put, and what is left, are the whole
abbrev pub invariant-loop-at : goal.invariant-loop-at
invariant-loop-at l = l.into.items ++ octets_from l.bits_by l.bytes (l.before + 8 * l.at) (l.count - l.at) ≡ octets_from l.bits_by l.bytes l.before l.count
