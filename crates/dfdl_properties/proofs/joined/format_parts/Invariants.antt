use Rattle.std.proofs.Common.{◌≡◌, ◌++◌, drop}
use Rattle.dfdl_properties.specs.Formats.{parts_of}
use Rattle.dfdl_properties.proofs.joined.format_parts.Given as goal

-- the formats so far, with those that are left, are all
abbrev pub invariant-loop-next : goal.invariant-loop-next
invariant-loop-next l = l.uses ++ parts_of (drop l.next-index l.refers) ≡ parts_of l.refers
