use Rattle.dfdl_length_patterns.proofs.Found.{finds_as_read}
use Rattle.dfdl_length_patterns.proofs.patterns.LengthPattern.matcher.Goals as goal

pub new-requires : goal.new-requires
new-requires c = rw c.as_str.ensures (finds_as_read c.self.inside.built _ c.self.invariant)
