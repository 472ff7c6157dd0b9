use Rattle.dfdl_length_patterns.proofs.matching.LengthMatcher.new.Goals as goal

pub invariant_of-result : goal.invariant_of-result
invariant_of-result c = rw c.in_ok-matcher.ensures.pattern c.requires
