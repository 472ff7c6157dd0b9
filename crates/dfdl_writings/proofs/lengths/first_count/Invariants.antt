use Rattle.std.proofs.Common.{◌≡◌, ◌+◌, ◌-◌}
use Rattle.dfdl_writings.specs.Lengths.{first_count}
use Rattle.dfdl_writings.proofs.lengths.first_count.Given as goal

-- none of the counts before holds the number
abbrev pub invariant-loop-more : goal.invariant-loop-more
invariant-loop-more l = first_count l.form l.value (l.most - l.more) (l.more + 1) ≡ first_count l.form l.value l.most 1
