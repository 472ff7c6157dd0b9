use Rattle.std.proofs.Common.{◌≡◌, ◌++◌, ◌-◌}
use Rattle.dfdl_delims.specs.Standing.{begins_from, placed}
use Rattle.dfdl_delims.proofs.beginning.put_begins.Given as goal

-- the begins that are left are still to be put
abbrev pub invariant-begins : goal.invariant-begins
invariant-begins l = l.live.items ++ placed l.place (begins_from l.starts l.at l.end) ≡ l.fn.live.items ++ placed l.place (begins_from l.starts l.from l.end)

abbrev pub decreases-begins : goal.decreases-begins
decreases-begins l = l.end - l.at
