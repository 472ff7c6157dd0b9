use Rattle.std.proofs.Common.{◌≡◌, ◌++◌, drop}
use Rattle.dfdl_delims.specs.Standing.{begins_of}
use Rattle.dfdl_delims.proofs.beginning.put_lists.Given as goal

-- the lists that are left are still to be put
abbrev pub invariant-loop-place : goal.invariant-loop-place
invariant-loop-place l =
    l.live.items ++ begins_of l.marks l.starts l.place (drop l.place l.numbers) ≡ l.fn.live.items ++ begins_of l.marks l.starts 0 l.numbers
