use Rattle.std.proofs.Common.{◌≡◌, ◌++◌, take, drop}
use Rattle.dfdl_number_text.proofs.bytes.widen.Given as goal

-- the bytes so far stand at the front
abbrev pub invariant-loop-at : goal.invariant-loop-at
invariant-loop-at l = l.into ≡ take l.at l.bytes ++ drop l.at l.fn.into
