use Rattle.std.proofs.Common.{◌≡◌, ◌-◌, ◌≤◌, length, drop}
use Rattle.dfdl_literal_texts.specs.Texts.{after_any, cases_of, is_none}
use Rattle.dfdl_literal_texts.proofs.repeated.goes_on.Given as goal

-- the bytes that are left tell it
abbrev pub invariant-loop-at : goal.invariant-loop-at
invariant-loop-at l = record {
  within : l.at ≤ length l.bytes;
  left : after_any l.encoding (cases_of l.fold l.c) is_none (drop l.at l.bytes)
      ≡ after_any l.encoding (cases_of l.fold l.c) is_none (drop l.from l.bytes);
}

abbrev pub decreases-loop-at : goal.decreases-loop-at
decreases-loop-at l = length l.bytes - l.at
