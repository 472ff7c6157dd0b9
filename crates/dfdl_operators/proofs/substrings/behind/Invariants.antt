use Rattle.std.proofs.Common.{◌≡◌, ℕ, List, ◌++◌, drop, chars}
use Rattle.std.specs.Str.{IsUtf8}
use Rattle.dfdl_operators.proofs.substrings.behind.Given as goal

-- what is left to be passed over leads to the same place
abbrev pub invariant-loop-left : goal.invariant-loop-left
invariant-loop-left l = record {
  left : drop l.left (chars l.rest) ≡ drop l.count (chars l.text);
  suffix : (front : List ℕ) × (l.text ≡ front ++ l.rest);
  utf8 : IsUtf8 l.rest;
}

abbrev pub decreases-loop-left : goal.decreases-loop-left
decreases-loop-left l = l.left
