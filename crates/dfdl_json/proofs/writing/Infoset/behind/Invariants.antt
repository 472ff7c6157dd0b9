use Rattle.std.proofs.Common.{ℕ, List}
use Rattle.dfdl_json.specs.Chains.{reach}
use Rattle.dfdl_json.specs.Ready.{AreMembers}
use Rattle.dfdl_json.proofs.SoFar.{PassedSoFar}
use Rattle.dfdl_json.proofs.writing.Infoset.behind.Given as goal

-- some members are left; they are those behind, where those of the rank come first
abbrev pub invariant-loop-link : goal.invariant-loop-link
invariant-loop-link l = record {
  left : (number r : ℕ) × (is : List ℕ) × AreMembers l.self number r l.at is;
  passed : (number : ℕ) (is : List ℕ) → AreMembers l.self number l.rank l.fn.next is → PassedSoFar l.self number l.rank l.fn.next l.at is;
}

abbrev pub decreases-loop-link : goal.decreases-loop-link
decreases-loop-link l = reach l.at
