use Rattle.std.proofs.Common.{ℕ, ◌+◌, ◌-◌, ◌*◌, List, length}
use Rattle.dfdl_json.specs.Ready.{AreMembers}
use Rattle.dfdl_json.proofs.SoFar.{ItemsSoFar, ObjectSoFar}
use Rattle.dfdl_json.specs.Chains.{reach}
use Rattle.dfdl_json.proofs.writing.Infoset.+writing.Given as goal

abbrev pub decreases-write_element : goal.decreases-write_element
decreases-write_element l = 6 * (length l.self.now.nodes.now - l.number) + 5

abbrev pub decreases-write_object : goal.decreases-write_object
decreases-write_object l = 6 * (length l.self.now.nodes.now - l.number) + 4

abbrev pub decreases-write_member : goal.decreases-write_member
decreases-write_member l = 6 * (length l.self.now.nodes.now - l.number) + 3

abbrev pub decreases-write_value : goal.decreases-write_value
decreases-write_value l = 6 * (length l.self.now.nodes.now - l.number) + 2

abbrev pub decreases-write_array : goal.decreases-write_array
decreases-write_array l = 6 * (length l.self.now.nodes.now - l.number) + 1

abbrev pub decreases-write_items : goal.decreases-write_items
decreases-write_items l = 6 * (length l.self.now.nodes.now - l.number)

abbrev pub invariant-write_object-loop-link : goal.invariant-write_object-loop-link
invariant-write_object-loop-link l = ObjectSoFar l.self l.number l.fn.out l.out l.at

abbrev pub decreases-write_object-loop-link : goal.decreases-write_object-loop-link
decreases-write_object-loop-link l = reach l.at

abbrev pub invariant-write_items-loop-link : goal.invariant-write_items-loop-link
invariant-write_items-loop-link l = (is : List ℕ) → AreMembers l.self l.number l.rank l.fn.next is → ItemsSoFar l.self l.number l.rank l.fn.out l.out l.fn.next l.at is

abbrev pub decreases-write_items-loop-link : goal.decreases-write_items-loop-link
decreases-write_items-loop-link l = reach l.at
