use Rattle.std.proofs.Common.{◌≡◌, length}
use Rattle.dfdl_packed.specs.Packed.{ibm_number}
use Rattle.dfdl_packed.proofs.reading.ibm.Given as goal

abbrev pub invariant-loop-rest : goal.invariant-loop-rest
invariant-loop-rest l = ibm_number l.rest ≡ ibm_number l.fn.nibbles

abbrev pub decreases-loop-rest : goal.decreases-loop-rest
decreases-loop-rest l = length l.rest
