use Rattle.std.proofs.Common.{◌≡◌, ◌*◌, ◌^◌, ◌<◌}
use Rattle.dfdl_packed.proofs.size.with_zeros.Given as goal

abbrev pub invariant-loop-zero : goal.invariant-loop-zero
invariant-loop-zero l = record { product : l.product ≡ l.number * 10 ^ l._zero; fits : l.product < 2 ^ 128 }
