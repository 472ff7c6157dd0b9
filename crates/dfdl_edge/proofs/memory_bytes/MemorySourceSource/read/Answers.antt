use Rattle.std.proofs.Common.{ap, drop, arith}
use Rattle.std.proofs.lemmas.Grind.{common_steps}
use Rattle.std.proofs.lemmas.List.{take_rest}
use Rattle.dfdl_edge.proofs.Taking.{takes_front}
use Rattle.dfdl_edge.proofs.memory_bytes.MemorySourceSource.read.Goals as goal

-- the copy is the front of the bytes that were left
pub returns-clause-takes : goal.returns-clause-takes
returns-clause-takes c =
    rw (← ap (λ s. s.rest) c.self.view_is)
    (takes_front c.self.inside.bytes.items c.copy_from_slice.new.self (drop c.min-count.result c.args.into.now)
    c.self.inside.given c.min-count.result
    (grind (arith, common_steps)) (λ zero. grind (arith, common_steps)) (grind (arith, common_steps, take_rest)))
