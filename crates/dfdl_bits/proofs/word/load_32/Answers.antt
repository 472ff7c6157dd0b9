use Rattle.std.proofs.Common.{arith}
use Rattle.dfdl_bits.proofs.Loads.{big_4, little_4}
use Rattle.dfdl_bits.proofs.word.load_32.Goals as goal

pub returns-in-Big : goal.returns-in-Big
returns-in-Big c = rw c.in-Big.is (omega (arith, c.from_be_bytes.ensures, big_4 c.args.bytes.now (λ i. omega (arith, c.type_inv.bytes i)) c.args.first))

pub returns-in-Little : goal.returns-in-Little
returns-in-Little c = rw c.in-Little.is (omega (arith, c.from_le_bytes.ensures, little_4 c.args.bytes.now (λ i. omega (arith, c.type_inv.bytes i)) c.args.first))
