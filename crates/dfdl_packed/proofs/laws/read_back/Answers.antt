use Rattle.dfdl_packed.proofs.Back.{packed_law, zoned_law}
use Rattle.dfdl_packed.proofs.laws.read_back.Goals as goal

pub returns-clause-packed : goal.returns-clause-packed
returns-clause-packed c = λ form value nibbles is of e. packed_law form value nibbles is of e

pub returns-clause-zoned : goal.returns-clause-zoned
returns-clause-zoned c = λ form value chars is of e. zoned_law form value chars is of e
