use Rattle.std.proofs.Common.{ap}
use Rattle.dfdl_scope.specs.Scoping.{told}
use Rattle.dfdl_checks.proofs.Alike.{same-chain}
use Rattle.dfdl_checks.proofs.laws.alike_chains_tell_the_same.Goals as goal

pub returns : goal.returns
returns c = λ xs ys name alike. ap (λ chain. told chain name) (same-chain xs ys alike)
