use Rattle.dfdl_breaches.proofs.BuiltTests.{as_told}
use Rattle.dfdl_breaches.proofs.testing.tests_of.Goals as goal

pub returns : goal.returns
returns g c = as_told _ _ _ _ _ _ _ c.pattern_encoding.ensures c.tests_for-tests.ensures c.build_tests.ensures
