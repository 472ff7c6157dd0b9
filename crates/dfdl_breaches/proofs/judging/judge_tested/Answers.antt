use Rattle.std.proofs.Common.{refl}
use Rattle.dfdl_checks.specs.JudgedShown.{judged_of}
use Rattle.dfdl_breaches.proofs.Judged.{told_unrefused, without_pattern}
use Rattle.dfdl_breaches.proofs.judging.judge_tested.Goals as goal

pub told_of-requires-clause-pattern : goal.told_of-requires-clause-pattern
told_of-requires-clause-pattern g c = without_pattern (judged_of c.args.subject.now) c.requires.subject c.in-None.ensures

pub returns-in-None : goal.returns-in-None
returns-in-None g c = told_unrefused (judged_of c.args.subject.now) c.requires.subject _ _ _ _ _ _ refl c.told_of.ensures
