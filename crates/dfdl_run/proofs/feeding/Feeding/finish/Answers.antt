use Rattle.std.proofs.Common.{ap}
use Rattle.dfdl_run.proofs.Feeds.{ended_over, ended_told}
use Rattle.dfdl_run.proofs.feeding.Feeding.finish.Goals as goal

-- the session needs more of some data
pub finish-requires : goal.finish-requires
finish-requires g c = let begun = c.requires.begun in record { sound = (begun.taken.needed (cc)).ready.sound }

pub returns-then-not-self : goal.returns-then-not-self
returns-then-not-self g c t bytes taken = ended_over t c.args.self.now bytes taken (cc)

pub returns : goal.returns
returns g c t bytes taken =
    let needs = taken.needed (cc) in
    ended_told t c.args.self.now _ bytes _ taken needs (cc) (ap (λ terms. terms.now) c.in_ok-finish.ensures.same.0)
    (c.in_ok-finish.ensures.done bytes 0 needs.spent needs.allowed needs.stands)
