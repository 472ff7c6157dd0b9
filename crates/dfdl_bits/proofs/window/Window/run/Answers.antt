use Rattle.dfdl_bits.proofs.Windows.{run_seen, run_ends}
use Rattle.dfdl_bits.proofs.window.Window.run.Goals as goal

pub returns-clause-seen : goal.returns-clause-seen
returns-clause-seen g c = λ i within.
    rw c.held-run.ensures.run
    (run_seen c.args.self.now c.args.k c.args.most i c.requires (rw c.held-run.ensures.run at within))

pub returns-clause-whole : goal.returns-clause-whole
returns-clause-whole g c = λ b short seen.
    run_ends c.args.self.now c.args.k c.args.most b c.requires (rw c.held-run.ensures.run at short) (rw c.held-run.ensures.run at seen)
