use Rattle.std.proofs.Common.{◌-◌, ◌<◌, ℕ, Bool, false, refl, sym, subst, arith}
use Rattle.dfdl_parse.specs.Machines.{step}
use Rattle.dfdl_parse.specs.Shown.{limits_of, state_of}
use Rattle.dfdl_parse.specs.Steps.{Moved}
use Rattle.dfdl_parse.proofs.Opens.{holds}
use Rattle.dfdl_parse.proofs.Goes.{advance, wait, stay, go_further, go_and_wait, agrees_padded, keeps_first, reaches_first, still_agrees, still_low, still_reaches, still_seen, step-smaller, padded}
use Rattle.dfdl_parse.proofs.Registers.{still_registered}
use Rattle.dfdl_parse.proofs.Statings.{limits-twice}
use Rattle.dfdl_parse.proofs.run.run.Goals as goal

pub steps-init : goal.steps-init
steps-init g c = record {
  low = c.requires.base;
  holds = holds c.args.sight.now.base c.args.parser.now.focus c.args.parser.now.stack (state_of c.args.parser.now) c.requires.base;
  at = c.requires.at;
  most = (refl, (refl, (refl, refl)));
  registered = c.requires.registered;
  steps = omega arith;
  gone = stay c.args.terms.now c.args.parser.now c.args.sight.now c.args.steps.now;
  agrees = agrees_padded c.args.sight.now;
  seen = c.requires.seen;
  reaches = λ last reaches. reaches_first last c.args.parser.now.far c.args.sight.now c.args.parser.now.focus (state_of c.args.parser.now) reaches;
}

pub returns-then-waits-clause-waits : goal.returns-then-waits-clause-waits
returns-then-waits-clause-waits g c _ =
    go_and_wait c.args.terms.now c.args.parser.now c.steps.parser c.step.new.self c.args.sight.now c.steps.sight c.step.new.sight
    (c.steps.steps - c.args.steps.now) (c.step.new.steps - c.steps.steps) (c.step.new.steps - c.args.steps.now)
    c.steps.invariant.most (omega (arith, c.in_ok-waits.ensures.steps, c.steps.invariant.steps)) c.steps.invariant.gone
    (wait c.args.terms.now c.rows-rows.ensures.table.nests c.steps.parser c.step.new.self c.steps.sight c.step.new.sight
    (c.step.new.steps - c.steps.steps) c.steps.invariant.low c.steps.invariant.at
    (subst (λ (w : Bool). Moved
    (step (limits_of c.steps.parser c.steps.sight) c.args.terms.now c.steps.sight c.steps.parser.focus c.steps.parser.stack (state_of c.steps.parser))
    w c.steps.parser.far c.step.new.self c.step.new.sight (c.step.new.steps - c.steps.steps))
    c.if-waits.true c.in_ok-waits.ensures.moved))

pub returns-then-waits-clause-low : goal.returns-then-waits-clause-low
returns-then-waits-clause-low g c =
    still_low c.args.terms.now c.rows-rows.ensures.table.nests c.steps.parser c.step.new.self c.steps.sight c.step.new.sight
    (c.step.new.steps - c.steps.steps) c.steps.invariant.low c.steps.invariant.at c.in_ok-waits.waits c.in_ok-waits.ensures.moved

pub returns-then-waits-clause-reaches : goal.returns-then-waits-clause-reaches
returns-then-waits-clause-reaches g c last reaches =
    still_reaches c.args.terms.now c.rows-rows.ensures.table.nests c.steps.parser c.step.new.self c.steps.sight c.step.new.sight
    (c.step.new.steps - c.steps.steps) c.steps.invariant.low c.steps.invariant.at c.in_ok-waits.waits c.in_ok-waits.ensures.moved
    (subst (λ (n : ℕ). 0 < n) (sym c.steps.invariant.gone.slid.size) c.requires.some) last (c.steps.invariant.reaches last reaches)

pub returns-then-waits-clause-seen : goal.returns-then-waits-clause-seen
returns-then-waits-clause-seen g c =
    still_seen c.args.terms.now c.rows-rows.ensures.table.nests c.steps.parser c.step.new.self c.steps.sight c.step.new.sight
    (c.step.new.steps - c.steps.steps) c.steps.invariant.low c.steps.invariant.at c.in_ok-waits.waits c.in_ok-waits.ensures.moved c.steps.invariant.seen

pub steps-preserved : goal.steps-preserved
steps-preserved g c =
    let moved = subst (λ (w : Bool). Moved
    (step (limits_of c.steps.parser c.steps.sight) c.args.terms.now c.steps.sight c.steps.parser.focus c.steps.parser.stack (state_of c.steps.parser))
    w c.steps.parser.far c.step.new.self c.step.new.sight (c.step.new.steps - c.steps.steps))
    c.if-waits.false c.in_ok-waits.ensures.moved in
    let low = still_low c.args.terms.now c.rows-rows.ensures.table.nests c.steps.parser c.step.new.self c.steps.sight c.step.new.sight
    (c.step.new.steps - c.steps.steps) c.steps.invariant.low c.steps.invariant.at false moved in
    record {
      low = low;
      holds = holds c.step.new.sight.base c.step.new.self.focus c.step.new.self.stack (state_of c.step.new.self) low;
      at = c.in_ok-waits.ensures.at;
      most = limits-twice c.args.parser.now c.steps.parser c.step.new.self c.steps.invariant.most c.in_ok-waits.ensures.most;
      registered = still_registered c.args.terms.now c.rows-rows.ensures.table.named c.steps.parser c.step.new.self c.steps.sight c.step.new.sight
          false c.steps.parser.far (c.step.new.steps - c.steps.steps) c.in_ok-waits.ensures.most moved c.steps.invariant.registered;
      steps = omega (arith, c.in_ok-waits.ensures.steps, c.steps.invariant.steps);
      gone = go_further c.args.terms.now c.args.parser.now c.steps.parser c.step.new.self c.args.sight.now c.steps.sight c.step.new.sight
          (c.steps.steps - c.args.steps.now) (c.step.new.steps - c.steps.steps) (c.step.new.steps - c.args.steps.now)
          c.steps.invariant.most (omega (arith, c.in_ok-waits.ensures.steps, c.steps.invariant.steps)) c.steps.invariant.gone
          (advance c.args.terms.now c.rows-rows.ensures.table.nests c.steps.parser c.step.new.self c.steps.sight c.step.new.sight
          (c.step.new.steps - c.steps.steps) c.steps.invariant.low c.steps.invariant.at moved);
      reaches = λ last reaches. still_reaches c.args.terms.now c.rows-rows.ensures.table.nests c.steps.parser c.step.new.self c.steps.sight c.step.new.sight
          (c.step.new.steps - c.steps.steps) c.steps.invariant.low c.steps.invariant.at false moved
          (subst (λ (n : ℕ). 0 < n) (sym c.steps.invariant.gone.slid.size) c.requires.some) last (c.steps.invariant.reaches last reaches);
      seen = still_seen c.args.terms.now c.rows-rows.ensures.table.nests c.steps.parser c.step.new.self c.steps.sight c.step.new.sight
          (c.step.new.steps - c.steps.steps) c.steps.invariant.low c.steps.invariant.at false moved c.steps.invariant.seen;
      agrees = still_agrees c.args.terms.now c.rows-rows.ensures.table.nests c.steps.parser c.step.new.self c.steps.sight c.step.new.sight
          (c.step.new.steps - c.steps.steps) c.steps.invariant.low c.steps.invariant.at false moved (padded c.args.sight.now) c.steps.invariant.agrees;
    }

pub steps-smaller : goal.steps-smaller
steps-smaller g c =
    let moved = subst (λ (w : Bool). Moved
    (step (limits_of c.steps.parser c.steps.sight) c.args.terms.now c.steps.sight c.steps.parser.focus c.steps.parser.stack (state_of c.steps.parser))
    w c.steps.parser.far c.step.new.self c.step.new.sight (c.step.new.steps - c.steps.steps))
    c.if-waits.false c.in_ok-waits.ensures.moved in
    step-smaller c.args.terms.now c.rows-rows.ensures.table.nests c.steps.parser c.step.new.self c.steps.sight c.step.new.sight
    (c.step.new.steps - c.steps.steps)
    (record { bytes = padded c.args.sight.now; limits = limits_of c.args.parser.now c.args.sight.now })
    c.steps.invariant.low c.steps.invariant.at (keeps_first c.args.parser.now c.steps.parser c.args.sight.now c.steps.invariant.most) c.steps.invariant.gone.slid.size c.steps.invariant.agrees
    (λ ended. absurd (cc (c.if-has_ended.ensures.1 ended))) moved

pub returns-then-waits-clause-registered : goal.returns-then-waits-clause-registered
returns-then-waits-clause-registered g c =
    still_registered c.args.terms.now c.rows-rows.ensures.table.named c.steps.parser c.step.new.self c.steps.sight c.step.new.sight
    c.in_ok-waits.waits c.steps.parser.far (c.step.new.steps - c.steps.steps) c.in_ok-waits.ensures.most c.in_ok-waits.ensures.moved c.steps.invariant.registered
