use Rattle.std.proofs.Common.{◌≡◌, ℕ, suc, ◌+◌, ◌-◌, ◌/◌, ◌∙◌, ap, refl, arith}
use Rattle.dfdl_bits.specs.Window.{seen_at}
use Rattle.dfdl_escapes.specs.Contents.{NoStep}
use Rattle.dfdl_escapes.specs.Reads.{left_of}
use Rattle.dfdl_escapes.proofs.ReadOn.{goes-on, halts-so, passed-on, read-whole, run-on, runs-out}
use Rattle.dfdl_escapes.proofs.reading.read_content.Goals as goal

pub returns-then-left-eq0-clause-answers : goal.returns-then-left-eq0-clause-answers
returns-then-left-eq0-clause-answers g c = λ opened test holds decides.
    let scan = c.args.scan.now in
    let look = seen_at c.args.window.now in
    read-whole look test opened scan.form c.args.into.now.items c.steps.into.items scan.at c.steps.scan.at c.args.steps.now c.steps.steps _
    (runs-out look test opened scan.form _ c.steps.left c.steps.into.items c.steps.scan.at c.steps.steps c.steps.far
    (c.steps.invariant.whole opened test holds decides) c.if-left-eq0.true)

pub steps-init : goal.steps-init
steps-init g c =
    let scan = c.args.scan.now in
    let count : suc (scan.form.stop / 8 - scan.at.byte) ≡ c.saturating_sub-left.result + 1 = omega (arith, c.saturating_sub-left.ensures) in
    record {
      whole = λ opened test holds decides.
          ap (λ (n : ℕ). left_of (seen_at c.args.window.now) test opened scan.form n c.args.into.now.items scan.at c.args.steps.now 0) count;
      passed = λ opened test holds decides. NoStep;
      form = refl;
      behind = omega arith;
      come = omega arith;
      steps = omega arith;
    }

pub pass_run-requires-clause-first : goal.pass_run-requires-clause-first
pass_run-requires-clause-first g c = λ opened opens. record {
  none = c.first_bytes-first.ensures.none opened opens;
  looks_are = λ test decides. c.first_bytes-first.ensures.looks opened test opens decides;
}

pub steps-preserved : goal.steps-preserved
steps-preserved g c =
    let scan = c.args.scan.now in
    let look = seen_at c.args.window.now in
    let more : ℕ = c.steps.left - (c.in_ok-run.run'.count + 1) in
    let counts : c.steps.left ≡ c.in_ok-run.run'.count + suc more = omega (arith, c.if-left-eq0.false, c.in_ok-run.ensures.count) in
    let same : c.pass_run.new.scan.form ≡ scan.form = c.in_ok-run.ensures.form ∙ c.steps.invariant.form in
    record {
      whole = λ opened test holds decides.
          goes-on look test opened scan.form _ c.pass_run.new.scan.form (suc more) more c.pass_run.new.into.items c.take_step.new.into.items
          c.pass_run.new.scan.at c.take_step.new.scan.at c.pass_run.new.steps c.take_step.new.steps c.in_ok-run.run'.far c.in_ok-seen.field-0
          (run-on look test opened scan.form _ c.steps.scan.form c.steps.left c.in_ok-run.run'.count more c.steps.into.items c.pass_run.new.into.items
          c.steps.scan.at c.pass_run.new.scan.at c.steps.steps c.pass_run.new.steps c.steps.far c.in_ok-run.run'.far
          (c.steps.invariant.whole opened test holds decides) c.steps.invariant.form counts (c.in_ok-run.ensures.turns opened test (suc more) holds decides))
          same refl (c.in_ok-seen.ensures.turns opened test more holds decides) c.in-Goes.seen c.in-Goes.is;
      passed = λ opened test holds decides.
          passed-on look test opened scan.form c.pass_run.new.scan.form scan.at c.args.into.now.items c.pass_run.new.into.items c.take_step.new.into.items
          c.pass_run.new.scan.at c.take_step.new.scan.at same
          (passed-on look test opened scan.form c.steps.scan.form scan.at c.args.into.now.items c.steps.into.items c.pass_run.new.into.items
          c.steps.scan.at c.pass_run.new.scan.at c.steps.invariant.form (c.steps.invariant.passed opened test holds decides)
          (λ begin before. c.in_ok-run.ensures.passed opened test begin before holds decides))
          (λ begin before. c.in_ok-seen.ensures.passed opened test begin before holds decides);
      form = c.in_ok-seen.ensures.form ∙ same;
      behind = omega (arith, c.in_ok-seen.ensures.behind, c.in_ok-run.ensures.behind, c.steps.invariant.behind);
      come = omega (arith, c.in_ok-seen.ensures.come, c.in_ok-run.ensures.come, c.steps.invariant.come);
      steps = omega (arith, c.in_ok-seen.ensures.steps, c.in_ok-run.ensures.steps, c.steps.invariant.steps);
    }

pub returns-in-Halts-clause-answers : goal.returns-in-Halts-clause-answers
returns-in-Halts-clause-answers g c = λ opened test holds decides.
    let scan = c.args.scan.now in
    let look = seen_at c.args.window.now in
    let more : ℕ = c.steps.left - (c.in_ok-run.run'.count + 1) in
    let counts : c.steps.left ≡ c.in_ok-run.run'.count + suc more = omega (arith, c.if-left-eq0.false, c.in_ok-run.ensures.count) in
    let same : c.pass_run.new.scan.form ≡ scan.form = c.in_ok-run.ensures.form ∙ c.steps.invariant.form in
    read-whole look test opened scan.form c.args.into.now.items c.take_step.new.into.items scan.at c.take_step.new.scan.at c.args.steps.now
    c.take_step.new.steps c.in-Halts.read
    (halts-so look test opened scan.form _ c.pass_run.new.scan.form (suc more) more c.pass_run.new.into.items c.take_step.new.into.items
    c.pass_run.new.scan.at c.take_step.new.scan.at c.pass_run.new.steps c.take_step.new.steps c.in_ok-run.run'.far c.in_ok-seen.field-0
    (run-on look test opened scan.form _ c.steps.scan.form c.steps.left c.in_ok-run.run'.count more c.steps.into.items c.pass_run.new.into.items
    c.steps.scan.at c.pass_run.new.scan.at c.steps.steps c.pass_run.new.steps c.steps.far c.in_ok-run.run'.far
    (c.steps.invariant.whole opened test holds decides) c.steps.invariant.form counts (c.in_ok-run.ensures.turns opened test (suc more) holds decides))
    same refl (c.in_ok-seen.ensures.turns opened test more holds decides) c.in-Halts.read c.in-Halts.is)

pub returns-in-Halts-clause-passed : goal.returns-in-Halts-clause-passed
returns-in-Halts-clause-passed g c = λ opened test holds decides.
    let scan = c.args.scan.now in
    let look = seen_at c.args.window.now in
    passed-on look test opened scan.form c.pass_run.new.scan.form scan.at c.args.into.now.items c.pass_run.new.into.items c.take_step.new.into.items
    c.pass_run.new.scan.at c.take_step.new.scan.at (c.in_ok-run.ensures.form ∙ c.steps.invariant.form)
    (passed-on look test opened scan.form c.steps.scan.form scan.at c.args.into.now.items c.steps.into.items c.pass_run.new.into.items
    c.steps.scan.at c.pass_run.new.scan.at c.steps.invariant.form (c.steps.invariant.passed opened test holds decides)
    (λ begin before. c.in_ok-run.ensures.passed opened test begin before holds decides))
    (λ begin before. c.in_ok-seen.ensures.passed opened test begin before holds decides)
