use Rattle.std.proofs.Common.{◌≡◌, ◌+◌, ◌∙◌, ap, length, arith}
use Rattle.dfdl_bits.specs.Window.{seen_at}
use Rattle.dfdl_escapes.specs.Runs.{looks_of}
use Rattle.dfdl_escapes.proofs.Running.{run_comes, run_passed, run_turns}
use Rattle.dfdl_escapes.proofs.run.pass_run.Goals as goal

pub returns-clause-turns : goal.returns-clause-turns
returns-clause-turns g c = λ opened test more opens decides.
    let scan = c.args.scan.now in
    let counted : c.count_sought.new.steps ≡ c.args.steps.now + looks_of c.is_sought.result (length c.run_outside-run.result.now) =
    omega (arith, c.count_sought.ensures, c.run_outside-run.ensures.cost) in
    run_turns c.other_bytes_begin_no_text.ensures (seen_at c.args.window.now) test opened decides scan.form scan.at.mode c.args.first.now
    (c.requires.first opened opens) c.in-Some.stops c.in-Some.ensures c.run_outside-run.result.now scan.at.byte c.min-most.result
    c.run_outside-run.ensures.seen c.run_outside-run.ensures.bytes c.run_outside-run.ensures.outside c.run_outside-run.ensures.few
    (omega (arith, c.min-most.ensures, c.saturating_sub.ensures)) more c.args.steps.now c.count_sought.new.steps c.args.far c.far_behind.result
    c.args.into.now.items c.put_given.new.into.items c.in_ok-put_given.ensures
    (counted ∙ ap (λ b. c.args.steps.now + looks_of b (length c.run_outside-run.result.now)) c.is_sought.ensures) c.far_behind.ensures

pub returns-clause-passed : goal.returns-clause-passed
returns-clause-passed g c = λ opened test begin before opens decides steps.
    let scan = c.args.scan.now in
    run_passed c.other_bytes_begin_no_text.ensures (seen_at c.args.window.now) test opened decides scan.form scan.at.mode c.args.first.now
    (c.requires.first opened opens) c.in-Some.stops c.in-Some.ensures c.run_outside-run.result.now scan.at.byte c.min-most.result
    c.run_outside-run.ensures.seen c.run_outside-run.ensures.bytes c.run_outside-run.ensures.outside c.run_outside-run.ensures.few
    (omega (arith, c.min-most.ensures, c.saturating_sub.ensures)) begin before c.args.into.now.items c.put_given.new.into.items
    c.in_ok-put_given.ensures steps

pub returns-clause-come : goal.returns-clause-come
returns-clause-come g c =
    run_comes c.args.window.now c.run_outside-run.result.now c.args.scan.now.at.byte c.requires.base c.run_outside-run.ensures.seen
