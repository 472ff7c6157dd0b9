use Rattle.std.proofs.Common.{◌-◌}
use Rattle.dfdl_bits.specs.Window.{seen_at}
use Rattle.dfdl_leaves.proofs.PatternReadings.{text-read}
use Rattle.dfdl_leaves.proofs.patterns.read_sought.Goals as goal

pub returns-clause-answers : goal.returns-clause-answers
returns-clause-answers g c =
    text-read (seen_at c.args.sight.now) c.args.form.now c.args.stop c.aligned-first.result c.min-last.result c.args.bit
    c.aligned-first.ensures c.min-last.ensures c.read_text.new.into.items c.in_ok-text.text
    (c.read_text.new.steps - c.args.steps.now) c.in_ok-text.ensures.answers
