use Rattle.std.proofs.Common.{◌-◌}
use Rattle.dfdl_bits.specs.Window.{seen_at}
use Rattle.dfdl_grammar.specs.Framing.{aligned}
use Rattle.dfdl_grammar.specs.Leaves.{text_sought}
use Rattle.dfdl_leaves.proofs.PatternReadings.{pattern-read}
use Rattle.dfdl_leaves.proofs.patterns.read_pattern.Goals as goal

pub returns-clause-answers : goal.returns-clause-answers
returns-clause-answers g c =
    pattern-read (seen_at c.args.sight.now) c.args.form.now c.args.bit (text_sought c.args.form.now (aligned 8 c.args.bit) c.args.stop)
    c.read_sought.new.scratch.characters.items c.in_ok-text.text (c.read_sought.new.steps - c.args.steps.now) c.pattern_found.new.scratch
    c.in_ok-found.found c.in_ok-text.ensures.answers (c.in_ok-found.ensures.shown c.pattern_found.new.scratch)
