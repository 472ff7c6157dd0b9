use Rattle.std.proofs.Common.{◌∙◌, sym}
use Rattle.dfdl_rows.proofs.Pushed.{none_size, some_size}
use Rattle.dfdl_rows.proofs.framing.framing_size.Goals as goal

pub returns-then-not-has_framing-clause-size : goal.returns-then-not-has_framing-clause-size
returns-then-not-has_framing-clause-size c = none_size c.args.framing c.args.separators (sym c.has_framing.ensures ∙ c.if-not-has_framing.true)

pub returns-clause-size : goal.returns-clause-size
returns-clause-size c =
    some_size c.args.framing c.args.separators c.size_before.result c.size_behind.result (sym c.has_framing.ensures ∙ c.if-not-has_framing.false)
    c.size_before.ensures.size c.size_behind.ensures.size
