use Rattle.std.proofs.Common.{◌∙◌, sym, true, false}
use Rattle.dfdl_rows.proofs.Opened.{size_by}
use Rattle.dfdl_rows.proofs.framing.opened_size.Goals as goal

pub returns-then-not-has_openings-clause-size : goal.returns-then-not-has_openings-clause-size
returns-then-not-has_openings-clause-size c =
    c.framing_size.ensures.size ∙ sym (size_by c.args.framing c.args.separators false (sym c.has_openings.ensures ∙ c.if-not-has_openings.true))

pub returns-clause-size : goal.returns-clause-size
returns-clause-size c =
    c.instances_size.ensures.size ∙ sym (size_by c.args.framing c.args.separators true (sym c.has_openings.ensures ∙ c.if-not-has_openings.false))
