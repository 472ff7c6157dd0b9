use Rattle.std.proofs.Common.{◌∙◌, sym}
use Rattle.dfdl_value.specs.Texts.{is_point}
use Rattle.dfdl_value.proofs.TextLemmas.{position-none}
use Rattle.dfdl_value.proofs.decimal.point_of.Goals as goal

pub returns-in-None-clause-place : goal.returns-in-None-clause-place
returns-in-None-clause-place c = position-none is_point c.args.text.now (sym c.first_point.ensures ∙ c.in-None.is)
