use Rattle.std.proofs.Common.{◌∙◌, sym}
use Rattle.dfdl_value.specs.Texts.{is_xml_space}
use Rattle.dfdl_lemmas.proofs.TrimmedLists.{without_trailing-end_passes, without_trailing-end_stops}
use Rattle.dfdl_value.proofs.text.without_trailing_space.Goals as goal

pub loop-rest-preserved : goal.loop-rest-preserved
loop-rest-preserved c =
    without_trailing-end_passes is_xml_space c.loop-rest.rest.now c.in-len1-up.len_at_least (sym c.is_space.ensures ∙ c.if-not-is_space.false) ∙ c.loop-rest.invariant

pub returns-then-not-is_space : goal.returns-then-not-is_space
returns-then-not-is_space c =
    sym (without_trailing-end_stops is_xml_space c.loop-rest.rest.now c.in-len1-up.len_at_least (sym c.is_space.ensures ∙ c.if-not-is_space.true)) ∙ c.loop-rest.invariant
