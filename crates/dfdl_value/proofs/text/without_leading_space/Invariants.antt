use Rattle.std.proofs.Common.{◌≡◌, length}
use Rattle.dfdl_value.specs.Texts.{is_xml_space}
use Rattle.dfdl_lemmas.specs.Trimmed.{without_leading}
use Rattle.dfdl_value.proofs.text.without_leading_space.Given as goal

abbrev pub invariant-loop-rest : goal.invariant-loop-rest
invariant-loop-rest l = without_leading is_xml_space l.rest ≡ without_leading is_xml_space l.fn.text

abbrev pub decreases-loop-rest : goal.decreases-loop-rest
decreases-loop-rest l = length l.rest
