use Rattle.std.proofs.Common.{◌≡◌, length}
use Rattle.dfdl_text_string.specs.Padding.{is_trim}
use Rattle.dfdl_lemmas.specs.Trimmed.{without_leading}
use Rattle.dfdl_text_string.proofs.padding.behind_leading.Given as goal

abbrev pub invariant-loop-rest : goal.invariant-loop-rest
invariant-loop-rest l = without_leading (is_trim l.trim) l.rest ≡ without_leading (is_trim l.trim) l.fn.text

abbrev pub decreases-loop-rest : goal.decreases-loop-rest
decreases-loop-rest l = length l.rest
