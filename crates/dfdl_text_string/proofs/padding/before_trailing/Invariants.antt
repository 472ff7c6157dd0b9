use Rattle.std.proofs.Common.{◌≡◌, ◌≤◌, length, take}
use Rattle.dfdl_text_string.specs.Padding.{is_trim}
use Rattle.dfdl_lemmas.specs.Trimmed.{without_trailing}
use Rattle.dfdl_text_string.proofs.padding.before_trailing.Given as goal

abbrev pub invariant-loop-end : goal.invariant-loop-end
invariant-loop-end l = record {
  within : l.end ≤ length l.text;
  same : without_trailing (is_trim l.trim) (take l.end l.text) ≡ without_trailing (is_trim l.trim) l.text;
}

abbrev pub decreases-loop-end : goal.decreases-loop-end
decreases-loop-end l = l.end
