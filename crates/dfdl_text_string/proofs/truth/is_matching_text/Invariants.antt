use Rattle.std.proofs.Common.{◌≡◌, drop}
use Rattle.dfdl_text_string.specs.Truths.{is_same_text}
use Rattle.dfdl_text_string.proofs.truth.is_matching_text.Given as goal

abbrev pub invariant-loop-at : goal.invariant-loop-at
invariant-loop-at l = is_same_text l.fold (drop l.at l.text) (drop l.at l.chars) ≡ is_same_text l.fold l.text l.chars
