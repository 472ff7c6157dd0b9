use Rattle.std.proofs.Common.{◌≡◌, drop}
use Rattle.dfdl_text_string.specs.Truths.{is_among}
use Rattle.dfdl_text_string.proofs.truth.is_any.Given as goal

abbrev pub invariant-loop-at : goal.invariant-loop-at
invariant-loop-at l = is_among l.fold (drop l.at l.texts) l.chars ≡ is_among l.fold l.texts l.chars
