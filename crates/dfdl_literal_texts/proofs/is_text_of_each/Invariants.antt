use Rattle.std.proofs.Common.{◌≡◌, length, drop}
use Rattle.dfdl_literal_texts.specs.Texts.{is_text_of_some}
use Rattle.dfdl_literal_texts.proofs.is_text_of_each.Given as goal

-- the literals that are left tell it
abbrev pub invariant-loop-at : goal.invariant-loop-at
invariant-loop-at l = record {
  length : length l.places ≡ length l.fn.places;
  left : is_text_of_some l.encoding l.fold (drop l.at l.literals) l.bytes ≡ is_text_of_some l.encoding l.fold l.literals l.bytes;
}
