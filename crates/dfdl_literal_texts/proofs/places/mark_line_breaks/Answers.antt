use Rattle.std.proofs.Common.{ap, ◌+◌, [], ◌∷◌}
use Rattle.dfdl_chars.specs.Encodings.{encoded_text}
use Rattle.dfdl_literal_texts.specs.Places.{at_front, front_of, some_front, some_marked}
use Rattle.dfdl_literal_texts.specs.Texts.{line_breaks, one_each}
use Rattle.dfdl_literal_texts.proofs.Marks.{or_three}
use Rattle.dfdl_literal_texts.proofs.places.mark_line_breaks.Goals as goal

pub returns-clause-marks : goal.returns-clause-marks
unfolding line_breaks
returns-clause-marks c = λ passes.
    or_three (some_marked c.mark_each.new.places passes) (some_marked c.mark.new.places passes) (some_marked c.args.places.now passes)
    (at_front c.pair_length.result (λ n. passes (c.args.at + n)))
    (at_front (front_of (encoded_text c.args.encoding (0xD ∷ 0xA ∷ [])) c.args.bytes.now) (λ n. passes (c.args.at + n)))
    (some_front c.args.encoding (one_each (0xA ∷ 0xD ∷ 0x85 ∷ 0x2028 ∷ [])) c.args.bytes.now (λ n. passes (c.args.at + n)))
    (c.mark_each.ensures.marks passes) (c.mark.ensures.marks passes)
    (ap (λ o. at_front o (λ n. passes (c.args.at + n))) c.pair_length.ensures.front)
