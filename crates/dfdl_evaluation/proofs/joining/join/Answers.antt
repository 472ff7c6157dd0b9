use Rattle.std.proofs.Common.{ℕ, ◌+◌, ◌*◌, ◌/◌, ◌≤◌, List, ap, ◌∙◌, arith}
use Rattle.dfdl_splice.specs.Bits.{bits_from}
use Rattle.dfdl_evaluation.proofs.Filled.{joined_bits}
use Rattle.dfdl_evaluation.specs.Filling.{resized}
use Rattle.dfdl_evaluation.proofs.joining.join.Goals as goal

pub returns-clause-bits : goal.returns-clause-bits
returns-clause-bits c =
    let piece = c.args.piece.now in
    let within : piece.bits ≤ 8 * ((piece.bits + piece.fill + 7) / 8) = omega arith in
    ap (λ (bytes : List ℕ). bits_from c.args.order bytes 0 (piece.bits + piece.fill)) c.from_vec.ensures
    ∙ joined_bits c.args.order piece.bytes c.in_ok-bytes.bytes.items c.put_fill.new.bytes.items ((piece.bits + piece.fill + 7) / 8) piece.bits piece.fill_byte
    piece.fill_at piece.fill within (c.in_ok-bytes.ensures ∙ ap (resized ((piece.bits + piece.fill + 7) / 8)) c.as_slice.ensures) c.put_fill.ensures.fills
