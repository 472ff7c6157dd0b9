use Rattle.std.proofs.Common.{◌≡◌, ℕ, ◌-◌, ◌^◌, ap, ◌∙◌, arith}
use Rattle.std.proofs.lemmas.Nat.Bits.{ones_shr}
use Rattle.dfdl_int_binary.proofs.signed.greatest.Goals as goal

pub returns : goal.returns
returns c =
    let size : 128 - (128 - c.args.bits) ≡ c.args.bits = omega arith in
    ones_shr 128 (128 - c.args.bits) (omega arith) ∙ ap (λ (e : ℕ). 2 ^ e - 1) size
