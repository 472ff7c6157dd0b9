use Rattle.std.proofs.Common.{◌≡◌, ℕ, ◌+◌, ◌-◌, ◌*◌, ◌/◌, ◌%◌, ◌^◌, ◌<◌, ◌≤◌, set, bit_and, refl, ◌∙◌, length, length-set, pow_mono, zero-add, div-one, arith}
use Rattle.std.proofs.lemmas.Nat.{and_mask, shr_below, pow_pos, mod_below}
use Rattle.dfdl_bits.proofs.Shifts.{and_low}
use Rattle.dfdl_bits.specs.Bits.{Puts}
use Rattle.dfdl_forms.specs.declared.order.BitOrder.TheVariants.{MostFirst}
use Rattle.dfdl_forms.specs.declared.order.ByteOrder.TheVariants.{Big}
use Rattle.dfdl_bits.proofs.Putting.{falling_in_byte, falling_front, falling_byte, falling_step}
use Rattle.dfdl_bits.proofs.put.put_falling.Goals as goal

pub returns-then-spanned-le8 : goal.returns-then-spanned-le8
returns-then-spanned-le8 c =
    let bytes = c.args.bytes.now in
    rw c.with_part.ensures (falling_in_byte bytes c.args.first c.args.skip c.args.len c.args.value (omega arith) (omega arith) c.requires.fits)

-- the bits of the first byte
high : (value skip len : ℕ) → skip < 8 → 8 < skip + len → value < 2 ^ len → value / 2 ^ (skip + len - 8) < 2 ^ (8 - skip)
high value skip len few many fits =
    let all : 8 - skip + (skip + len - 8) ≡ len = omega arith in
    shr_below value (8 - skip) (skip + len - 8) (rw all fits)

pub overflow_cast-value-2 : goal.overflow_cast-value-2
overflow_cast-value-2 c =
    let below : c.args.value / 2 ^ (c.args.skip + c.args.len - 8) < 2 ^ (8 - c.args.skip) =
    high c.args.value c.args.skip c.args.len c.requires.skip (omega arith) c.requires.fits in
    let few : 8 - c.args.skip ≤ 8 = omega arith in
    let most : 2 ^ (8 - c.args.skip) ≤ 2 ^ 8 = pow_mono few in
    omega arith

pub with_part-requires-2-clause-fits : goal.with_part-requires-2-clause-fits
with_part-requires-2-clause-fits c = high c.args.value c.args.skip c.args.len c.requires.skip (omega arith) c.requires.fits

pub loop-at-init : goal.loop-at-init
loop-at-init c =
    let bytes = c.args.bytes.now in
    let part : ℕ = c.args.value / 2 ^ (c.args.skip + c.args.len - 8) in
    let low : 8 - (c.args.skip + (8 - c.args.skip)) ≡ 0 = omega arith in
    let size : c.args.len - (c.args.skip + c.args.len - 8) ≡ 8 - c.args.skip = omega arith in
    record {
      puts =
          rw (size, c.with_part-2.ensures)
          (rw low at (falling_in_byte bytes c.args.first c.args.skip (8 - c.args.skip) part (omega arith) (omega arith)
          (high c.args.value c.args.skip c.args.len c.requires.skip (omega arith) c.requires.fits)));
      left = omega arith;
    }

pub loop-at-preserved : goal.loop-at-preserved
loop-at-preserved c =
    let left : ℕ = c.loop-at.left - 8 in
    let told : c.loop-at.left + 8 * c.loop-at.at ≡ 8 * c.args.first + c.args.skip + c.args.len = c.loop-at.invariant.left in
    let size : c.args.len - c.loop-at.left + 8 ≡ c.args.len - left = omega arith in
    let before : c.loop-at.left ≡ left + 8 = omega arith in
    let masked : bit_and (c.args.value / 2 ^ left) 255 ≡ c.args.value / 2 ^ left % 2 ^ 8 = and_mask (c.args.value / 2 ^ left) 8 in
    let below : c.args.value / 2 ^ left % 2 ^ 8 < 2 ^ 8 = mod_below (c.args.value / 2 ^ left) (2 ^ 8) (pow_pos 8) in
    let here : c.loop-at.at < length c.loop-at.bytes = omega (arith, length-set {A = ℕ}) in
    record {
      puts =
          rw (← size, masked)
          (falling_step c.args.bytes.now c.loop-at.bytes _ (8 * c.args.first + c.args.skip) c.loop-at.at (c.args.len - c.loop-at.left) 8 c.args.value left (omega arith)
          (rw (← before) c.loop-at.invariant.puts)
          (falling_byte c.loop-at.bytes c.loop-at.at (c.args.value / 2 ^ left % 2 ^ 8) here below));
      left = omega arith;
    }

pub returns-then-left-gt0 : goal.returns-then-left-gt0
returns-then-left-gt0 c =
    let last : ℕ = c.args.first + (c.args.skip + c.args.len) / 8 in
    let left : ℕ = c.loop-at.left in
    let value : ℕ = c.args.value in
    let told : c.loop-at.left + 8 * c.loop-at.at ≡ 8 * c.args.first + c.args.skip + c.args.len = c.loop-at.invariant.left in
    let over : c.loop-at.at ≡ last = omega arith in
    let size : c.args.len - left + left ≡ c.args.len = omega arith in
    let here : last < length c.loop-at.bytes = omega (arith, length-set {A = ℕ}) in
    let masked : bit_and value (1 * 2 ^ left % 2 ^ 128 - 1) ≡ value / 2 ^ 0 % 2 ^ left = and_low 128 value left (omega arith) ∙ rw div-one refl in
    let below : value / 2 ^ 0 % 2 ^ left < 2 ^ left = mod_below (value / 2 ^ 0) (2 ^ left) (pow_pos left) in
    let all : Puts Big MostFirst c.args.bytes.now (set c.loop-at.bytes last c.with_part-then-left-gt0.result) (8 * c.args.first + c.args.skip) (c.args.len - left + left) (value / 2 ^ 0) =
    rw (c.with_part-then-left-gt0.ensures, masked)
    (falling_step c.args.bytes.now c.loop-at.bytes _ (8 * c.args.first + c.args.skip) last (c.args.len - left) left value 0 (omega arith)
    (rw zero-add c.loop-at.invariant.puts)
    (falling_front c.loop-at.bytes last left (value / 2 ^ 0 % 2 ^ left) here (omega arith) below)) in
    rw (size, div-one) at all
