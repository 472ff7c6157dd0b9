use Rattle.std.proofs.Common.{◌≡◌, ℕ, ◌+◌, ◌-◌, ◌*◌, ◌/◌, ◌%◌, ◌^◌, ◌<◌, ◌≤◌, set, length, length-set, pow_mono, bit_and, mod-eq_of_lt, arith}
use Rattle.std.proofs.lemmas.Nat.{and_mask, shr_below, pow_pos, mod_below}
use Rattle.dfdl_bits.proofs.Shifts.{and_low}
use Rattle.dfdl_bits.specs.Bits.{Puts}
use Rattle.dfdl_forms.specs.declared.order.BitOrder.TheVariants.{LeastFirst}
use Rattle.dfdl_forms.specs.declared.order.ByteOrder.TheVariants.{Little}
use Rattle.dfdl_bits.proofs.Putting.{rising_in_byte, rising_front, rising_byte, rising_step}
use Rattle.dfdl_bits.proofs.put.put_rising.Goals as goal

pub returns-then-spanned-le8 : goal.returns-then-spanned-le8
returns-then-spanned-le8 c =
    rw c.with_part.ensures
    (rising_in_byte c.args.bytes.now c.args.first c.args.skip c.args.len c.args.value (omega arith) (omega arith) c.requires.fits)

pub overflow_cast-part-2 : goal.overflow_cast-part-2
overflow_cast-part-2 c =
    let few : 8 - c.args.skip ≤ 8 = omega arith in
    let most : 2 ^ (8 - c.args.skip) ≤ 2 ^ 8 = pow_mono few in
    let below : c.args.value % 2 ^ (8 - c.args.skip) < 2 ^ (8 - c.args.skip) = mod_below c.args.value (2 ^ (8 - c.args.skip)) (pow_pos (8 - c.args.skip)) in
    rw (and_low 128 c.args.value (8 - c.args.skip) (omega arith)) (omega arith)

pub loop-at-init : goal.loop-at-init
loop-at-init c =
    let part : ℕ = c.args.value % 2 ^ (8 - c.args.skip) in
    record {
      puts =
          rw (c.with_part-2.ensures, and_low 128 c.args.value (8 - c.args.skip) (omega arith))
          (rising_in_byte c.args.bytes.now c.args.first c.args.skip (8 - c.args.skip) part (omega arith) (omega arith)
          (mod_below c.args.value (2 ^ (8 - c.args.skip)) (pow_pos (8 - c.args.skip))));
      put = omega arith;
    }

pub loop-at-preserved : goal.loop-at-preserved
loop-at-preserved c =
    let put : ℕ = c.loop-at.put in
    let told : 8 * c.args.first + c.args.skip + c.loop-at.put ≡ 8 * c.loop-at.at = c.loop-at.invariant.put in
    let masked : bit_and (c.args.value / 2 ^ put) 255 ≡ c.args.value / 2 ^ put % 2 ^ 8 = and_mask (c.args.value / 2 ^ put) 8 in
    let below : c.args.value / 2 ^ put % 2 ^ 8 < 2 ^ 8 = mod_below (c.args.value / 2 ^ put) (2 ^ 8) (pow_pos 8) in
    let here : c.loop-at.at < length c.loop-at.bytes = omega (arith, length-set {A = ℕ}) in
    record {
      puts =
          rw masked
          (rising_step c.args.bytes.now c.loop-at.bytes _ (8 * c.args.first + c.args.skip) c.loop-at.at put 8 c.args.value told
          c.loop-at.invariant.puts
          (rising_byte c.loop-at.bytes c.loop-at.at (c.args.value / 2 ^ put % 2 ^ 8) here below));
      put = omega arith;
    }

-- the bits of the last byte
high : (value put rest len : ℕ) → put + rest ≡ len → value < 2 ^ len → value / 2 ^ put < 2 ^ rest
high value put rest len all fits =
    let order : rest + put ≡ len = omega arith in
    shr_below value rest put (rw order fits)

pub overflow_cast-value-then-rest-gt0 : goal.overflow_cast-value-then-rest-gt0
overflow_cast-value-then-rest-gt0 c =
    let rest : ℕ = (c.args.skip + c.args.len) % 8 in
    let told : 8 * c.args.first + c.args.skip + c.loop-at.put ≡ 8 * c.loop-at.at = c.loop-at.invariant.put in
    let all : c.loop-at.put + rest ≡ c.args.len = omega arith in
    let few : rest ≤ 8 = omega arith in
    let most : 2 ^ rest ≤ 2 ^ 8 = pow_mono few in
    let below : c.args.value / 2 ^ c.loop-at.put < 2 ^ rest = high c.args.value c.loop-at.put rest c.args.len all c.requires.fits in
    omega arith

pub with_part-requires-then-rest-gt0-clause-fits : goal.with_part-requires-then-rest-gt0-clause-fits
with_part-requires-then-rest-gt0-clause-fits c =
    let told : 8 * c.args.first + c.args.skip + c.loop-at.put ≡ 8 * c.loop-at.at = c.loop-at.invariant.put in
    high c.args.value c.loop-at.put ((c.args.skip + c.args.len) % 8) c.args.len (omega arith) c.requires.fits

pub returns-then-rest-gt0 : goal.returns-then-rest-gt0
returns-then-rest-gt0 c =
    let last : ℕ = c.args.first + (c.args.skip + c.args.len) / 8 in
    let rest : ℕ = (c.args.skip + c.args.len) % 8 in
    let put : ℕ = c.loop-at.put in
    let value : ℕ = c.args.value in
    let told : 8 * c.args.first + c.args.skip + c.loop-at.put ≡ 8 * c.loop-at.at = c.loop-at.invariant.put in
    let over : c.loop-at.at ≡ last = omega arith in
    let size : put + rest ≡ c.args.len = omega arith in
    let here : last < length c.loop-at.bytes = omega (arith, length-set {A = ℕ}) in
    let below : value / 2 ^ put < 2 ^ rest = high value put rest c.args.len size c.requires.fits in
    let whole : value / 2 ^ put % 2 ^ rest ≡ value / 2 ^ put = mod-eq_of_lt below in
    let kept : value % 2 ^ c.args.len ≡ value = mod-eq_of_lt c.requires.fits in
    let all : Puts Little LeastFirst c.args.bytes.now (set c.loop-at.bytes last c.with_part-then-rest-gt0.result) (8 * c.args.first + c.args.skip) (put + rest) (value % 2 ^ (put + rest)) =
    rising_step c.args.bytes.now c.loop-at.bytes _ (8 * c.args.first + c.args.skip) last put rest value (omega arith)
    c.loop-at.invariant.puts
    (rw (c.with_part-then-rest-gt0.ensures, whole) (rising_front c.loop-at.bytes last rest (value / 2 ^ put) here (omega arith) below)) in
    rw (size, kept) at all

pub returns-else-rest-gt0 : goal.returns-else-rest-gt0
returns-else-rest-gt0 c =
    let told : 8 * c.args.first + c.args.skip + c.loop-at.put ≡ 8 * c.loop-at.at = c.loop-at.invariant.put in
    let size : c.loop-at.put ≡ c.args.len = omega arith in
    let kept : c.args.value % 2 ^ c.args.len ≡ c.args.value = mod-eq_of_lt c.requires.fits in
    rw (size, kept) at c.loop-at.invariant.puts
