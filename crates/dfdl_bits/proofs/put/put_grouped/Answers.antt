use Rattle.std.proofs.Common.{◌≡◌, ℕ, ◌+◌, ◌*◌, ◌/◌, ◌%◌, ◌^◌, ◌<◌, bit_and, mod-eq_of_lt, arith}
use Rattle.std.proofs.lemmas.Nat.{and_mask, shr_below}
use Rattle.dfdl_bits.specs.Bits.{Puts}
use Rattle.dfdl_forms.specs.declared.order.BitOrder.TheVariants.{MostFirst}
use Rattle.dfdl_forms.specs.declared.order.ByteOrder.TheVariants.{Little}
use Rattle.dfdl_bits.proofs.Putting.{puts_none, grouped_step}
use Rattle.dfdl_bits.proofs.put.put_grouped.Goals as goal

pub loop-group-init : goal.loop-group-init
loop-group-init c =
    let none : c.args.value % 1 ≡ 0 = omega arith in
    rw none (puts_none Little MostFirst c.args.bytes.now (8 * c.args.first + c.args.skip))

pub loop-group-preserved : goal.loop-group-preserved
loop-group-preserved c =
    let b : ℕ = 8 * c.args.first + c.args.skip in
    let g : ℕ = c.loop-group.group in
    let value : ℕ = c.args.value in
    let place : 8 * (c.args.first + g) + c.args.skip ≡ b + 8 * g = omega arith in
    let size : 8 * g + 8 ≡ 8 * (g + 1) = omega arith in
    let masked : bit_and (value / 2 ^ (8 * g)) 255 ≡ value / 2 ^ (8 * g) % 2 ^ 8 = and_mask (value / 2 ^ (8 * g)) 8 in
    rw (← size)
    (grouped_step c.args.bytes.now c.loop-group.bytes c.put_falling.new.bytes b g 8 value (omega arith) c.loop-group.invariant
    (rw (place, masked) at c.put_falling.ensures))

-- the bits of the last group
high : (value len : ℕ) → value < 2 ^ len → value / 2 ^ (8 * (len / 8)) < 2 ^ (len % 8)
high value len fits =
    let all : len % 8 + 8 * (len / 8) ≡ len = omega arith in
    shr_below value (len % 8) (8 * (len / 8)) (rw all fits)

pub put_falling-requires-then-rest-gt0-clause-fits : goal.put_falling-requires-then-rest-gt0-clause-fits
put_falling-requires-then-rest-gt0-clause-fits c = high c.args.value c.args.len c.requires.fits

pub returns-then-rest-gt0 : goal.returns-then-rest-gt0
returns-then-rest-gt0 c =
    let b : ℕ = 8 * c.args.first + c.args.skip in
    let groups : ℕ = c.args.len / 8 in
    let rest : ℕ = c.args.len % 8 in
    let value : ℕ = c.args.value in
    let over : c.loop-group.group ≡ groups = omega arith in
    let place : 8 * (c.args.first + groups) + c.args.skip ≡ b + 8 * groups = omega arith in
    let size : 8 * groups + rest ≡ c.args.len = omega arith in
    let whole : value / 2 ^ (8 * groups) % 2 ^ rest ≡ value / 2 ^ (8 * groups) = mod-eq_of_lt (high value c.args.len c.requires.fits) in
    let kept : value % 2 ^ c.args.len ≡ value = mod-eq_of_lt c.requires.fits in
    let all : Puts Little MostFirst c.args.bytes.now c.put_falling-then-rest-gt0.new.bytes b (8 * groups + rest) (value % 2 ^ (8 * groups + rest)) =
    grouped_step c.args.bytes.now c.loop-group.bytes c.put_falling-then-rest-gt0.new.bytes b groups rest value (omega arith)
    (rw over at c.loop-group.invariant)
    (rw whole (rw place at c.put_falling-then-rest-gt0.ensures)) in
    rw (size, kept) at all

pub returns-else-rest-gt0 : goal.returns-else-rest-gt0
returns-else-rest-gt0 c =
    let size : 8 * c.loop-group.group ≡ c.args.len = omega arith in
    let kept : c.args.value % 2 ^ c.args.len ≡ c.args.value = mod-eq_of_lt c.requires.fits in
    rw (size, kept) at c.loop-group.invariant
