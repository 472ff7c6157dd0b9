use Rattle.std.proofs.Common.{◌≡◌, ℕ, ◌*◌, ◌/◌, ◌^◌, ◌≤◌, sym, ap, ◌∙◌, pow_mono, arith}
use Rattle.dfdl_bits.specs.Bits.{number_of}
use Rattle.dfdl_bits.proofs.Words.{whole_byte}
use Rattle.dfdl_bits.proofs.number.number_at_64.Goals as goal

pub returns-in-8-clause-number : goal.returns-in-8-clause-number
returns-in-8-clause-number c =
    let bytes = c.args.bytes.now in
    let first : ℕ = c.args.bit / 8 in
    let place : 8 * first ≡ c.args.bit = omega arith in
    rw c.in-8.is
    (c.from.ensures
    ∙ sym (whole_byte bytes first c.whole_order-order.result (omega (arith, c.type_inv.bytes first)))
    ∙ c.whole_order-order.ensures bytes first 1
    ∙ ap (λ b. number_of bytes b 8 c.args.bytes_by c.args.bits_by) place)

pub returns-in-16-clause-number : goal.returns-in-16-clause-number
returns-in-16-clause-number c =
    let bytes = c.args.bytes.now in
    let first : ℕ = c.args.bit / 8 in
    let place : 8 * first ≡ c.args.bit = omega arith in
    rw c.in-16.is
    (c.from-in-16.ensures ∙ c.load_16.ensures
    ∙ c.whole_order-order.ensures bytes first 2
    ∙ ap (λ b. number_of bytes b 16 c.args.bytes_by c.args.bits_by) place)

pub returns-in-32-clause-number : goal.returns-in-32-clause-number
returns-in-32-clause-number c =
    let bytes = c.args.bytes.now in
    let first : ℕ = c.args.bit / 8 in
    let place : 8 * first ≡ c.args.bit = omega arith in
    rw c.in-32.is
    (c.from-in-32.ensures ∙ c.load_32.ensures
    ∙ c.whole_order-order.ensures bytes first 4
    ∙ ap (λ b. number_of bytes b 32 c.args.bytes_by c.args.bits_by) place)

pub returns-in-64-clause-number : goal.returns-in-64-clause-number
returns-in-64-clause-number c =
    let bytes = c.args.bytes.now in
    let first : ℕ = c.args.bit / 8 in
    let place : 8 * first ≡ c.args.bit = omega arith in
    rw c.in-64.is
    (c.load_64.ensures
    ∙ c.whole_order-order.ensures bytes first 8
    ∙ ap (λ b. number_of bytes b 64 c.args.bytes_by c.args.bits_by) place)

pub overflow_cast-result : goal.overflow_cast-result
overflow_cast-result c =
    let most : 2 ^ c.args.len ≤ 2 ^ 64 = pow_mono c.requires.few in
    omega (arith, c.wide_at.ensures.below)
