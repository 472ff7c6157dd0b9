use Rattle.std.proofs.Common.{◌≡◌, ℕ, ◌+◌, ◌-◌, ◌*◌, ◌/◌, ◌%◌, ◌<◌, get_or, sym, ap, ◌∙◌, arith}
use Rattle.std.proofs.lemmas.List.Edits.{length-between, get_or-between}
use Rattle.dfdl_bits.specs.Bits.{number_of}
use Rattle.dfdl_forms.specs.declared.order.BitOrder.TheVariants.{MostFirst}
use Rattle.dfdl_forms.specs.declared.order.ByteOrder.TheVariants.{Big}
use Rattle.dfdl_bits.proofs.Numbers.{big-in_byte}
use Rattle.dfdl_bits.proofs.Reading.{falling_first, falling_more}
use Rattle.dfdl_bits.proofs.number.falling.Goals as goal

pub returns-then-spanned-le8 : goal.returns-then-spanned-le8
returns-then-spanned-le8 c =
    c.from.ensures ∙ (c.cut.ensures.value ∙ sym (big-in_byte c.args.bytes.now c.args.first c.args.skip c.args.len (omega arith)))

pub loop-byte-init : goal.loop-byte-init
loop-byte-init c = c.from-number.ensures ∙ (c.cut-2.ensures.value ∙ falling_first c.args.bytes.now c.args.first c.args.skip c.requires.skip)

pub loop-byte-preserved : goal.loop-byte-preserved
loop-byte-preserved c =
    let last : ℕ = c.args.first + (c.args.skip + c.args.len) / 8 in
    let at : ℕ = c.args.first + 1 + c.loop-byte.byte-index in
    let k : ℕ = 8 * (c.loop-byte.byte-index + 1) - c.args.skip in
    let within : c.args.first + 1 + c.loop-byte.byte-index < last =
    omega (arith, length-between c.args.bytes.now (c.args.first + 1) last (omega arith)) in
    let byte : c.from-in-loop-byte.result ≡ get_or c.args.bytes.now at 0 =
    c.from-in-loop-byte.ensures ∙ get_or-between c.args.bytes.now (c.args.first + 1) last c.loop-byte.byte-index 0 within in
    let end : k + 8 ≡ 8 * (c.loop-byte.byte-index + 1 + 1) - c.args.skip = omega arith in
    falling_more c.args.bytes.now (8 * c.args.first + c.args.skip) at k 8 c.loop-byte.number c.from-in-loop-byte.result
    c.loop-byte.invariant (omega arith) (omega arith) (omega arith) (byte ∙ omega (arith, c.type_inv.bytes at))
    ∙ ap (λ (n : ℕ). number_of c.args.bytes.now (8 * c.args.first + c.args.skip) n Big MostFirst) end

pub returns : goal.returns
returns c =
    let last : ℕ = c.args.first + (c.args.skip + c.args.len) / 8 in
    let rest : ℕ = (c.args.skip + c.args.len) % 8 in
    let k : ℕ = 8 * (c.loop-byte.byte-index + 1) - c.args.skip in
    let over : c.loop-byte.byte-index ≡ last - (c.args.first + 1) =
    omega (arith, length-between c.args.bytes.now (c.args.first + 1) last (omega arith)) in
    let end : k + rest ≡ c.args.len = omega arith in
    falling_more c.args.bytes.now (8 * c.args.first + c.args.skip) last k rest c.loop-byte.number c.from-2.result
    c.loop-byte.invariant (omega arith) (omega arith) (omega arith) (c.from-2.ensures ∙ c.cut-3.ensures.value)
    ∙ ap (λ (n : ℕ). number_of c.args.bytes.now (8 * c.args.first + c.args.skip) n Big MostFirst) end
