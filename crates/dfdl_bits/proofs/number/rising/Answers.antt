use Rattle.std.proofs.Common.{◌≡◌, ℕ, ◌+◌, ◌-◌, ◌*◌, ◌/◌, ◌%◌, ◌<◌, get_or, sym, ap, ◌∙◌, arith}
use Rattle.std.proofs.lemmas.List.Edits.{length-between, get_or-between}
use Rattle.dfdl_bits.specs.Bits.{number_of}
use Rattle.dfdl_forms.specs.declared.order.BitOrder.TheVariants.{LeastFirst}
use Rattle.dfdl_forms.specs.declared.order.ByteOrder.TheVariants.{Little}
use Rattle.dfdl_bits.proofs.Numbers.{least-in_byte}
use Rattle.dfdl_bits.proofs.Reading.{rising_more}
use Rattle.dfdl_bits.proofs.number.rising.Goals as goal

pub returns-then-spanned-le8 : goal.returns-then-spanned-le8
returns-then-spanned-le8 c =
    c.from.ensures ∙ (c.cut.ensures.value ∙ sym (least-in_byte c.args.bytes.now c.args.first c.args.skip c.args.len (omega arith)))

pub loop-byte-init : goal.loop-byte-init
loop-byte-init c = record {
  number =
      c.from-number.ensures
      ∙ (c.cut-2.ensures.value ∙ sym (least-in_byte c.args.bytes.now c.args.first c.args.skip (8 - c.args.skip) (omega arith)));
  read = omega arith;
}

pub loop-byte-preserved : goal.loop-byte-preserved
loop-byte-preserved c =
    let last : ℕ = c.args.first + (c.args.skip + c.args.len) / 8 in
    let at : ℕ = c.args.first + 1 + c.loop-byte.byte-index in
    let read : c.loop-byte.read + c.args.skip ≡ 8 * (c.loop-byte.byte-index + 1) = c.loop-byte.invariant.read in
    let within : c.args.first + 1 + c.loop-byte.byte-index < last =
    omega (arith, length-between c.args.bytes.now (c.args.first + 1) last (omega arith)) in
    let byte : c.from-in-loop-byte.result ≡ get_or c.args.bytes.now at 0 =
    c.from-in-loop-byte.ensures ∙ get_or-between c.args.bytes.now (c.args.first + 1) last c.loop-byte.byte-index 0 within in
    record {
      number = rising_more c.args.bytes.now (8 * c.args.first + c.args.skip) at c.loop-byte.read 8 c.loop-byte.number c.from-in-loop-byte.result
          c.loop-byte.invariant.number (omega arith) (omega arith) (omega arith) (byte ∙ omega (arith, c.type_inv.bytes at));
      read = omega arith;
    }

pub returns : goal.returns
returns c =
    let last : ℕ = c.args.first + (c.args.skip + c.args.len) / 8 in
    let rest : ℕ = (c.args.skip + c.args.len) % 8 in
    let read : c.loop-byte.read + c.args.skip ≡ 8 * (c.loop-byte.byte-index + 1) = c.loop-byte.invariant.read in
    let over : c.loop-byte.byte-index ≡ last - (c.args.first + 1) =
    omega (arith, length-between c.args.bytes.now (c.args.first + 1) last (omega arith)) in
    let end : c.loop-byte.read + rest ≡ c.args.len = omega arith in
    rising_more c.args.bytes.now (8 * c.args.first + c.args.skip) last c.loop-byte.read rest c.loop-byte.number c.from-2.result
    c.loop-byte.invariant.number (omega arith) (omega arith) (omega arith) (c.from-2.ensures ∙ c.cut-3.ensures.value)
    ∙ ap (λ (n : ℕ). number_of c.args.bytes.now (8 * c.args.first + c.args.skip) n Little LeastFirst) end
