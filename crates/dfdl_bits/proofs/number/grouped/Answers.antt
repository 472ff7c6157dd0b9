use Rattle.std.proofs.Common.{◌≡◌, ℕ, ◌+◌, ◌*◌, ◌/◌, ◌%◌, sym, ap, ◌∙◌, arith}
use Rattle.dfdl_bits.specs.Bits.{number_of}
use Rattle.dfdl_forms.specs.declared.order.BitOrder.TheVariants.{MostFirst}
use Rattle.dfdl_forms.specs.declared.order.ByteOrder.TheVariants.{Big, Little}
use Rattle.dfdl_bits.proofs.Numbers.{number_of-none}
use Rattle.dfdl_bits.proofs.Reading.{grouped_more}
use Rattle.dfdl_bits.proofs.number.grouped.Goals as goal

pub loop-group-init : goal.loop-group-init
loop-group-init c = sym (number_of-none c.args.bytes.now (8 * c.args.first + c.args.skip) Little MostFirst)

pub loop-group-preserved : goal.loop-group-preserved
loop-group-preserved c =
    let b : ℕ = 8 * c.args.first + c.args.skip in
    let place : 8 * (c.args.first + c.loop-group.group) + c.args.skip ≡ b + 8 * c.loop-group.group = omega arith in
    let end : 8 * c.loop-group.group + 8 ≡ 8 * (c.loop-group.group + 1) = omega arith in
    grouped_more c.args.bytes.now b c.loop-group.group 8 c.loop-group.number c.falling.result c.loop-group.invariant (omega arith) (omega arith)
    (c.falling.ensures ∙ ap (λ (at : ℕ). number_of c.args.bytes.now at 8 Big MostFirst) place)
    ∙ ap (λ (n : ℕ). number_of c.args.bytes.now b n Little MostFirst) end

pub returns : goal.returns
returns c =
    let b : ℕ = 8 * c.args.first + c.args.skip in
    let groups : ℕ = c.args.len / 8 in
    let rest : ℕ = c.args.len % 8 in
    let over : c.loop-group.group ≡ groups = omega arith in
    let place : 8 * (c.args.first + groups) + c.args.skip ≡ b + 8 * groups = omega arith in
    let end : 8 * groups + rest ≡ c.args.len = omega arith in
    grouped_more c.args.bytes.now b groups rest c.loop-group.number c.falling-2.result
    (c.loop-group.invariant ∙ ap (λ (g : ℕ). number_of c.args.bytes.now b (8 * g) Little MostFirst) over) (omega arith) (omega arith)
    (c.falling-2.ensures ∙ ap (λ (at : ℕ). number_of c.args.bytes.now at rest Big MostFirst) place)
    ∙ ap (λ (n : ℕ). number_of c.args.bytes.now b n Little MostFirst) end
