use Rattle.std.proofs.Common.{◌≡◌, ℕ, ◌*◌, ◌/◌, sym, ap, ◌∙◌, subst, add-zero, arith}
use Rattle.dfdl_bits.specs.Bits.{number_of}
use Rattle.dfdl_forms.specs.declared.order.BitOrder.TheVariants.{MostFirst, LeastFirst}
use Rattle.dfdl_forms.specs.declared.order.ByteOrder.TheVariants.{Little}
use Rattle.dfdl_bits.proofs.Numbers.{groups-whole}
use Rattle.dfdl_bits.proofs.number.whole.Goals as goal

pub returns : goal.returns
returns c =
    let bytes = c.args.bytes.now in
    let all : 8 * (c.args.len / 8) ≡ c.args.len = omega arith in
    c.rising.ensures
    ∙ ap (λ (b : ℕ). number_of bytes b c.args.len Little LeastFirst) (add-zero (8 * c.args.first))
    ∙ subst (λ (n : ℕ). number_of bytes (8 * c.args.first) n Little LeastFirst ≡ number_of bytes (8 * c.args.first) n Little MostFirst) all
    (sym (groups-whole bytes c.args.first (c.args.len / 8)))
