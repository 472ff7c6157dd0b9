use Rattle.std.proofs.Common.{◌≡◌, ℕ, ◌*◌, ◌/◌, subst, sym}
use Rattle.dfdl_bits.specs.Bits.{Puts}
use Rattle.dfdl_forms.specs.declared.order.BitOrder.TheVariants.{MostFirst, LeastFirst}
use Rattle.dfdl_forms.specs.declared.order.ByteOrder.TheVariants.{Little}
use Rattle.dfdl_bits.proofs.Stores.{least_puts, word_bytes}
use Rattle.dfdl_bits.proofs.put.put_word.Goals as goal

pub returns-in-LeastFirst : goal.returns-in-LeastFirst
returns-in-LeastFirst c =
    let old = c.args.bytes.now in
    let new = c.store-in-LeastFirst.new.bytes in
    let all : c.args.len ≡ 8 * (c.args.len / 8) = word_bytes c.args.len c.requires.word in
    rw c.in-LeastFirst.is
    (subst (λ (n : ℕ). Puts c.args.bytes_by LeastFirst old new (8 * c.args.first) n c.args.value) (sym all)
    (least_puts old new c.args.first (c.args.len / 8) c.args.value c.args.bytes_by
    (subst (λ (n : ℕ). Puts Little MostFirst old new (8 * c.args.first) n c.args.value) all c.store-in-LeastFirst.ensures)))
