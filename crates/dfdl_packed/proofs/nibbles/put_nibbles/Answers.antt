use Rattle.std.proofs.Common.{◌≡◌, ℕ, ◌+◌, ◌*◌, ◌/◌, length, refl, sym, ◌∙◌, inl, inr, arith}
use Rattle.std.proofs.lemmas.Bool.{cases_lt}
use Rattle.std.proofs.lemmas.List.FromFn.{fill_by_all}
use Rattle.dfdl_bits.specs.Bits.{number_of}
use Rattle.dfdl_forms.specs.declared.order.ByteOrder.TheVariants.{Big}
use Rattle.dfdl_packed.specs.Packed.{nibbles_of}
use Rattle.dfdl_packed.proofs.nibbles.put_nibbles.Goals as goal

pub returns-then-last-nibbles-clause-nibbles : goal.returns-then-last-nibbles-clause-nibbles
unfolding nibbles_of
returns-then-last-nibbles-clause-nibbles c =
    let nibbles = c.args.nibbles.now in
    let bit : ℕ = c.args.bit in
    let last : ℕ = length nibbles / 2 * 2 in
    let new = c.put_nibble.new.bytes in
    sym (fill_by_all (λ k. number_of new (bit + 4 * k) 4 Big c.args.bits_by) nibbles (length nibbles) 0 refl (λ k below. elim (cases_lt k last) [
      | inl before ↦ sym (c.put_nibble.ensures.apart (bit + 4 * k) 4 Big (inl (omega arith)) ∙ c.put_pairs.ensures.written k before)
      | inr behind ↦
          let here : k ≡ last = omega arith in
          rw here (sym c.put_nibble.ensures.number)
    ]))

pub returns-else-last-nibbles-clause-nibbles : goal.returns-else-last-nibbles-clause-nibbles
unfolding nibbles_of
returns-else-last-nibbles-clause-nibbles c =
    let nibbles = c.args.nibbles.now in
    sym (fill_by_all (λ k. number_of c.put_pairs.new.bytes (c.args.bit + 4 * k) 4 Big c.args.bits_by) nibbles (length nibbles) 0 refl
    (λ k below. sym (c.put_pairs.ensures.written k (omega arith))))
