use Rattle.std.proofs.Common.{◌≡◌, ℕ, ◌+◌, ◌-◌, ◌*◌, ◌/◌, ◌%◌, ◌^◌, ◌<◌, get_or, sym, ap, ◌∙◌, arith}
use Rattle.std.proofs.lemmas.Nat.{mod_below, pow_pos, shr_below}
use Rattle.dfdl_bits.specs.Bits.{number_of}
use Rattle.dfdl_forms.specs.declared.order.BitOrder.TheVariants.{MostFirst}
use Rattle.dfdl_forms.specs.declared.order.ByteOrder.TheVariants.{Little}
use Rattle.dfdl_bits.proofs.Shifts.{or_shl_at}
use Rattle.dfdl_bits.proofs.Words.{regrouped_is, parts_of_groups, front_groups, be_small}
use Rattle.dfdl_bits.proofs.word.regrouped.Goals as goal

pub returns-then-rest-eq0 : goal.returns-then-rest-eq0
returns-then-rest-eq0 c = λ bytes bit is.
    let ys = c.to_be_bytes-bytes.result in
    let small : (i : ℕ) → get_or ys i 0 < 256 = (λ i. rw c.to_be_bytes-bytes.ensures (be_small _ i)) in
    let size : 8 * (c.args.len / 8) ≡ c.args.len = omega arith in
    let word : c.low_bits-word.result ≡ number_of ys 0 (8 * (c.args.len / 8)) Little MostFirst =
    rw (c.low_bits-word.ensures, c.from_le_bytes.ensures) (sym (front_groups ys small (c.args.len / 8) (omega arith))) in
    word
    ∙ ap (λ n. number_of ys 0 n Little MostFirst) size
    ∙ regrouped_is c.args.number c.args.len bit bytes ys c.requires.few is c.to_be_bytes-bytes.ensures

pub returns : goal.returns
returns c = λ bytes bit is.
    let ys = c.to_be_bytes-bytes.result in
    let g : ℕ = c.args.len / 8 in
    let r : ℕ = c.args.len % 8 in
    let small : (i : ℕ) → get_or ys i 0 < 256 = (λ i. rw c.to_be_bytes-bytes.ensures (be_small _ i)) in
    let eight : r + (8 - r) ≡ 8 = omega arith in
    let low : c.low_bits-word.result < 2 ^ (8 * g) = rw c.low_bits-word.ensures (mod_below _ _ (pow_pos (8 * g))) in
    let high : c.from-last.result < 2 ^ r = rw c.from-last.ensures (shr_below (get_or ys g 0) r (8 - r) (rw eight (small g))) in
    or_shl_at 64 c.low_bits-word.result c.from-last.result r (8 * g) low high (omega arith)
    ∙ rw (c.low_bits-word.ensures, c.from-last.ensures, c.from_le_bytes.ensures) (sym (parts_of_groups ys small c.args.len c.requires.few))
    ∙ regrouped_is c.args.number c.args.len bit bytes ys c.requires.few is c.to_be_bytes-bytes.ensures
