-- Bits of fill among others.
use Rattle.std.proofs.Common.{◌≡◌, ℕ, zero, suc, ◌+◌, ◌-◌, ◌*◌, ◌/◌, ◌%◌, ◌<◌, ◌≤◌, List, [], ◌∷◌, ◌++◌, length, take, replicate, get_or, refl, ap, sym, ◌∙◌, inl, inr, arith}
use Rattle.std.specs.Int.{bit_at}
use Rattle.std.proofs.lemmas.Bool.{cases_lt}
use Rattle.std.proofs.lemmas.List.{get_or-replicate}
use Rattle.dfdl_bits.specs.Bits.{data_bit, place_of}
use Rattle.dfdl_forms.specs.declared.order.BitOrder.{BitOrder}
use Rattle.dfdl_forms.specs.declared.order.BitOrder.TheVariants.{MostFirst, LeastFirst}
use Rattle.dfdl_splice.proofs.Runs.{bits_from-add, bits_from-same}
use Rattle.dfdl_splice.specs.Bits.{bits_from}
use Rattle.dfdl_splice.specs.Copying.{Copies}
use Rattle.dfdl_evaluation.specs.Filling.{Fills, resized}
use Rattle.dfdl_evaluation.specs.Written.{fill_from}

-- a byte among those that there are
resized_at : (bytes : List ℕ) (size j : ℕ) → j < size → get_or (resized size bytes) j 0 ≡ get_or bytes j 0
resized_at bytes zero j within = absurd (omega (arith, within))
resized_at [] (suc size) j within =
    let all : suc size - 0 ≡ suc size = omega arith in
    ap (λ (n : ℕ). get_or (replicate n 0) j 0) all ∙ get_or-replicate (suc size) j 0 0 within
resized_at (byte ∷ bytes) (suc size) zero within = refl
resized_at (byte ∷ bytes) (suc size) (suc j) within =
    let one_less : suc size - suc (length bytes) ≡ size - length bytes = omega arith in
    ap (λ (n : ℕ). get_or (take size bytes ++ replicate n 0) j 0) one_less ∙ resized_at bytes size j (omega (arith, within))

pub resized_bit : (order : BitOrder) (bytes : List ℕ) (size k : ℕ) → k < 8 * size → data_bit order (resized size bytes) k ≡ data_bit order bytes k
resized_bit order bytes size k within =
    ap (λ (byte : ℕ). bit_at byte (place_of order k)) (resized_at bytes size (k / 8) (omega arith))

place_same : (order : BitOrder) (j k : ℕ) → j % 8 ≡ k % 8 → place_of order j ≡ place_of order k
place_same MostFirst j k same = ap (λ (n : ℕ). 7 - n) same
place_same LeastFirst j k same = same

one_at : (fill n : ℕ) → n ≡ 0 → get_or (fill ∷ []) n 0 ≡ fill
one_at fill n is = ap (λ (m : ℕ). get_or (fill ∷ []) m 0) is

-- a bit of nine bytes that are one
pattern_bit : (order : BitOrder) (fill k m : ℕ) → k < 72 → k % 8 ≡ m % 8 → data_bit order (replicate 9 fill) k ≡ data_bit order (fill ∷ []) (m % 8)
pattern_bit order fill k m within same =
    ap (λ (byte : ℕ). bit_at byte (place_of order k)) (get_or-replicate 9 (k / 8) fill 0 (omega arith) ∙ sym (one_at fill (m % 8 / 8) (omega arith)))
    ∙ ap (bit_at (get_or (fill ∷ []) (m % 8 / 8) 0)) (place_same order k (m % 8) (omega (arith, same)))

-- such bits that were copied are fill
pub fills_copied : (order : BitOrder) (old new : List ℕ) (at fill bit count : ℕ) → count ≤ 64
    → Copies order old new at (replicate 9 fill) (bit % 8) count → Fills order old new at fill bit count
fills_copied order old new at fill bit count few copies = record {
  put = λ i within. copies.copied i within ∙ pattern_bit order fill (bit % 8 + i) (bit + i) (omega (arith, few, within)) (omega arith);
  kept = copies.kept;
}

pub fills_none : (order : BitOrder) (bytes : List ℕ) (at fill bit : ℕ) → Fills order bytes bytes at fill bit 0
fills_none order bytes at fill bit = record { put = λ i within. absurd (omega (arith, within)); kept = λ k within. refl }

-- so many more
pub fills_more : (order : BitOrder) (old mid new : List ℕ) (at fill bit done some : ℕ) → Fills order old mid at fill bit done
    → Fills order mid new (at + done) fill (bit % 8 + done % 8) some → Fills order old new at fill bit (done + some)
fills_more order old mid new at fill bit done some first second = record {
  put = λ i within. elim (cases_lt i done) [
    | inl low ↦ second.kept (at + i) (omega (arith, low)) ∙ first.put i low
    | inr high ↦
        let place : at + i ≡ at + done + (i - done) = omega (arith, high) in
        let same : (bit % 8 + done % 8 + (i - done)) % 8 ≡ (bit + i) % 8 = omega (arith, high) in
        ap (data_bit order new) place ∙ second.put (i - done) (omega (arith, high, within))
        ∙ ap (λ (n : ℕ). data_bit order (fill ∷ []) n) same
  ];
  kept = λ k within. second.kept k (omega (arith, within)) ∙ first.kept k within;
}

-- a run of fill
fill_run : (order : BitOrder) (bytes : List ℕ) (at fill bit count : ℕ)
    → ((i : ℕ) → i < count → data_bit order bytes (at + i) ≡ data_bit order (fill ∷ []) ((bit + i) % 8))
    → bits_from order bytes at count ≡ fill_from order fill bit count
unfolding bits_from fill_from
fill_run order bytes at fill bit zero same = refl
fill_run order bytes at fill bit (suc count) same =
    let at_here : at + 0 ≡ at = omega arith in
    let bit_here : (bit + 0) % 8 ≡ bit % 8 = omega arith in
    let first : data_bit order bytes at ≡ data_bit order (fill ∷ []) (bit % 8) =
    ap (data_bit order bytes) (sym at_here) ∙ same 0 (omega arith) ∙ ap (data_bit order (fill ∷ [])) bit_here in
    let rest : bits_from order bytes (at + 1) count ≡ fill_from order fill (bit + 1) count =
    fill_run order bytes (at + 1) fill (bit + 1) count (λ i h.
    let past_at : at + 1 + i ≡ at + (1 + i) = omega arith in
    let past_bit : (bit + (1 + i)) % 8 ≡ (bit + 1 + i) % 8 = omega arith in
    ap (data_bit order bytes) past_at ∙ same (1 + i) (omega arith) ∙ ap (data_bit order (fill ∷ [])) past_bit) in
    rw (first, rest) refl

-- bits with the fill behind them
pub joined_bits : (order : BitOrder) (bytes spread all : List ℕ) (size bits fill at count : ℕ) → bits ≤ 8 * size → spread ≡ resized size bytes
    → Fills order spread all bits fill at count
    → bits_from order all 0 (bits + count) ≡ bits_from order bytes 0 bits ++ fill_from order fill at count
joined_bits order bytes spread all size bits fill at count within is fills =
    let behind : 0 + bits ≡ bits = omega arith in
    bits_from-add order all 0 bits count
    ∙ (ap (λ (front : List ℕ). front ++ bits_from order all (0 + bits) count)
    (bits_from-same order all bytes 0 0 bits (λ i low.
    let here : 0 + i ≡ i = omega arith in
    ap (data_bit order all) here
    ∙ (fills.kept i low
    ∙ (ap (λ (bs : List ℕ). data_bit order bs i) is ∙ (resized_bit order bytes size i (omega (arith, low, within)) ∙ ap (data_bit order bytes) (sym here))))))
    ∙ ap (λ (rest : List ℕ). bits_from order bytes 0 bits ++ rest)
    (ap (λ (n : ℕ). bits_from order all n count) behind ∙ fill_run order all bits fill at count fills.put))
