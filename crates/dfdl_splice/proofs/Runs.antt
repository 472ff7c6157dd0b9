-- Runs of bits, cut and joined.
use Rattle.std.proofs.Common.{◌≡◌, ℕ, zero, suc, ◌+◌, ◌-◌, ◌*◌, ◌/◌, ◌%◌, ◌<◌, ◌≤◌, List, [], ◌∷◌, ◌++◌, length, take, drop, get_or, refl, ap, sym, ◌∙◌, inl, inr, arith, add-zero}
use Rattle.std.specs.Int.{bit_at}
use Rattle.std.proofs.lemmas.Bool.{cases_lt}
use Rattle.std.proofs.lemmas.List.{take_at, drop_at, get_or-take, get_or-drop}
use Rattle.dfdl_splice.specs.Bits.{bits_from}
use Rattle.dfdl_splice.specs.Copying.{Copies}
use Rattle.dfdl_bits.specs.Bits.{data_bit, place_of}
use Rattle.dfdl_forms.specs.declared.order.BitOrder.{BitOrder}
use Rattle.dfdl_forms.specs.declared.order.BitOrder.TheVariants.{MostFirst, LeastFirst}

pub length-bits_from : (order : BitOrder) (bytes : List ℕ) (k n : ℕ) → length (bits_from order bytes k n) ≡ n
unfolding bits_from
length-bits_from order bytes k zero = refl
length-bits_from order bytes k (suc n) = ap suc (length-bits_from order bytes (k + 1) n)

-- no bits
pub bits_from-none : (order : BitOrder) (bytes : List ℕ) (k : ℕ) → bits_from order bytes k 0 ≡ []
unfolding bits_from
bits_from-none order bytes k = refl

-- two runs with the same bits are the same
pub bits_from-same : (order : BitOrder) (xs ys : List ℕ) (j k n : ℕ)
    → ((i : ℕ) → i < n → data_bit order xs (j + i) ≡ data_bit order ys (k + i)) → bits_from order xs j n ≡ bits_from order ys k n
unfolding bits_from
bits_from-same order xs ys j k zero same = refl
bits_from-same order xs ys j k (suc n) same =
    let at_j : j + 0 ≡ j = omega arith in
    let at_k : k + 0 ≡ k = omega arith in
    let first : data_bit order xs j ≡ data_bit order ys k =
    ap (data_bit order xs) (sym at_j) ∙ same 0 (omega arith) ∙ ap (data_bit order ys) at_k in
    let rest : bits_from order xs (j + 1) n ≡ bits_from order ys (k + 1) n =
    bits_from-same order xs ys (j + 1) (k + 1) n (λ i h.
    let past_j : j + 1 + i ≡ j + (1 + i) = omega arith in
    let past_k : k + (1 + i) ≡ k + 1 + i = omega arith in
    ap (data_bit order xs) past_j ∙ same (1 + i) (omega arith) ∙ ap (data_bit order ys) past_k) in
    rw (first, rest) refl

-- a run and the one behind it
pub bits_from-add : (order : BitOrder) (bytes : List ℕ) (k m n : ℕ)
    → bits_from order bytes k (m + n) ≡ bits_from order bytes k m ++ bits_from order bytes (k + m) n
unfolding bits_from
bits_from-add order bytes k zero n =
    let all : zero + n ≡ n = omega arith in
    rw (all, add-zero) refl
bits_from-add order bytes k (suc m) n =
    let all : suc m + n ≡ suc (m + n) = omega arith in
    let place : k + suc m ≡ k + 1 + m = omega arith in
    rw (all, place) (ap (λ (rest : List ℕ). data_bit order bytes k ∷ rest) (bits_from-add order bytes (k + 1) m n))

-- a part of a run
pub bits_from-cut : (order : BitOrder) (bytes : List ℕ) (k m n total : ℕ) → m + n ≤ total
    → take n (drop m (bits_from order bytes k total)) ≡ bits_from order bytes (k + m) n
bits_from-cut order bytes k m n total within =
    let all : total ≡ m + (n + (total - m - n)) = omega arith in
    let rest : drop m (bits_from order bytes k m ++ bits_from order bytes (k + m) (n + (total - m - n))) ≡ bits_from order bytes (k + m) (n + (total - m - n)) =
    drop_at _ _ m (length-bits_from order bytes k m) in
    ap (λ (count : ℕ). take n (drop m (bits_from order bytes k count))) all
    ∙ ap (λ (bits : List ℕ). take n (drop m bits)) (bits_from-add order bytes k m (n + (total - m - n)))
    ∙ ap (take n) (rest ∙ bits_from-add order bytes (k + m) n (total - m - n))
    ∙ take_at _ _ n (length-bits_from order bytes (k + m) n)

pub bits_from-part : (order : BitOrder) (bytes : List ℕ) (m n total : ℕ) → m + n ≤ total
    → take n (drop m (bits_from order bytes 0 total)) ≡ bits_from order bytes m n
bits_from-part order bytes m n total within =
    let place : 0 + m ≡ m = omega arith in
    bits_from-cut order bytes 0 m n total within ∙ ap (λ (k : ℕ). bits_from order bytes k n) place

pub bits_from-take : (order : BitOrder) (bytes : List ℕ) (k n total : ℕ) → n ≤ total → take n (bits_from order bytes k total) ≡ bits_from order bytes k n
bits_from-take order bytes k n total within = bits_from-cut order bytes k 0 n total (omega arith) ∙ rw add-zero refl

-- a bit behind whole bytes that go
data_bit-drop : (order : BitOrder) (bytes : List ℕ) (w k : ℕ) → data_bit order (drop w bytes) k ≡ data_bit order bytes (8 * w + k)
data_bit-drop MostFirst bytes w k =
    let byte : (8 * w + k) / 8 ≡ w + k / 8 = omega arith in
    let place : (8 * w + k) % 8 ≡ k % 8 = omega arith in
    rw (byte, place) (ap (λ (x : ℕ). bit_at x (7 - k % 8)) (get_or-drop w bytes (k / 8) 0))
data_bit-drop LeastFirst bytes w k =
    let byte : (8 * w + k) / 8 ≡ w + k / 8 = omega arith in
    let place : (8 * w + k) % 8 ≡ k % 8 = omega arith in
    rw (byte, place) (ap (λ (x : ℕ). bit_at x (k % 8)) (get_or-drop w bytes (k / 8) 0))

pub bits_from-drop : (order : BitOrder) (bytes : List ℕ) (w n total : ℕ) → 8 * w + n ≡ total
    → bits_from order (drop w bytes) 0 n ≡ drop (8 * w) (bits_from order bytes 0 total)
bits_from-drop order bytes w n total all =
    bits_from-same order (drop w bytes) bytes 0 (8 * w) n (λ i h.
    let place : 0 + i ≡ i = omega arith in
    ap (data_bit order (drop w bytes)) place ∙ data_bit-drop order bytes w i)
    ∙ sym (ap (drop (8 * w)) (ap (bits_from order bytes 0) (sym all) ∙ bits_from-add order bytes 0 (8 * w) n)
    ∙ drop_at _ _ (8 * w) (length-bits_from order bytes 0 (8 * w))
    ∙ ap (λ (k : ℕ). bits_from order bytes k n) (omega arith))

-- a bit of bytes to which others were added
pub data_bit-front : (order : BitOrder) (old new : List ℕ) (n k : ℕ) → take n new ≡ old → k < 8 * n
    → data_bit order new k ≡ data_bit order old k
data_bit-front order old new n k front within =
    ap (λ (x : ℕ). bit_at x (place_of order k)) (sym (get_or-take n new (k / 8) 0 (omega arith)) ∙ ap (λ (bytes : List ℕ). get_or bytes (k / 8) 0) front)

pub bits_from-front : (order : BitOrder) (old new : List ℕ) (n count : ℕ) → take n new ≡ old → count ≤ 8 * n
    → bits_from order new 0 count ≡ bits_from order old 0 count
bits_from-front order old new n count front within =
    bits_from-same order new old 0 0 count (λ i h. data_bit-front order old new n (0 + i) front (omega arith))

-- nothing is copied yet
pub copies_none : (order : BitOrder) (bytes : List ℕ) (at : ℕ) (from : List ℕ) (begin : ℕ) → Copies order bytes bytes at from begin 0
copies_none order bytes at from begin = record { copied = λ i h. absurd (omega arith); kept = λ k h. refl }

-- bits that are copied, and those behind them
pub copies_more : (order : BitOrder) (old mid new : List ℕ) (at : ℕ) (from : List ℕ) (begin m n : ℕ)
    → Copies order old mid at from begin m → Copies order mid new (at + m) from (begin + m) n → Copies order old new at from begin (m + n)
copies_more order old mid new at from begin m n front rest = record {
  copied = λ i h. elim (cases_lt i m) [
    | inl below ↦ rest.kept (at + i) (omega arith) ∙ front.copied i below
    | inr past ↦
        let place : at + i ≡ at + m + (i - m) = omega arith in
        let source : begin + m + (i - m) ≡ begin + i = omega arith in
        ap (data_bit order new) place ∙ rest.copied (i - m) (omega arith) ∙ ap (data_bit order from) source
  ];
  kept = λ k h. rest.kept k (omega arith) ∙ front.kept k h;
}

-- bits behind others
pub appended : (order : BitOrder) (old grown new : List ℕ) (n len : ℕ) (from : List ℕ) (begin count : ℕ) → take n grown ≡ old → len ≤ 8 * n
    → Copies order grown new len from begin count → bits_from order new 0 (len + count) ≡ bits_from order old 0 len ++ bits_from order from begin count
appended order old grown new n len from begin count front within copies =
    bits_from-add order new 0 len count
    ∙ rw (bits_from-same order new grown 0 0 len (λ i h. copies.kept (0 + i) (omega arith)) ∙ bits_from-front order old grown n len front within)
    (ap (λ (bits : List ℕ). bits_from order old 0 len ++ bits) (bits_from-same order new from (0 + len) begin count (λ i h.
    let place : 0 + len + i ≡ len + i = omega arith in
    ap (data_bit order new) place ∙ copies.copied i h)))
