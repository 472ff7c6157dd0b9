-- The bytes of a number, written one after another.
use Rattle.std.proofs.Common.{◌≡◌, ℕ, zero, suc, ◌+◌, ◌-◌, ◌*◌, ◌/◌, ◌%◌, ◌^◌, ◌<◌, bit_and, List, [], ◌∷◌, ◌++◌, length, take, set, reverse, refl, sym, ap, ◌∙◌, append_assoc, arith}
use Rattle.std.proofs.lemmas.List.{append-nil, reverse-append, take_more_set}
use Rattle.std.proofs.lemmas.Nat.{and_mask, pow-add}
use Rattle.dfdl_forms.specs.declared.order.ByteOrder.{ByteOrder}
use Rattle.dfdl_forms.specs.declared.order.ByteOrder.TheVariants.{Big, Little}
use Rattle.dfdl_pieces.specs.Pieces.{bytes_of, in_order}

-- the first bytes are those of the number
abbrev pub IsWritten : ByteOrder → ℕ → ℕ → ℕ → List ℕ → Type 0
IsWritten Big count n place bytes = take place bytes ++ bytes_of (count - place) n ≡ bytes_of count n
IsWritten Little count n place bytes = take place bytes ≡ reverse (bytes_of place n)

-- by which power of 256 the byte at a place counts
abbrev pub power_at : ByteOrder → ℕ → ℕ → ℕ
power_at Big count place = count - 1 - place
power_at Little count place = place

two_powers : (k : ℕ) → 2 ^ (8 * k) ≡ 256 ^ k
two_powers zero = refl
two_powers (suc k) =
    let split : 2 ^ (8 + 8 * k) ≡ 2 ^ 8 * 2 ^ (8 * k) = pow-add 2 8 (8 * k) in
    let sum : 8 * suc k ≡ 8 + 8 * k = omega arith in
    let back : 2 ^ (8 * k) ≡ 256 ^ k = two_powers k in
    let more : 256 ^ suc k ≡ 256 * 256 ^ k = omega arith in
    ap (λ e. 2 ^ e) sum ∙ (split ∙ (ap (λ p. 256 * p) back ∙ sym more))

byte_is : (n k : ℕ) → bit_and (n / 2 ^ (8 * k)) 255 ≡ n / 256 ^ k % 256
byte_is n k = and_mask (n / 2 ^ (8 * k)) 8 ∙ ap (λ p. n / p % 256) (two_powers k)

-- no byte is written
pub no_byte : (by : ByteOrder) (count n : ℕ) (bytes : List ℕ) → IsWritten by count n 0 bytes
unfolding bytes_of
no_byte Big count n bytes = let all : count - 0 ≡ count = omega arith in ap (λ k. bytes_of k n) all
no_byte Little count n bytes = refl

more_bytes : (n left : ℕ) → bytes_of (suc left) n ≡ n / 256 ^ left % 256 ∷ bytes_of left n
unfolding bytes_of
more_bytes n left = refl

no_bytes : (n : ℕ) → bytes_of 0 n ≡ []
unfolding bytes_of
no_bytes n = refl

bytes_left : (n count place : ℕ) → place < count → bytes_of (count - place) n ≡ n / 256 ^ (count - 1 - place) % 256 ∷ bytes_of (count - (place + 1)) n
bytes_left n count place here =
    let first : count - place ≡ suc (count - 1 - place) = omega arith in
    let rest : count - 1 - place ≡ count - (place + 1) = omega arith in
    ap (λ k. bytes_of k n) first ∙ (more_bytes n (count - 1 - place) ∙ ap (λ k. n / 256 ^ (count - 1 - place) % 256 ∷ bytes_of k n) rest)

-- one more
pub one_byte : (by : ByteOrder) (count n place power : ℕ) (bytes : List ℕ) → place < count → place < length bytes → power ≡ power_at by count place
    → IsWritten by count n place bytes → IsWritten by count n (place + 1) (set bytes place (bit_and (n / 2 ^ (8 * power)) 255))
one_byte Big count n place power bytes here within power_is written =
    let byte : bit_and (n / 2 ^ (8 * power)) 255 ≡ n / 256 ^ (count - 1 - place) % 256 = byte_is n power ∙ ap (λ k. n / 256 ^ k % 256) power_is in
    let x : ℕ = n / 256 ^ (count - 1 - place) % 256 in
    ap (λ b. take (place + 1) (set bytes place b) ++ bytes_of (count - (place + 1)) n) byte
    ∙ (ap (λ front. front ++ bytes_of (count - (place + 1)) n) (take_more_set bytes place x within)
    ∙ (append_assoc (take place bytes) (x ∷ []) (bytes_of (count - (place + 1)) n)
    ∙ (ap (λ back. take place bytes ++ back) (sym (bytes_left n count place here)) ∙ written)))
one_byte Little count n place power bytes here within power_is written =
    let byte : bit_and (n / 2 ^ (8 * power)) 255 ≡ n / 256 ^ place % 256 = byte_is n power ∙ ap (λ k. n / 256 ^ k % 256) power_is in
    let x : ℕ = n / 256 ^ place % 256 in
    let next : place + 1 ≡ suc place = omega arith in
    ap (λ b. take (place + 1) (set bytes place b)) byte
    ∙ (take_more_set bytes place x within
    ∙ (ap (λ front. front ++ x ∷ []) written
    ∙ (sym (reverse-append (x ∷ []) (bytes_of place n))
    ∙ (sym (ap reverse (more_bytes n place)) ∙ sym (ap (λ k. reverse (bytes_of k n)) next)))))

-- all are written
pub all_bytes : (by : ByteOrder) (count n place : ℕ) (bytes : List ℕ) → place ≡ count → IsWritten by count n place bytes
    → take count bytes ≡ in_order by (bytes_of count n)
all_bytes Big count n place bytes done written =
    let none : count - place ≡ 0 = omega arith in
    let rest : bytes_of (count - place) n ≡ [] = ap (λ k. bytes_of k n) none ∙ no_bytes n in
    sym (append-nil (take count bytes)) ∙ (ap (λ back. take count bytes ++ back) (sym rest)
    ∙ (ap (λ k. take k bytes ++ bytes_of (count - place) n) (sym done) ∙ written))
all_bytes Little count n place bytes done written =
    ap (λ k. take k bytes) (sym done) ∙ (written ∙ ap (λ k. reverse (bytes_of k n)) done)
