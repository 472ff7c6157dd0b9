-- Digits that are put into places.
use Rattle.std.proofs.Common.{◌≡◌, ℕ, zero, suc, ◌+◌, ◌-◌, ◌/◌, ◌%◌, ◌^◌, ◌<◌, ◌≤◌, List, [], ◌∷◌, ◌++◌, length, take, drop, set, get_or, replicate, refl, ap, sym, ◌∙◌, append_assoc, length-append, length-take-le, get_or-set_same, get_or-set_other, inl, inr, add-one, arith}
use Rattle.std.proofs.lemmas.List.{set_split, take_at, drop_at, take-append-le, take-take, drop_more, get_or-replicate, length-replicate, get_or_past}
use Rattle.std.proofs.lemmas.Bool.{cases_lt, cases_eq}
use Rattle.std.proofs.Math.Seq.{take-append-add}
use Rattle.dfdl_packed.specs.Digits.{padded_digits}

pub length-padded_digits : (len n : ℕ) → length (padded_digits len n) ≡ len
unfolding padded_digits
length-padded_digits zero n = refl
length-padded_digits (suc len) n = ap suc (length-padded_digits len n)

pub padded_none : (n : ℕ) → padded_digits 0 n ≡ []
unfolding padded_digits
padded_none n = refl

pub padded_more : (len n : ℕ) → padded_digits (len + 1) n ≡ n / 10 ^ len % 10 ∷ padded_digits len n
unfolding padded_digits
padded_more len n = ap (λ (k : ℕ). padded_digits k n) (add-one len)

-- a place in front of those that are filled
pub set_before : (xs ys : List ℕ) (q d : ℕ) → q < length xs → set (take (q + 1) xs ++ ys) q d ≡ take q xs ++ (d ∷ ys)
set_before xs ys q d within =
    let front : length (take (q + 1) xs) ≡ q + 1 = length-take-le (q + 1) xs (omega arith) in
    let before : take q (take (q + 1) xs ++ ys) ≡ take q xs =
    take-append-le q (take (q + 1) xs) ys (omega arith) ∙ take-take q (q + 1) xs (omega arith) in
    let behind : drop (suc q) (take (q + 1) xs ++ ys) ≡ ys = drop_at (take (q + 1) xs) ys (suc q) (omega arith) in
    set_split (take (q + 1) xs ++ ys) q d (simp length-append (omega arith)) ∙ rw (before, behind) refl

-- digits from the front of the places on
pub filled_front : (xs ds : List ℕ) (len : ℕ) → length ds ≡ len → take len (take 0 xs ++ (ds ++ drop len xs)) ≡ ds
filled_front xs ds len size = take_at ds (drop len xs) len size

pub filled_front_more : (xs ds : List ℕ) (len : ℕ) → length ds ≡ len → len < length xs
    → take (len + 1) (take 0 xs ++ (ds ++ drop len xs)) ≡ ds ++ get_or xs len 0 ∷ []
filled_front_more xs ds len size within =
    let place : len + 1 ≡ length ds + 1 = omega arith in
    rw (place, drop_more xs len 0 within) (take-append-add ds (get_or xs len 0 ∷ drop (len + 1) xs) 1)

-- digits behind a front
pub filled_behind : (xs ds : List ℕ) (from to : ℕ) → from ≤ length xs → length ds ≡ to - from → from ≤ to
    → take to (take from xs ++ (ds ++ drop to xs)) ≡ take from xs ++ ds
filled_behind xs ds from to within size order =
    let front : length (take from xs) ≡ from = length-take-le from xs within in
    ap (take to) (sym (append_assoc (take from xs) ds (drop to xs)))
    ∙ take_at (take from xs ++ ds) (drop to xs) to (simp length-append (omega arith))

pub replicate_low : (n a k : ℕ) → a < 16 → get_or (replicate n a) k 0 < 16
replicate_low n a k low = elim (cases_lt k n) [
  | inl within ↦ rw get_or-replicate low
  | inr past ↦ rw (get_or_past (replicate n a) k 0 (rw length-replicate past)) (omega arith)
]

-- a place that is set to a nibble
pub set_low : (xs : List ℕ) (i d k : ℕ) → i < length xs → d < 16 → get_or xs k 0 < 16 → get_or (set xs i d) k 0 < 16
set_low xs i d k within small low = elim (cases_eq k i) [
  | inl here ↦ rw (here, get_or-set_same xs i d 0 within) small
  | inr other ↦ rw (get_or-set_other xs i k d 0 other) low
]
