-- Sums below a number.
use Rattle.std.proofs.Common.{◌≡◌, ℕ, zero, suc, ◌+◌, ◌*◌, ◌<◌, refl, arith, add-zero, add-suc}
use Rattle.dfdl_bits.specs.Bits.{sum_below}

-- equal terms have equal sums
pub sum_below-same : (n : ℕ) (f g : ℕ → ℕ) → ((i : ℕ) → i < n → f i ≡ g i) → sum_below n f ≡ sum_below n g
unfolding sum_below
sum_below-same zero f g same = refl
sum_below-same (suc n) f g same =
    let front : sum_below n f ≡ sum_below n g = sum_below-same n f g (λ i h. same i (omega arith)) in
    let last : f n ≡ g n = same n (omega arith) in
    omega arith

-- the terms from m on are summed apart
pub sum_below-add : (m n : ℕ) (f : ℕ → ℕ) → sum_below (m + n) f ≡ sum_below m f + sum_below n (λ i. f (m + i))
unfolding sum_below
sum_below-add m zero f = rw add-zero (omega arith)
sum_below-add m (suc n) f = rw add-suc (omega (arith, sum_below-add m n f))

-- a common factor
pub sum_below-mul : (n c : ℕ) (f : ℕ → ℕ) → sum_below n (λ i. f i * c) ≡ sum_below n f * c
unfolding sum_below
sum_below-mul zero c f = omega arith
sum_below-mul (suc n) c f = omega (arith, sum_below-mul n c f)
