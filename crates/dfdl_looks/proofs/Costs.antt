-- Costs are added up: no cost before others changes nothing, and it doesn't matter how the parts are grouped.
use Rattle.std.proofs.Common.{◌≡◌, ℕ, zero, suc, refl, ap, ◌∙◌, arith}
use Rattle.dfdl_looks.specs.Tallies.{Tally, beside_first, first_of, nothing, plus}

same_tally : (a b : Tally) → a.rows ≡ b.rows → a.looks ≡ b.looks → a.far ≡ b.far → a.tail ≡ b.tail → a.anchor ≡ b.anchor → a ≡ b
same_tally a b rows looks far tail anchor =
    ap (λ (n : ℕ). record { rows = n; looks = a.looks; far = a.far; tail = a.tail; anchor = a.anchor }) rows
    ∙ ap (λ (n : ℕ). record { rows = b.rows; looks = n; far = a.far; tail = a.tail; anchor = a.anchor }) looks
    ∙ ap (λ (n : ℕ). record { rows = b.rows; looks = b.looks; far = n; tail = a.tail; anchor = a.anchor }) far
    ∙ ap (λ (n : ℕ). record { rows = b.rows; looks = b.looks; far = b.far; tail = n; anchor = a.anchor }) tail
    ∙ ap (λ (n : ℕ). record { rows = b.rows; looks = b.looks; far = b.far; tail = b.tail; anchor = n }) anchor

first_of-assoc : (a b c : ℕ) → first_of (first_of a b) c ≡ first_of a (first_of b c)
first_of-assoc zero b c = refl
first_of-assoc (suc a) b c = refl

beside_first-assoc : (m n a b c : ℕ) → beside_first (first_of m n) (beside_first m a b) c ≡ beside_first m a (beside_first n b c)
beside_first-assoc zero n a b c = refl
beside_first-assoc (suc m) n a b c = refl

pub plus-assoc : (a b c : Tally) → plus (plus a b) c ≡ plus a (plus b c)
plus-assoc a b c =
    same_tally (plus (plus a b) c) (plus a (plus b c)) (omega arith) (omega arith) (omega arith) (first_of-assoc a.tail b.tail c.tail)
    (beside_first-assoc a.tail b.tail a.anchor b.anchor c.anchor)

pub nothing-plus : (t : Tally) → plus nothing t ≡ t
nothing-plus t = same_tally (plus nothing t) t (omega arith) (omega arith) (omega arith) refl refl
