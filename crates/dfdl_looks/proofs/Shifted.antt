-- What a program comes to doesn't depend on what was spent before it, and its looks are added to those before.
use Rattle.std.proofs.Common.{◌≡◌, ℕ, ◌+◌, refl, Option, Some, None, arith}
use Rattle.dfdl_bits.specs.declared.window.Seen.{Seen}
use Rattle.dfdl_bits.specs.declared.window.Seen.TheVariants.{Byte, End, NotYet, Over}
use Rattle.dfdl_looks.specs.Tallies.{Tally, saw_byte, saw_end}
use Rattle.dfdl_looks.specs.Asks.{Ask, Answer, Look, Reading, ask}
use Rattle.dfdl_looks.proofs.Resumed.{on_seen}

-- two readings come to the same as far, where so many more looks were made before the second
pub record Shifts {F : Type 0} (n : ℕ) (a b : Reading F) : Type 0 where
  pub reached : a.reached ≡ b.reached
  pub looks : a.tally.looks + n ≡ b.tally.looks
  pub far : a.tally.far ≡ b.tally.far

module _ {F : Type 0} (look : ℕ → Seen) (n : ℕ) where
  shift-seen : (next : Option ℕ → Ask F) (k : ℕ) (t u : Tally) → t.looks + n ≡ u.looks → t.far ≡ u.far
      → ((o : Option ℕ) (v w : Tally) → v.looks + n ≡ w.looks → v.far ≡ w.far → Shifts n (ask look (next o) v) (ask look (next o) w))
      → (s : Seen) → Shifts n (on_seen look next k t s) (on_seen look next k u s)
  shift-seen next k t u looks far more (Byte b) = more (Some b) (saw_byte k t) (saw_byte k u) (omega arith) (omega arith)
  shift-seen next k t u looks far more End = more None (saw_end k t) (saw_end k u) (omega arith) (omega arith)
  shift-seen next k t u looks far more NotYet = record { reached = refl; looks = omega arith; far = far }
  shift-seen next k t u looks far more Over = record { reached = refl; looks = omega arith; far = far }

  pub shifted : (a : Ask F) (t u : Tally) → t.looks + n ≡ u.looks → t.far ≡ u.far → Shifts n (ask look a t) (ask look a u)
  shifted (Answer f) t u looks far = record { reached = refl; looks = looks; far = far }
  shifted (Look k next) t u looks far = shift-seen next k t u looks far (λ o v w more same. shifted (next o) v w more same) (look k)
