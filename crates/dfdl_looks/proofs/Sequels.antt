-- A program that goes on by what another one answers.
use Rattle.std.proofs.Common.{◌≡◌, ℕ, refl, Option, Some, None}
use Rattle.dfdl_bits.specs.declared.window.Seen.{Seen}
use Rattle.dfdl_bits.specs.declared.window.Seen.TheVariants.{Byte, End, NotYet, Over}
use Rattle.dfdl_looks.specs.Tallies.{Tally, saw_byte, saw_end}
use Rattle.dfdl_looks.specs.Asks.{Ask, Answer, Look, Reading, ask, AsksFrom, and_then, go_on}
use Rattle.dfdl_looks.proofs.Resumed.{on_seen}

module _ {F G : Type 0} (look : ℕ → Seen) (go : F → Ask G) where
  -- the reading of what goes on behind a reading
  abbrev pub behind : Reading F → Reading G
  behind reading = go_on look go reading.reached reading.tally

  then-seen : (next : Option ℕ → Ask F) (k : ℕ) (t : Tally)
      → ((o : Option ℕ) (u : Tally) → ask look (and_then (next o) go) u ≡ behind (ask look (next o) u))
      → (s : Seen) → on_seen look (λ o. and_then (next o) go) k t s ≡ behind (on_seen look next k t s)
  then-seen next k t more (Byte b) = more (Some b) (saw_byte k t)
  then-seen next k t more End = more None (saw_end k t)
  then-seen next k t more NotYet = refl
  then-seen next k t more Over = refl

  -- the whole is read as the one program and then the other, from its tally on
  pub ask-then : (a : Ask F) (t : Tally) → ask look (and_then a go) t ≡ behind (ask look a t)
  ask-then (Answer f) t = refl
  ask-then (Look k next) t = then-seen next k t (λ o u. ask-then (next o) u) (look k)

-- its looks lie where those of both do
pub and_then-from : {F G : Type 0} (low : ℕ) (a : Ask F) (go : F → Ask G) → AsksFrom low a → ((f : F) → AsksFrom low (go f))
    → AsksFrom low (and_then a go)
and_then-from low (Answer f) go first then = then f
and_then-from low (Look k next) go first then = (first.0, λ o. and_then-from low (next o) go (first.1 o) then)
