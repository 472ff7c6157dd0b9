-- What a search finds ends among the bytes that were looked at.
use Rattle.std.proofs.Common.{◌≡◌, ℕ, zero, suc, ◌+◌, ◌-◌, ◌*◌, ◌/◌, ◌≤◌, List, [], ◌∷◌, ◌++◌, length, Bool, true, false, cond, Option, Some, None, refl, subst, arith, length-append}
use Rattle.dfdl_bits.specs.declared.window.Seen.{Seen}
use Rattle.dfdl_bits.specs.declared.window.Seen.TheVariants.{Byte, End, NotYet, Over}
use Rattle.dfdl_looks.specs.Asks.{Ask, Answer, Look, Reached, Told, TooFar, Missing, ask}
use Rattle.dfdl_looks.specs.Tallies.{Tally, nothing, saw_byte, saw_end}
use Rattle.dfdl_looks.proofs.Resumed.{on_seen}
use Rattle.dfdl_delims.specs.Deciding.{goes_on}
use Rattle.dfdl_delims.specs.Lists.{Opened, innermost}
use Rattle.dfdl_delims.specs.Longest.{Longest, NoText, better, longest_from}
use Rattle.dfdl_grammar.specs.Delimiters.{sought_among}
use Rattle.dfdl_grammar.specs.Framing.{aligned}
use Rattle.dfdl_leaves.proofs.Lies.{ask-before, before, before-lies}
use Rattle.dfdl_parse.proofs.Seeks.{IsBefore, better-before, told_one}

-- by looks that see bytes before this one alone
module _ (look : ℕ → Seen) (last : ℕ) (lies : (j byte : ℕ) → look j ≡ Byte byte → j + 1 ≤ last) (test : List ℕ → Bool) (lists : List Opened) (bit : ℕ) where
  -- what is found behind some bytes
  abbrev best : List ℕ → Longest → Longest
  best seen found = better (innermost lists seen) (length seen) found

  seen-lies : (go : Option ℕ → Ask Longest) (k : ℕ) (t : Tally) (f : Longest) (v : Seen) → look k ≡ v
      → ((b : ℕ) (u : Tally) → k + 1 ≤ last → (ask look (go (Some b)) u).reached ≡ Told f → IsBefore f bit last)
      → ((u : Tally) → (ask look (go None) u).reached ≡ Told f → IsBefore f bit last)
      → (on_seen look go k t v).reached ≡ Told f → IsBefore f bit last
  seen-lies go k t f (Byte b) is more none told = more b (saw_byte k t) (lies k b is) told
  seen-lies go k t f End is more none told = none (saw_end k t) told
  seen-lies go k t f NotYet is more none told = absurd (cc)
  seen-lies go k t f Over is more none told = absurd (cc)

  from-lies : (more : ℕ) (seen : List ℕ) (found f : Longest) (k : ℕ) (t : Tally) → bit + 8 * length seen ≡ 8 * k → k ≤ last
      → IsBefore found bit last → (ask look (longest_from test lists more seen found k) t).reached ≡ Told f → IsBefore f bit last
  from-lies zero seen found f k t at few before is =
      subst (λ (l : Longest). IsBefore l bit last) (told_one (best seen found) f is)
      (better-before (innermost lists seen) (length seen) found bit last (omega arith) before)
  from-lies (suc more) seen found f k t at few before is =
      by (test seen) (λ b u within told.
      let size = length-append seen (b ∷ []) in
      from-lies more (seen ++ b ∷ []) (best seen found) f (k + 1) u (omega (arith, size, at)) within next told) is
    where
      next : IsBefore (best seen found) bit last
      next = better-before (innermost lists seen) (length seen) found bit last (omega arith) before

      by : (goes : Bool)
          → ((b : ℕ) (u : Tally) → k + 1 ≤ last
          → (ask look (longest_from test lists more (seen ++ b ∷ []) (best seen found) (k + 1)) u).reached ≡ Told f → IsBefore f bit last)
          → (ask look (cond goes (Look k (λ o. elim o as (λ _. Ask Longest) [
            | None ↦ Answer (best seen found)
            | Some byte ↦ longest_from test lists more (seen ++ byte ∷ []) (best seen found) (k + 1)
          ])) (Answer (best seen found))) t).reached ≡ Told f
          → IsBefore f bit last
      by false deeper is = subst (λ (l : Longest). IsBefore l bit last) (told_one (best seen found) f is) next
      by true deeper is =
          seen-lies (λ o. elim o as (λ _. Ask Longest) [
            | None ↦ Answer (best seen found)
            | Some byte ↦ longest_from test lists more (seen ++ byte ∷ []) (best seen found) (k + 1)
          ]) k t f (look k) refl deeper
          (λ u told. subst (λ (l : Longest). IsBefore l bit last) (told_one (best seen found) f told) next) is

-- what a search comes to at a bit, if it is a text, ends before this byte
abbrev pub AtText : ℕ → ℕ → Reached Longest → Type 0
AtText bit last (Told found) = IsBefore found bit last
AtText bit last TooFar = Unit {0}
AtText bit last Missing = Unit {0}

sought-by : (look : ℕ → Seen) (last : ℕ) (lists : List Opened) (at stop : ℕ) → at ≤ 8 * last → (r : Reached Longest)
    → (ask look (sought_among lists at stop) nothing).reached ≡ r → (ask look (sought_among lists at stop) nothing).tally.far ≤ last
    → AtText (aligned 8 at) last r
sought-by look last lists at stop come (Told found) is few =
    from-lies (before look last) last (before-lies look last) (goes_on lists) lists (aligned 8 at) (stop / 8 - aligned 8 at / 8) [] NoText found
    (aligned 8 at / 8) nothing (omega arith) (omega arith) tt
    (ask-before look last (sought_among lists at stop) nothing found is few)
sought-by look last lists at stop come TooFar is few = tt
sought-by look last lists at stop come Missing is few = tt

-- a search that begins before a byte before which all looks are, too, finds a text that ends before it
pub sought-lies : (look : ℕ → Seen) (last : ℕ) (lists : List Opened) (at stop : ℕ) → at ≤ 8 * last
    → (ask look (sought_among lists at stop) nothing).tally.far ≤ last
    → AtText (aligned 8 at) last (ask look (sought_among lists at stop) nothing).reached
sought-lies look last lists at stop come few = sought-by look last lists at stop come _ refl few
