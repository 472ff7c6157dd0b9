-- What a program comes to over a window is what it comes to over the data, unless a byte hasn't come.
use Rattle.std.proofs.Common.{◌≡◌, ℕ, ◌≤◌, ◌⊎◌, inl, inr, refl, List, Option, Some, None, ap, sym, ◌∙◌}
use Rattle.dfdl_bits.specs.Window.{Held, seen_at}
use Rattle.dfdl_bits.specs.declared.window.Seen.{Seen}
use Rattle.dfdl_bits.specs.declared.window.Seen.TheVariants.{Byte, End, NotYet, Over}
use Rattle.dfdl_looks.specs.Looks.{Agrees, seen_in}
use Rattle.dfdl_looks.specs.Tallies.{Tally, saw_byte, saw_end, saw_none}
use Rattle.dfdl_looks.specs.Asks.{Ask, Answer, Look, TooFar, Missing, Reading, ask, AsksFrom}
use Rattle.dfdl_looks.proofs.Seeing.{seen_same}

-- the reading of a program whose first look, at byte k, sees this
abbrev pub on_seen : {F : Type 0} → (ℕ → Seen) → (Option ℕ → Ask F) → ℕ → Tally → Seen → Reading F
on_seen look go k t (Byte b) = ask look (go (Some b)) (saw_byte k t)
on_seen look go k t End = ask look (go None) (saw_end k t)
on_seen look go k t NotYet = record { reached = Missing; tally = saw_none t }
on_seen look go k t Over = record { reached = TooFar; tally = saw_none t }

module _ {F : Type 0} (held : Held) (whole : List ℕ) (agrees : Agrees held whole) where
  abbrev here : Ask F → Tally → Reading F
  here = ask (seen_at held)

  abbrev there : Ask F → Tally → Reading F
  there = ask (seen_in whole held.size held.base)

  goes : (go : Option ℕ → Ask F) (k : ℕ) → held.base ≤ k → (t : Tally) (s : Seen) → seen_at held k ≡ s
      → ((on_seen (seen_at held) go k t s).reached ≡ Missing → ⊥)
      → ((o : Option ℕ) (u : Tally) → ((here (go o) u).reached ≡ Missing → ⊥) → here (go o) u ≡ there (go o) u)
      → seen_in whole held.size held.base k ≡ s
      → on_seen (seen_at held) go k t s ≡ on_seen (seen_in whole held.size held.base) go k t s
  goes go k base t (Byte b) is found more same = more (Some b) (saw_byte k t) found
  goes go k base t End is found more same = more None (saw_end k t) found
  goes go k base t NotYet is found more same = refl
  goes go k base t Over is found more same = refl

  first : (go : Option ℕ → Ask F) (k : ℕ) → held.base ≤ k → (t : Tally) (s : Seen) → seen_at held k ≡ s
      → ((on_seen (seen_at held) go k t s).reached ≡ Missing → ⊥)
      → ((o : Option ℕ) (u : Tally) → ((here (go o) u).reached ≡ Missing → ⊥) → here (go o) u ≡ there (go o) u)
      → (s ≡ NotYet) ⊎ (seen_in whole held.size held.base k ≡ s)
      → on_seen (seen_at held) go k t s ≡ on_seen (seen_in whole held.size held.base) go k t (seen_in whole held.size held.base k)
  first go k base t s is found more (inl not_yet) = absurd (found (ap (λ v. (on_seen (seen_at held) go k t v).reached) not_yet))
  first go k base t s is found more (inr same) =
      goes go k base t s is found more same ∙ ap (on_seen (seen_in whole held.size held.base) go k t) (sym same)

  -- an answer, or a look that is too far, is the same
  pub asked : (a : Ask F) → AsksFrom held.base a → (t : Tally) → ((here a t).reached ≡ Missing → ⊥) → here a t ≡ there a t
  asked (Answer f) low t found = refl
  asked (Look k go) low t found =
      first go k low.0 t (seen_at held k) refl found (λ o u more. asked (go o) (low.1 o) u more) (seen_same held whole agrees k low.0)
