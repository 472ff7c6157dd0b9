-- A program that comes to a byte that hasn't come: the data that have come, taken as whole, end there.
use Rattle.std.proofs.Common.{◌≡◌, ℕ, suc, ◌+◌, ◌-◌, ◌<◌, ◌≤◌, ◌⊎◌, inl, inr, refl, List, length, get_or, Bool, true, false, max, leb, ltb, Option, Some, None, ap, sym, ◌∙◌, subst, arith}
use Rattle.std.proofs.lemmas.Bool.Decides.{nat_tests}
use Rattle.dfdl_bits.specs.Window.{Held, end_of, seen_at}
use Rattle.dfdl_bits.specs.declared.window.Seen.{Seen}
use Rattle.dfdl_bits.specs.declared.window.Seen.TheVariants.{Byte, End, NotYet, Over}
use Rattle.dfdl_looks.specs.Looks.{Agrees, seen_in}
use Rattle.dfdl_looks.specs.Tallies.{Tally, first_of, saw_byte, saw_end, saw_none}
use Rattle.dfdl_looks.specs.Asks.{Ask, Answer, Look, Missing, Reading, ask, AsksFrom}
use Rattle.dfdl_looks.proofs.Seeing.{seen_same, ends_there, seen_within, no_end, shown}
use Rattle.dfdl_looks.proofs.Resumed.{on_seen}

-- where a byte hasn't come, the end wasn't told, and there is room for it
not_yet : (held : Held) (k : ℕ) (o i e : Bool) → leb held.size (k - held.base) ≡ o → ltb (k - held.base) (length held.bytes) ≡ i → held.ended ≡ e
    → shown o i e (get_or held.bytes (k - held.base) 0) ≡ NotYet → (held.ended ≡ false) × (length held.bytes < held.size)
not_yet held k true i e over is ended at = absurd (cc)
not_yet held k false true e over is ended at = absurd (cc)
not_yet held k false false true over is ended at = absurd (cc)
not_yet held k false false false over is ended at = (ended, grind (arith, nat_tests))

module _ {F : Type 0} (look : ℕ → Seen) where
  -- the first look that found no byte stays the one that is told of
  tail-behind : (go : Option ℕ → Ask F) (k n : ℕ) (t : Tally) → t.tail ≡ suc n
      → ((o : Option ℕ) (u : Tally) → u.tail ≡ suc n → (ask look (go o) u).tally.tail ≡ suc n)
      → (s : Seen) → (on_seen look go k t s).tally.tail ≡ suc n
  tail-behind go k n t is more (Byte b) = more (Some b) (saw_byte k t) is
  tail-behind go k n t is more End = more None (saw_end k t) (ap (λ (x : ℕ). first_of x (t.looks + 1)) is)
  tail-behind go k n t is more NotYet = is
  tail-behind go k n t is more Over = is

  pub tail-stays : (a : Ask F) (n : ℕ) (t : Tally) → t.tail ≡ suc n → (ask look a t).tally.tail ≡ suc n
  tail-stays (Answer f) n t is = is
  tail-stays (Look k go) n t is = tail-behind go k n t is (λ o u tail. tail-stays (go o) n u tail) (look k)

  far-behind : (go : Option ℕ → Ask F) (k n : ℕ) (t : Tally) → n ≤ t.far
      → ((o : Option ℕ) (u : Tally) → n ≤ u.far → n ≤ (ask look (go o) u).tally.far)
      → (s : Seen) → n ≤ (on_seen look go k t s).tally.far
  far-behind go k n t is more (Byte b) = more (Some b) (saw_byte k t) (omega arith)
  far-behind go k n t is more End = more None (saw_end k t) (omega arith)
  far-behind go k n t is more NotYet = is
  far-behind go k n t is more Over = is

  pub far-grows : (a : Ask F) (n : ℕ) (t : Tally) → n ≤ t.far → n ≤ (ask look a t).tally.far
  far-grows (Answer f) n t is = is
  far-grows (Look k go) n t is = far-behind go k n t is (λ o u far. far-grows (go o) n u far) (look k)

module _ {F : Type 0} (held : Held) where
  abbrev here : Ask F → Tally → Reading F
  here = ask (seen_at held)

  stops : (go : Option ℕ → Ask F) (k : ℕ) (t : Tally) (s : Seen) → seen_at held k ≡ s
      → (on_seen (seen_at held) go k t s).reached ≡ Missing
      → ((o : Option ℕ) (u : Tally) → (here (go o) u).reached ≡ Missing → (held.ended ≡ false) × (length held.bytes < held.size))
      → (held.ended ≡ false) × (length held.bytes < held.size)
  stops go k t (Byte b) is missing more = more (Some b) (saw_byte k t) missing
  stops go k t End is missing more = more None (saw_end k t) missing
  stops go k t NotYet is missing more = not_yet held k _ _ _ refl refl refl is
  stops go k t Over is missing more = absurd (cc)

  -- a program waits only while the end of the data wasn't told and there is room for a byte
  pub waits_while : (a : Ask F) (t : Tally) → (here a t).reached ≡ Missing → (held.ended ≡ false) × (length held.bytes < held.size)
  waits_while (Answer f) t missing = absurd (cc)
  waits_while (Look k go) t missing = stops go k t (seen_at held k) refl missing (λ o u more. waits_while (go o) u more)

  -- while the end of the data wasn't told, none is found, and no byte is seen that hasn't come
  kept-behind : held.ended ≡ false → (go : Option ℕ → Ask F) (k : ℕ) → held.base ≤ k → (t : Tally) (s : Seen) → seen_at held k ≡ s
      → ((o : Option ℕ) (u : Tally) → ((here (go o) u).tally.tail ≡ u.tail) × ((here (go o) u).tally.far ≤ max u.far (end_of held)))
      → ((on_seen (seen_at held) go k t s).tally.tail ≡ t.tail) × ((on_seen (seen_at held) go k t s).tally.far ≤ max t.far (end_of held))
  kept-behind on go k base t (Byte b) is more =
      let within : k + 1 ≤ end_of held = seen_within held k b base is in
      let rest = more (Some b) (saw_byte k t) in
      (rest.0, omega (arith, rest.1))
  kept-behind on go k base t End is more = absurd (no_end held k on is)
  kept-behind on go k base t NotYet is more = (refl, omega arith)
  kept-behind on go k base t Over is more = (refl, omega arith)

  pub kept : held.ended ≡ false → (a : Ask F) → AsksFrom held.base a → (t : Tally)
      → ((here a t).tally.tail ≡ t.tail) × ((here a t).tally.far ≤ max t.far (end_of held))
  kept on (Answer f) low t = (refl, omega arith)
  kept on (Look k go) low t = kept-behind on go k low.0 t (seen_at held k) refl (λ o u. kept on (go o) (low.1 o) u)

module _ {F : Type 0} (held : Held) (whole : List ℕ) (agrees : Agrees held whole) (all : length whole ≡ end_of held) (on : held.ended ≡ false) where
  abbrev now : Ask F → Tally → Reading F
  now = ask (seen_at held)

  abbrev there : Ask F → Tally → Reading F
  there = ask (seen_in whole held.size held.base)

  abbrev IsLost : Reading F → Reading F → Type 0
  IsLost seen told = (told.tally.tail ≡ seen.tally.looks) × (length whole < told.tally.far)

  lost : (go : Option ℕ → Ask F) (k : ℕ) → held.base ≤ k → (t : Tally) → t.tail ≡ 0 → (s : Seen) → seen_at held k ≡ s
      → (on_seen (seen_at held) go k t s).reached ≡ Missing
      → ((o : Option ℕ) (u : Tally) → u.tail ≡ 0 → (now (go o) u).reached ≡ Missing → IsLost (now (go o) u) (there (go o) u))
      → (s ≡ NotYet) ⊎ (seen_in whole held.size held.base k ≡ s)
      → IsLost (on_seen (seen_at held) go k t s) (on_seen (seen_in whole held.size held.base) go k t (seen_in whole held.size held.base k))
  lost go k base t none (Byte b) is missing more (inl same) = absurd (cc)
  lost go k base t none (Byte b) is missing more (inr same) =
      subst (λ (v : Seen). IsLost (now (go (Some b)) (saw_byte k t)) (on_seen (seen_in whole held.size held.base) go k t v)) (sym same)
      (more (Some b) (saw_byte k t) none missing)
  lost go k base t none End is missing more same = absurd (no_end held k on is)
  lost go k base t none NotYet is missing more same =
      let ends = ends_there held whole agrees all k base is in
      let tail_is : first_of t.tail (t.looks + 1) ≡ suc t.looks = ap (λ (x : ℕ). first_of x (t.looks + 1)) none ∙ one_more t.looks in
      let tail : (there (go None) (saw_end k t)).tally.tail ≡ suc t.looks = tail-stays (seen_in whole held.size held.base) (go None) t.looks (saw_end k t) tail_is in
      let far : k + 1 ≤ (there (go None) (saw_end k t)).tally.far = far-grows (seen_in whole held.size held.base) (go None) (k + 1) (saw_end k t) (omega arith) in
      let behind : length whole ≤ k = ends.1 in
      subst (λ (v : Seen). IsLost (record { reached = Missing; tally = saw_none t }) (on_seen (seen_in whole held.size held.base) go k t v)) (sym ends.0)
      (tail ∙ sym (one_more t.looks), omega arith)
    where
      one_more : (n : ℕ) → n + 1 ≡ suc n
      one_more n = omega arith
  lost go k base t none Over is missing more same = absurd (cc)

  -- the data that have come, taken as whole, end in the program
  pub missed : (a : Ask F) → AsksFrom held.base a → (t : Tally) → t.tail ≡ 0 → (now a t).reached ≡ Missing → IsLost (now a t) (there a t)
  missed (Answer f) low t none missing = absurd (cc)
  missed (Look k go) low t none missing =
      lost go k low.0 t none (seen_at held k) refl missing (λ o u tail more. missed (go o) (low.1 o) u tail more) (seen_same held whole agrees k low.0)

-- a program that waits has looked
counted-behind : {F : Type 0} (look : ℕ → Seen) (go : Option ℕ → Ask F) (k : ℕ) (t : Tally) (s : Seen)
    → (on_seen look go k t s).reached ≡ Missing
    → ((o : Option ℕ) (u : Tally) → (ask look (go o) u).reached ≡ Missing → 0 < (ask look (go o) u).tally.looks)
    → 0 < (on_seen look go k t s).tally.looks
counted-behind look go k t (Byte b) missing more = more (Some b) (saw_byte k t) missing
counted-behind look go k t End missing more = more None (saw_end k t) missing
counted-behind look go k t NotYet missing more = omega arith
counted-behind look go k t Over missing more = absurd (cc)

pub counted : {F : Type 0} (look : ℕ → Seen) (a : Ask F) (t : Tally) → (ask look a t).reached ≡ Missing → 0 < (ask look a t).tally.looks
counted look (Answer f) t missing = absurd (cc)
counted look (Look k go) t missing = counted-behind look go k t (look k) missing (λ o u more. counted look (go o) u more)
