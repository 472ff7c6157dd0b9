-- What the code has found is what the questions of slots come to.
use Rattle.std.proofs.Common.{◌≡◌, ℕ, ◌+◌, ◌-◌, ◌/◌, ◌&&◌, max, nat_le, refl, List, Bool, true, false, cond, Option, Some, None, ap, sym, subst, ◌∙◌, arith}
use Rattle.dfdl_bits.specs.declared.window.Seen.{Seen}
use Rattle.dfdl_bits.specs.declared.window.Seen.TheVariants.{Byte, End as DataEnded, NotYet as NotSeen, Over}
use Rattle.dfdl_delims.specs.declared.found.Found.{Found}
use Rattle.dfdl_delims.specs.declared.found.Found.TheVariants.{Match, None as NoMatch, NotYet as NotFound, Over as Past}
use Rattle.dfdl_delims.specs.declared.found.Glance.{Glance}
use Rattle.dfdl_delims.specs.Lists.{Opened}
use Rattle.dfdl_delims.specs.Longest.{Answers as Glances, Longest, found_shown}
use Rattle.dfdl_looks.specs.Asks.{Ask, Answer, Look, Reached, Reading, and_then, ask, go_on, look_at}
use Rattle.dfdl_looks.specs.Tallies.{Tally, nothing, saw_byte, saw_end}
use Rattle.dfdl_looks.proofs.Resumed.{on_seen}
use Rattle.dfdl_looks.proofs.Sequels.{ask-then}
use Rattle.dfdl_grammar.specs.Delimiters.{sought_among}
use Rattle.dfdl_grammar.specs.Slots.{is_empty_at, is_found, is_found_at, markup_follows, separator_follows}
use Rattle.dfdl_parse.specs.declared.testing.Told.{Told}
use Rattle.dfdl_parse.specs.declared.testing.Verdict.TheVariants.{Holds, Past as TooMuch, NotYet}
use Rattle.dfdl_parse.specs.SlotLooks.{Answers, any_found, found_at}

module _ (look : ℕ → Seen) where
  any-shown : (found : Found) (t : Tally) (looks far : ℕ) → t.looks ≡ looks → t.far ≡ far
      → Answers (go_on look (λ f. Answer (is_found f)) (found_shown found) t) (record { verdict = any_found found; far = far }) looks
  any-shown (Match which bits) t looks far looks_are far_is = record { reached = refl; looks = looks_are; far = far_is }
  any-shown NoMatch t looks far looks_are far_is = record { reached = refl; looks = looks_are; far = far_is }
  any-shown NotFound t looks far looks_are far_is = record { reached = refl; looks = looks_are; far = far_is }
  any-shown Past t looks far looks_are far_is = record { reached = refl; looks = looks_are; far = far_is }

  at-shown : (place : ℕ) (found : Found) (t : Tally) (looks far : ℕ) → t.looks ≡ looks → t.far ≡ far
      → Answers (go_on look (λ f. Answer (is_found_at place f)) (found_shown found) t) (record { verdict = found_at place found; far = far }) looks
  at-shown place (Match which bits) t looks far looks_are far_is = record { reached = refl; looks = looks_are; far = far_is }
  at-shown place NoMatch t looks far looks_are far_is = record { reached = refl; looks = looks_are; far = far_is }
  at-shown place NotFound t looks far looks_are far_is = record { reached = refl; looks = looks_are; far = far_is }
  at-shown place Past t looks far looks_are far_is = record { reached = refl; looks = looks_are; far = far_is }

  pub follows-answers : (lists : List Opened) (bit stop : ℕ) (glance : Glance) (looks : ℕ) → Glances (ask look (sought_among lists bit stop) nothing) glance looks
      → Answers (ask look (markup_follows lists bit stop) nothing) (record { verdict = any_found glance.found; far = glance.far }) looks
  follows-answers lists bit stop glance looks answers =
      let a : Ask Longest = sought_among lists bit stop in
      subst (λ (r : Reading Bool). Answers r (record { verdict = any_found glance.found; far = glance.far }) looks)
      (sym (ask-then look (λ f. Answer (is_found f)) a nothing))
      (subst (λ (r : Reached Longest). Answers (go_on look (λ f. Answer (is_found f)) r (ask look a nothing).tally)
      (record { verdict = any_found glance.found; far = glance.far }) looks) (sym answers.reached)
      (any-shown glance.found (ask look a nothing).tally looks glance.far answers.looks answers.far))

  pub separator-answers : (lists : List Opened) (place bit stop : ℕ) (glance : Glance) (looks : ℕ) → Glances (ask look (sought_among lists bit stop) nothing) glance looks
      → Answers (ask look (separator_follows lists place bit stop) nothing) (record { verdict = found_at place glance.found; far = glance.far }) looks
  separator-answers lists place bit stop glance looks answers =
      let a : Ask Longest = sought_among lists bit stop in
      subst (λ (r : Reading Bool). Answers r (record { verdict = found_at place glance.found; far = glance.far }) looks)
      (sym (ask-then look (λ f. Answer (is_found_at place f)) a nothing))
      (subst (λ (r : Reached Longest). Answers (go_on look (λ f. Answer (is_found_at place f)) r (ask look a nothing).tally)
      (record { verdict = found_at place glance.found; far = glance.far }) looks) (sym answers.reached)
      (at-shown place glance.found (ask look a nothing).tally looks glance.far answers.looks answers.far))

-- two readings come to the same, where so many more looks were made before the second, and one that saw this far
record Later {F : Type 0} (n reach : ℕ) (a b : Reading F) : Type 0 where
  reached : a.reached ≡ b.reached
  looks : a.tally.looks + n ≡ b.tally.looks
  far : b.tally.far ≡ max a.tally.far reach

module _ {F : Type 0} (look : ℕ → Seen) (n reach : ℕ) where
  later-seen : (next : Option ℕ → Ask F) (k : ℕ) (t u : Tally) → t.looks + n ≡ u.looks → u.far ≡ max t.far reach
      → ((o : Option ℕ) (v w : Tally) → v.looks + n ≡ w.looks → w.far ≡ max v.far reach → Later n reach (ask look (next o) v) (ask look (next o) w))
      → (s : Seen) → Later n reach (on_seen look next k t s) (on_seen look next k u s)
  later-seen next k t u looks far more (Byte b) = more (Some b) (saw_byte k t) (saw_byte k u) (omega arith) (omega arith)
  later-seen next k t u looks far more DataEnded = more None (saw_end k t) (saw_end k u) (omega arith) (omega arith)
  later-seen next k t u looks far more NotSeen = record { reached = refl; looks = omega arith; far = far }
  later-seen next k t u looks far more Over = record { reached = refl; looks = omega arith; far = far }

  later : (a : Ask F) (t u : Tally) → t.looks + n ≡ u.looks → u.far ≡ max t.far reach → Later n reach (ask look a t) (ask look a u)
  later (Answer f) t u looks far = record { reached = refl; looks = looks; far = far }
  later (Look k next) t u looks far = later-seen next k t u looks far (λ o v w more same. later (next o) v w more same) (look k)

-- a slot whose first byte is seen is empty where terminating markup follows
module _ (look : ℕ → Seen) (lists : List Opened) (bit stop : ℕ) (inside : nat_le stop bit ≡ false) where
  abbrev first : Ask Bool
  first = and_then (look_at 1 (bit / 8) true (λ bytes. false)) (λ over. cond over (Answer true) (markup_follows lists bit stop))

  inside-is : ask look (is_empty_at lists bit stop) nothing ≡ ask look first nothing
  inside-is = ap (λ (b : Bool). ask look (cond b (Answer true) first) nothing) inside

  abbrev go : Option ℕ → Ask Bool
  go o = and_then (elim o [ None ↦ Answer true | Some byte ↦ Answer false ]) (λ over. cond over (Answer true) (markup_follows lists bit stop))

  seen-is : (v : Seen) → look (bit / 8) ≡ v → ask look first nothing ≡ on_seen look go (bit / 8) nothing v
  seen-is v is = ap (on_seen look go (bit / 8) nothing) is

  pub byte-answers : (byte : ℕ) (told : Told) (looks : ℕ) → look (bit / 8) ≡ Byte byte → Answers (ask look (markup_follows lists bit stop) nothing) told looks
      → Answers (ask look (is_empty_at lists bit stop) nothing) (record { verdict = told.verdict; far = max told.far (bit / 8 + 1) }) (looks + 1)
  byte-answers byte told looks is answers =
      let whole : Reading Bool = ask look (markup_follows lists bit stop) (saw_byte (bit / 8) nothing) in
      let same = later look 1 (bit / 8 + 1) (markup_follows lists bit stop) nothing (saw_byte (bit / 8) nothing) refl refl in
      subst (λ (r : Reading Bool). Answers r (record { verdict = told.verdict; far = max told.far (bit / 8 + 1) }) (looks + 1))
      (sym (inside-is ∙ seen-is (Byte byte) is))
      (record {
        reached = sym same.reached ∙ answers.reached;
        looks = sym same.looks ∙ ap (λ (n : ℕ). n + 1) answers.looks;
        far = same.far ∙ ap (λ (n : ℕ). max n (bit / 8 + 1)) answers.far;
      })

  pub end-answers : look (bit / 8) ≡ DataEnded → Answers (ask look (is_empty_at lists bit stop) nothing) (record { verdict = Holds true; far = bit / 8 + 1 }) 1
  end-answers is =
      subst (λ (r : Reading Bool). Answers r (record { verdict = Holds true; far = bit / 8 + 1 }) 1) (sym (inside-is ∙ seen-is DataEnded is))
      (record { reached = refl; looks = refl; far = omega arith })

  pub over-answers : look (bit / 8) ≡ Over → Answers (ask look (is_empty_at lists bit stop) nothing) (record { verdict = TooMuch; far = 0 }) 1
  over-answers is =
      subst (λ (r : Reading Bool). Answers r (record { verdict = TooMuch; far = 0 }) 1) (sym (inside-is ∙ seen-is Over is))
      (record { reached = refl; looks = refl; far = refl })

  pub none-answers : look (bit / 8) ≡ NotSeen → Answers (ask look (is_empty_at lists bit stop) nothing) (record { verdict = NotYet; far = 0 }) 1
  none-answers is =
      subst (λ (r : Reading Bool). Answers r (record { verdict = NotYet; far = 0 }) 1) (sym (inside-is ∙ seen-is NotSeen is))
      (record { reached = refl; looks = refl; far = refl })
