-- Readings of programs one after the other.
use Rattle.std.proofs.Common.{◌≡◌, ℕ, ◌+◌, ◌-◌, ◌/◌, ◌≤◌, Bool, List, max, refl, ap, sym, subst, ◌∙◌, Option, Some, None, arith}
use Rattle.dfdl_forms.specs.declared.encoding.Encoding.{Encoding}
use Rattle.dfdl_bits.specs.declared.window.Seen.{Seen}
use Rattle.dfdl_bits.specs.declared.window.Seen.TheVariants.{Byte, End, NotYet, Over}
use Rattle.dfdl_looks.specs.Tallies.{Tally, nothing, saw_byte, saw_end}
use Rattle.dfdl_looks.specs.Asks.{Ask, Answer, Look, Reached, Reading, ask, and_then, go_on}
use Rattle.dfdl_looks.proofs.Resumed.{on_seen}
use Rattle.dfdl_looks.proofs.Sequels.{ask-then}
use Rattle.dfdl_chars.specs.declared.decode.Chars.{Chars}
use Rattle.dfdl_texts.specs.Units.{IsUnit, reached_of, unit_at}
use Rattle.dfdl_delims.specs.declared.found.Glance.{Glance}
use Rattle.dfdl_delims.specs.Lists.{Opened}
use Rattle.dfdl_delims.specs.Longest.{Answers, found_shown, longest_at}
use Rattle.dfdl_escapes.specs.Readings.{Comes}

-- the second reading comes to the same as the first, behind this cost
record Behind {F : Type 0} (t : Tally) (a b : Reading F) : Type 0 where
  pub reached : b.reached ≡ a.reached
  pub looks : b.tally.looks ≡ t.looks + a.tally.looks
  pub far : b.tally.far ≡ max t.far a.tally.far

module _ {F : Type 0} (look : ℕ → Seen) (t : Tally) where
  behind-seen : (next : Option ℕ → Ask F) (k : ℕ) (u v : Tally) → v.looks ≡ t.looks + u.looks → v.far ≡ max t.far u.far
      → ((o : Option ℕ) (w x : Tally) → x.looks ≡ t.looks + w.looks → x.far ≡ max t.far w.far → Behind t (ask look (next o) w) (ask look (next o) x))
      → (s : Seen) → Behind t (on_seen look next k u s) (on_seen look next k v s)
  behind-seen next k u v looks far more (Byte b) = more (Some b) (saw_byte k u) (saw_byte k v) (omega arith) (omega arith)
  behind-seen next k u v looks far more End = more None (saw_end k u) (saw_end k v) (omega arith) (omega arith)
  behind-seen next k u v looks far more NotYet = record { reached = refl; looks = omega arith; far = far }
  behind-seen next k u v looks far more Over = record { reached = refl; looks = omega arith; far = far }

  behind : (a : Ask F) (u v : Tally) → v.looks ≡ t.looks + u.looks → v.far ≡ max t.far u.far → Behind t (ask look a u) (ask look a v)
  behind (Answer f) u v looks far = record { reached = refl; looks = looks; far = far }
  behind (Look k next) u v looks far = behind-seen next k u v looks far (λ o w x more same. behind (next o) w x more same) (look k)

-- what a program comes to behind any cost, by what it comes to behind none
pub anywhere : {F : Type 0} (look : ℕ → Seen) (a : Ask F) (to : Reached F) (looks far : ℕ)
    → (ask look a nothing).reached ≡ to → (ask look a nothing).tally.looks ≡ looks → (ask look a nothing).tally.far ≡ far
    → (t : Tally) → Comes t (ask look a t) to looks far
anywhere look a to looks far reached looks_are far_is t =
    let there = behind look t a nothing t (omega arith) (omega arith) in
    record {
      reached = there.reached ∙ reached;
      looks = there.looks ∙ ap (λ (n : ℕ). t.looks + n) looks_are;
      far = there.far ∙ ap (max t.far) far_is;
    }

-- the other way round, behind no cost
pub from-none : {F : Type 0} (look : ℕ → Seen) (a : Ask F) (to : Reached F) (looks far : ℕ) → ((t : Tally) → Comes t (ask look a t) to looks far)
    → ((ask look a nothing).reached ≡ to) × ((ask look a nothing).tally.looks ≡ looks) × ((ask look a nothing).tally.far ≡ far)
from-none look a to looks far comes =
    let here = comes nothing in
    let count = here.looks in
    let seen = here.far in
    (here.reached, omega arith, omega arith)

-- an answer costs nothing
pub told : {F : Type 0} (t : Tally) (reading : Reading F) (to : Reached F) → reading ≡ record { reached = to; tally = t } → Comes t reading to 0 0
told {F} t reading to is =
    subst (λ (r : Reading F). Comes t r to 0 0) (sym is) (record { reached = refl; looks = omega arith; far = omega arith })

-- what is the same comes to the same
pub same-comes : {F : Type 0} (t : Tally) (a b : Reading F) (to : Reached F) (looks far : ℕ) → a ≡ b → Comes t b to looks far → Comes t a to looks far
same-comes {F} t a b to looks far same comes = subst (λ (r : Reading F). Comes t r to looks far) (sym same) comes

-- a program, and what goes on by its answer
pub then-comes : {F G : Type 0} (look : ℕ → Seen) (p : Ask F) (go : F → Ask G) (r : Reached F) (to : Reached G) (first second first_far second_far looks far : ℕ)
    → ((t : Tally) → Comes t (ask look p t) r first first_far) → ((t : Tally) → Comes t (go_on look go r t) to second second_far)
    → looks ≡ first + second → far ≡ max first_far second_far → (t : Tally) → Comes t (ask look (and_then p go) t) to looks far
then-comes {F} {G} look p go r to first second first_far second_far looks far begins goes looks_are far_is t =
    let here = begins t in
    let rest = goes (ask look p t).tally in
    let whole : ask look (and_then p go) t ≡ go_on look go r (ask look p t).tally =
    ask-then look go p t ∙ ap (λ (x : Reached F). go_on look go x (ask look p t).tally) here.reached in
    let here_looks = here.looks in
    let here_far = here.far in
    let rest_looks = rest.looks in
    let rest_far = rest.far in
    subst (λ (x : Reading G). Comes t x to looks far) (sym whole)
    (record { reached = rest.reached; looks = omega arith; far = omega arith })

-- a unit that was decoded
pub unit-comes : (look : ℕ → Seen) (enc : Encoding) (stop k from to seen : ℕ) (chars : Chars)
    → ((t : Tally) → IsUnit chars seen from to t (ask look (unit_at enc stop k) t))
    → (t : Tally) → Comes t (ask look (unit_at enc stop k) t) (reached_of chars) (to - from) seen
unit-comes look enc stop k from to seen chars is t =
    let first = (is nothing).looks in
    let here = (is t).looks in
    record { reached = (is t).reached; looks = omega arith; far = (is t).far }

-- the longest text that was found
pub longest-comes : (look : ℕ → Seen) (test : List ℕ → Bool) (lists : List Opened) (stop bit k looks : ℕ) (glance : Glance) → bit / 8 ≡ k
    → Answers (ask look (longest_at test lists stop (bit / 8)) nothing) glance looks
    → (t : Tally) → Comes t (ask look (longest_at test lists stop k) t) (found_shown glance.found) looks glance.far
longest-comes look test lists stop bit k looks glance at answers =
    let here : Answers (ask look (longest_at test lists stop k) nothing) glance looks =
    subst (λ (j : ℕ). Answers (ask look (longest_at test lists stop j) nothing) glance looks) at answers in
    anywhere look (longest_at test lists stop k) (found_shown glance.found) looks glance.far here.reached here.looks here.far

-- looks are never taken back
pub unit-steps : (look : ℕ → Seen) (enc : Encoding) (stop k from to seen : ℕ) (chars : Chars)
    → ((t : Tally) → IsUnit chars seen from to t (ask look (unit_at enc stop k) t)) → from ≤ to
unit-steps look enc stop k from to seen chars is =
    let first = (is nothing).looks in
    omega arith

-- what a program comes to doesn't depend on the cost before it
pub reached-anywhere : {F : Type 0} (look : ℕ → Seen) (a : Ask F) (t : Tally) → (ask look a t).reached ≡ (ask look a nothing).reached
reached-anywhere look a t = (behind look t a nothing t (omega arith) (omega arith)).reached
