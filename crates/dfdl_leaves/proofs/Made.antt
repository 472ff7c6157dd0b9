-- A reading of which something is made.
use Rattle.std.proofs.Common.{◌≡◌, ℕ, refl, ap, sym, subst, ◌∙◌}
use Rattle.dfdl_bits.specs.declared.window.Seen.{Seen}
use Rattle.dfdl_looks.specs.Asks.{Ask, Answer, Reached, Told, TooFar, Missing, Reading, and_then, ask, go_on}
use Rattle.dfdl_looks.specs.Tallies.{Tally, nothing}
use Rattle.dfdl_looks.proofs.Sequels.{ask-then}
use Rattle.dfdl_grammar.specs.Leaves.{Find}
use Rattle.dfdl_leaves.specs.declared.leaf.Found.{Found}
use Rattle.dfdl_leaves.specs.declared.leaf.Scratch.{Scratch}
use Rattle.dfdl_leaves.specs.Readings.{Answers, found_shown}
use Rattle.dfdl_leaves.specs.Strings.{made_of}
use Rattle.dfdl_leaves.proofs.Ends.{AtEnd}

-- what holds of an answer that is told
abbrev pub OnTold : {F : Type 0} → (F → Type 0) → Reached F → Type 0
OnTold P (Told f) = P f
OnTold P TooFar = Unit {0}
OnTold P Missing = Unit {0}

module _ {F : Type 0} (look : ℕ → Seen) (make : F → Find) where
  behind-made : (r : Reached F) (t : Tally) → go_on look (λ told. Answer (make told)) r t ≡ record { reached = made_of make r; tally = t }
  behind-made (Told told) t = refl
  behind-made TooFar t = refl
  behind-made Missing t = refl

  made : (a : Ask F) (t : Tally)
      → ask look (and_then a (λ told. Answer (make told))) t ≡ record { reached = made_of make (ask look a t).reached; tally = (ask look a t).tally }
  made a t = ask-then look (λ told. Answer (make told)) a t ∙ behind-made (ask look a t).reached (ask look a t).tally

  -- the answer of what is made, by that of the reading
  pub made_read : (a : Ask F) (r : Reached F) (looks far : ℕ) (scratch : Scratch) (found : Found)
      → (ask look a nothing).reached ≡ r → (ask look a nothing).tally.looks ≡ looks → (ask look a nothing).tally.far ≡ far
      → found_shown scratch found ≡ made_of make r
      → Answers (ask look (and_then a (λ told. Answer (make told))) nothing) scratch (record { found = found; far = far }) looks
  made_read a r looks far scratch found reached looked seen shown =
      let whole = made a nothing in
      record {
        reached = ap (λ (x : Reading Find). x.reached) whole ∙ ap (made_of make) reached ∙ sym shown;
        looks = ap (λ (x : Reading Find). x.tally.looks) whole ∙ looked;
        far = ap (λ (x : Reading Find). x.tally.far) whole ∙ seen;
      }

  at-made : (P : ℕ → Type 0) (Q : F → Type 0) → ((told : F) → Q told → AtEnd P (Told (make told))) → (r : Reached F) → OnTold Q r → AtEnd P (made_of make r)
  at-made P Q each (Told told) is = each told is
  at-made P Q each TooFar is = tt
  at-made P Q each Missing is = tt

  -- where what is made ends, by what is told
  pub made-ends : (P : ℕ → Type 0) (Q : F → Type 0) → ((told : F) → Q told → AtEnd P (Told (make told))) → (a : Ask F) (t : Tally) → OnTold Q (ask look a t).reached
      → AtEnd P (ask look (and_then a (λ told. Answer (make told))) t).reached
  made-ends P Q each a t is =
      subst (λ (x : Reading Find). AtEnd P x.reached) (sym (made a t)) (at-made P Q each (ask look a t).reached is)
