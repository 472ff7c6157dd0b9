-- One round over all unknowns, in place.
use Rattle.std.proofs.Common.{◌≡◌, ℕ, ◌+◌, ◌<◌, Bool, true, false, ◌||◌, Option, Some, None, List, length, set, refl, sym, ap, subst, ◌∙◌, arith, inl, inr, below_more, length-set}
use Rattle.dfdl_suspend.specs.Asks.{Asks, Gets, at, gives, filled}
use Rattle.dfdl_suspend.specs.Rounds.{Reached, assigned}
use Rattle.dfdl_suspend.specs.Tries.{Tried}
use Rattle.dfdl_suspend.proofs.Trees.{below_set}
use Rattle.dfdl_suspend.proofs.Places.{at_set_same}
use Rattle.dfdl_suspend.proofs.Solving.{grown}

-- so far: whether an unknown got a value, and that none of those so far gets one where none did
pub record Going {V : Type 0} (equation : ℕ → Asks V) (old now : List (Option V)) (n : ℕ) (moved : Bool) : Type 0 where
  pub long : length now ≡ length old
  pub reached : Reached (length old) equation now
  pub more : moved ≡ true → filled old < filled now
  pub still : moved ≡ false → (now ≡ old) × ((cell : ℕ) → cell < n → (value : V) → at old cell ≡ None → gives (equation cell) old ≡ Gets value → ⊥)

pub filled_set : {V : Type 0} (a : List (Option V)) (cell : ℕ) (v : V) → cell < length a → at a cell ≡ None → filled a < filled (set a cell (Some v))
filled_set a cell v within none = elim (grown a (set a cell (Some v)) (sym (length-set a cell (Some v))) (below_set a cell v none)) [
  | inl same ↦ absurd (clash (at a cell) v (ap (λ b. at b cell) same ∙ at_set_same a cell (Some v) within) none)
  | inr less ↦ less
]
  where
    clash : {X : Type 0} (o : Option X) (x : X) → o ≡ Some x → o ≡ None → ⊥
    clash o x some none = cc

more_of : {A : Type 0} (moved tried : Bool) → (moved ≡ true → A) → (moved ≡ false → tried ≡ true → A) → (moved || tried) ≡ true → A
more_of true tried a b e = a refl
more_of false tried a b e = b refl e

still_of : (moved tried : Bool) → (moved || tried) ≡ false → (moved ≡ false) × (tried ≡ false)
still_of true tried e = absurd (cc)
still_of false tried e = (refl, e)

module _ {V : Type 0} (equation : ℕ → Asks V) (old now new : List (Option V)) (n : ℕ) (moved : Bool) (within : n < length old) (going : Going equation old now n moved) where
  -- one unknown more
  pub going_more : (tried : Bool) → Tried equation n now new tried → Going equation old new (n + 1) (moved || tried)
  going_more true did =
      let less : filled now < filled new = subst (λ b. filled now < filled b) (sym did.3) (filled_set now n did.0 (omega (arith, going.long)) did.1) in
      record {
        long = ap (λ b. length b) did.3 ∙ (length-set now n (Some did.0) ∙ going.long);
        reached = subst (λ b. Reached (length old) equation b) (sym did.3) (assigned n did.0 going.reached within did.1 did.2);
        more = λ e. more_of {A = filled old < filled new} moved true (λ yes_. omega (arith, going.more yes_)) (λ still_ tried_. subst (λ b. filled b < filled new) (going.still still_).0 less) e;
        still = λ e. absurd (true_false (still_of moved true e).1);
      }
    where
      true_false : true ≡ false → ⊥
      true_false e = cc
  going_more false did = record {
    long = ap (λ b. length b) did.0 ∙ going.long;
    reached = subst (λ b. Reached (length old) equation b) (sym did.0) going.reached;
    more = λ e. more_of {A = filled old < filled new} moved false (λ yes_. subst (λ b. filled old < filled b) (sym did.0) (going.more yes_)) (λ still_ tried_. absurd (false_true tried_)) e;
    still = λ e.
        let calm : moved ≡ false = (still_of moved false e).0 in
        let same : now ≡ old = (going.still calm).0 in (
          did.0 ∙ same,
          below_more (λ cell. (value : V) → at old cell ≡ None → gives (equation cell) old ≡ Gets value → ⊥) n (going.still calm).1
              (subst (λ b. (value : V) → at b n ≡ None → gives (equation n) b ≡ Gets value → ⊥) same did.1),
        );
  }
    where
      false_true : false ≡ true → ⊥
      false_true e = cc
