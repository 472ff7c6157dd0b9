-- What equations give over what is known.
use Rattle.std.proofs.Common.{◌≡◌, ℕ, Bool, true, false, if◌then◌else◌, List, Option, Result, Ok, Err, refl, subst, sym, ◌∙◌}
use Rattle.dfdl_suspend.specs.Asks.{Asks, Is, Fails, Gets, gives}
use Rattle.dfdl_suspend.specs.declared.known.Held.{Held}
use Rattle.dfdl_cells.proofs.Answered.{behind_onward, behind_same}
use Rattle.dfdl_cells.specs.Answers.{Answers}
use Rattle.dfdl_cells.specs.Asking.{behind, onward}
use Rattle.dfdl_cells.specs.declared.asking.Stop.{Stop}
use Rattle.dfdl_cells.specs.declared.asking.Stop.TheVariants.{Fault}

-- an equation gives this
pub record Comes (equation : Asks Held) (known : List (Option Held)) (answer : Result Held Stop) : Type 0 where
  pub gives_so : gives equation known ≡ behind answer (λ (held : Held). Gets held)

-- one question behind another
pub onward_twice : {A B C : Type 0} (first : Result A Stop) (next : A → Result B Stop) (last : B → Result C Stop)
    → onward (onward first next) last ≡ onward first (λ a. onward (next a) last)
onward_twice (Ok a) next last = refl
onward_twice (Err stop) next last = refl

module _ (known : List (Option Held)) where
  pub comes_is : (held : Held) → Comes (Is held) known (Ok held)
  comes_is held = record { gives_so = refl }

  -- behind a question
  pub comes_behind : {A : Type 0} (asked : (A → Asks Held) → Asks Held) (go : A → Asks Held) (first : Result A Stop) (next : A → Result Held Stop)
      → Answers asked known first → ((a : A) → Comes (go a) known (next a)) → Comes (asked go) known (onward first next)
  comes_behind asked go first next is each = record {
    gives_so =
        is.gives_so go
        ∙ (behind_same first (λ a. gives (go a) known) (λ a. behind (next a) (λ (held : Held). Gets held)) (λ a. (each a).gives_so)
        ∙ sym (behind_onward first next (λ (held : Held). Gets held)));
  }

  -- by a test
  pub comes_if : (test : Bool) (first second : Asks Held) (a b : Result Held Stop) → Comes first known a → Comes second known b
      → Comes (if test then first else second) known (if test then a else b)
  comes_if true first second a b one other = one
  comes_if false first second a b one other = other

  pub comes_same : (equation : Asks Held) (answer other : Result Held Stop) → other ≡ answer → Comes equation known answer → Comes equation known other
  comes_same equation answer other same comes = subst (Comes equation known) (sym same) comes

  pub comes_fails : (cause : ℕ) → Comes (Fails cause) known (Err (Fault cause))
  comes_fails cause = record { gives_so = refl }
