-- Reading a variable changes no answer.
use Rattle.std.proofs.Common.{◌≡◌, ℕ, refl, ap, ◌∙◌}
use Rattle.dfdl_value.specs.declared.value.Value.{Value}
use Rattle.dfdl_expression_eval.specs.Asks.{Asks, Is, Fails, Ask, Query, Item, Count, Length, Variable, OccursIndex, gives, on_known}
use Rattle.dfdl_expression_eval.specs.Runs.{after_query, run, told}
use Rattle.dfdl_expression_eval.specs.declared.env.Evaluated.{Evaluated}
use Rattle.dfdl_expression_eval.specs.declared.env.Evaluated.TheVariants.{Known, Wait, Fault}

module _ {S : Type 0} (answers : S → Query → Evaluated) (read : S → ℕ → S) (steady : (s : S) (number : ℕ) → answers (read s number) ≡ answers s) where
  same : (q : Query) (s : S) → answers (after_query read q s) ≡ answers s
  same (Item path places) s = refl
  same (Count path places) s = refl
  same (Length path places extent) s = refl
  same (Variable number) s = steady s number
  same OccursIndex s = refl

  by_answer : (e : Evaluated) (t : S) (f : Value → S → Evaluated × S) (g : Value → Evaluated) → ((v : Value) → (f v t).0 ≡ g v) → (told e t f).0 ≡ on_known e g
  by_answer (Known v) t f g each = each v
  by_answer (Wait unknown) t f g each = refl
  by_answer (Fault cause) t f g each = refl

  -- what a run gives is what the answers give that were there when it began
  pub run_gives : (asks : Asks) (s : S) → (run answers read asks s).0 ≡ gives asks (answers s)
  run_gives (Is value) s = refl
  run_gives (Fails cause) s = refl
  run_gives (Ask query more) s =
      by_answer (answers s query) (after_query read query s) (λ v t. run answers read (more v) t) (λ v. gives (more v) (answers s))
      (λ v. run_gives (more v) (after_query read query s) ∙ ap (gives (more v)) (same query s))
