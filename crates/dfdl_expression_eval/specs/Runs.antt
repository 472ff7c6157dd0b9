-- What becomes of an environment while an expression is evaluated in it.
use Rattle.std.specs.Prelude.{ℕ}
use Rattle.dfdl_value.specs.declared.value.Value.{Value}
use Rattle.dfdl_expression_eval.specs.declared.env.Evaluated.{Evaluated}
use Rattle.dfdl_expression_eval.specs.declared.env.Evaluated.TheVariants.{Known, Wait, Fault}
use Rattle.dfdl_expression_eval.specs.Asks.{Asks, Is, Fails, Ask, Query, Item, Count, Length, Variable, OccursIndex}

-- what an environment is after a question: only reading a variable changes it
abbrev pub after_query : {S : Type 0} → (S → ℕ → S) → Query → S → S
after_query read (Item path places) s = s
after_query read (Count path places) s = s
after_query read (Length path places extent) s = s
after_query read (Variable number) s = read s number
after_query read OccursIndex s = s

-- a wait or a fault ends the run, and a value lets it go on
abbrev pub told : {S : Type 0} → Evaluated → S → (Value → S → Evaluated × S) → Evaluated × S
told (Known value) s go = go value s
told (Wait unknown) s go = (Wait unknown, s)
told (Fault cause) s go = (Fault cause, s)

-- what an expression gives, and what the environment is then: it is asked one question after another
abbrev pub run : {S : Type 0} → (S → Query → Evaluated) → (S → ℕ → S) → Asks → S → Evaluated × S
run answers read (Is value) s = (Known value, s)
run answers read (Fails cause) s = (Fault cause, s)
run answers read (Ask query more) s = told (answers s query) (after_query read query s) (λ value t. run answers read (more value) t)

-- what the environment is behind an expression
abbrev pub left_by : {S : Type 0} → (S → Query → Evaluated) → (S → ℕ → S) → Asks → S → S
left_by answers read asks s = (run answers read asks s).1
