-- What holds of the variables behind an expression: what reading one of them keeps. Ways back stay open, and there is one to what is kept then.
use Rattle.std.specs.Prelude.{◌≡◌, ℕ, nat_lt, Bool, true, false, if◌then◌else◌, refl}
use Rattle.std.proofs.Common.{arith}
use Rattle.std.proofs.lemmas.Bool.Decides.{nat_tests}
use Rattle.dfdl_value.specs.declared.value.Value.{Value}
use Rattle.dfdl_expression_eval.specs.Asks.{Asks, Is, Fails, Ask, Query, Item, Count, Length, Variable, OccursIndex}
use Rattle.dfdl_expression_eval.specs.Runs.{after_query, left_by, run, told}
use Rattle.dfdl_expression_eval.specs.declared.env.Evaluated.{Evaluated}
use Rattle.dfdl_expression_eval.specs.declared.env.Evaluated.TheVariants.{Known, Wait, Fault}
use Rattle.dfdl_vars.specs.Kept.{Kept, place_now, with_read}
use Rattle.dfdl_vars.specs.Marks.{LeadsBack}
use Rattle.dfdl_vars.proofs.Ways.{back_read, sound_read}
use Rattle.dfdl_surroundings.specs.Around.{Around}
use Rattle.dfdl_surroundings.specs.Answers.{answer_in, read_in, variable_read}

module _ (P : Kept → Type 0) (reads : (now : Kept) (number : ℕ) → P now → P (variable_read now number)) where
  asked : (query : Query) (a : Around) → P a.variables → P (after_query read_in query a).variables
  asked (Item path places) a holds = holds
  asked (Count path places) a holds = holds
  asked (Length path places extent) a holds = holds
  asked (Variable number) a holds = reads a.variables number holds
  asked OccursIndex a holds = holds

  by_answer : (e : Evaluated) (a : Around) (go : Value → Around → Evaluated × Around) → P a.variables
      → ((v : Value) → P (go v a).1.variables) → P (told e a go).1.variables
  by_answer (Known v) a go holds each = each v
  by_answer (Wait unknown) a go holds each = holds
  by_answer (Fault cause) a go holds each = holds

  pub left_keeps : (asks : Asks) (a : Around) → P a.variables → P (left_by answer_in read_in asks a).variables
  left_keeps (Is value) a holds = holds
  left_keeps (Fails cause) a holds = holds
  left_keeps (Ask query more) a holds =
      by_answer (answer_in a query) (after_query read_in query a) (λ v b. run answer_in read_in (more v) b) (asked query a holds)
      (λ v. left_keeps (more v) (after_query read_in query a) (asked query a holds))

-- a way back stays open
read_leads : (base now : Kept) (number : ℕ) → LeadsBack base now → LeadsBack base (variable_read now number)
read_leads base now number way = by (nat_lt number now.globals)
  where
    by : (b : Bool) → LeadsBack base (if b then with_read now (place_now now number) else now)
    by true = back_read base now (place_now now number) way
    by false = way

pub left_leads : (base : Kept) (asks : Asks) (a : Around) → LeadsBack base a.variables → LeadsBack base (left_by answer_in read_in asks a).variables
left_leads base asks a way = left_keeps (LeadsBack base) (read_leads base) asks a way

-- there is one to what is kept then
read_sound : (now : Kept) (number : ℕ) → LeadsBack now now → LeadsBack (variable_read now number) (variable_read now number)
read_sound now number way = by (nat_lt number now.globals) refl
  where
    by : (b : Bool) → nat_lt number now.globals ≡ b
        → LeadsBack (if b then with_read now (place_now now number) else now) (if b then with_read now (place_now now number) else now)
    by true e = sound_read now number way (grind (arith, nat_tests, e))
    by false e = way

pub left_sound : (asks : Asks) (a : Around) → LeadsBack a.variables a.variables
    → LeadsBack (left_by answer_in read_in asks a).variables (left_by answer_in read_in asks a).variables
left_sound asks a way = left_keeps (λ (k : Kept). LeadsBack k k) read_sound asks a way
