-- What is kept of the variables while rows are done: each way back goes on.
use Rattle.std.proofs.Common.{◌≡◌, ◌<◌, ℕ, Bool, true, false, cond, nat_lt, None, refl, sym, subst, arith}
use Rattle.std.proofs.lemmas.Bool.Decides.{nat_tests}
use Rattle.dfdl_value.specs.declared.value.Value.{Value}
use Rattle.dfdl_expression_eval.specs.Asks.{Asks, Is, Fails, Ask, Query, Item, Count, Length, Variable, OccursIndex}
use Rattle.dfdl_expression_eval.specs.Runs.{after_query, left_by, run, told}
use Rattle.dfdl_expression_eval.specs.declared.env.Evaluated.{Evaluated}
use Rattle.dfdl_expression_eval.specs.declared.env.Evaluated.TheVariants.{Known, Wait, Fault}
use Rattle.dfdl_surroundings.specs.Around.{Around}
use Rattle.dfdl_surroundings.specs.Answers.{answer_in, read_in, variable_read}
use Rattle.dfdl_vars.specs.Kept.{Kept, fault_now, place_now, with_read, with_setting}
use Rattle.dfdl_vars.specs.Marks.{LeadsBack, gone_back, mark_of}
use Rattle.dfdl_vars.proofs.Ways.{back_read, back_set, marks_lead_back, not_set, sound_read, sound_set}

-- there is a way back, and what is kept now is sound
abbrev pub IsWay : Kept → Kept → Type 0
IsWay base now = LeadsBack base now × LeadsBack now now

-- each way back to somewhere goes on
abbrev pub GoesOn : Kept → Kept → Type 0
GoesOn from to = (base : Kept) → IsWay base from → IsWay base to

-- what is kept is what was kept there, where that is sound
abbrev pub IsBack : Kept → Kept → Type 0
IsBack there kept = LeadsBack there there → kept ≡ there

pub goes_same : (kept : Kept) → GoesOn kept kept
goes_same kept base way = way

pub goes_twice : (a b c : Kept) → GoesOn a b → GoesOn b c → GoesOn a c
goes_twice a b c first second base way = second base (first base way)

pub back_goes : (there kept : Kept) → IsBack there kept → GoesOn there kept
back_goes there kept is base way = subst (λ (k : Kept). IsWay base k) (sym (is way.1)) way

pub gone_is : (there now : Kept) → GoesOn there now → IsBack there (gone_back (mark_of there) now)
gone_is there now goes sound = marks_lead_back there now (goes there (sound, sound)).0

-- a variable is set
pub set_goes : (now : Kept) (number : ℕ) (v : Value) → number < now.globals → fault_now now number ≡ None
    → GoesOn now (with_setting now (place_now now number) v)
set_goes now number v less free base way =
    (back_set base now (place_now now number) v way.0 (not_set now number free), sound_set now number v way.1 less free)

-- a variable is read, if there is one of the number
read_there : (now : Kept) (number : ℕ) (there : Bool) → nat_lt number now.globals ≡ there
    → GoesOn now (cond there (with_read now (place_now now number)) now)
read_there now number true is base way =
    let less : number < now.globals = grind (arith, nat_tests) in
    (back_read base now (place_now now number) way.0, sound_read now number way.1 less)
read_there now number false is base way = way

pub read_goes : (now : Kept) (number : ℕ) → GoesOn now (variable_read now number)
read_goes now number = read_there now number (nat_lt number now.globals) refl

query-goes : (query : Query) (around : Around) → GoesOn around.variables (after_query read_in query around).variables
query-goes (Item path places) around = goes_same around.variables
query-goes (Count path places) around = goes_same around.variables
query-goes (Length path places extent) around = goes_same around.variables
query-goes (Variable number) around = read_goes around.variables number
query-goes OccursIndex around = goes_same around.variables

told-goes : (from : Kept) (answer : Evaluated) (around : Around) (go : Value → Around → Evaluated × Around) → GoesOn from around.variables
    → ((value : Value) (t : Around) → GoesOn t.variables (go value t).1.variables) → GoesOn from (told answer around go).1.variables
told-goes from (Known value) around go first goes = goes_twice from around.variables (go value around).1.variables first (goes value around)
told-goes from (Wait unknown) around go first goes = first
told-goes from (Fault cause) around go first goes = first

-- an expression reads variables alone
pub left_goes : (asks : Asks) (around : Around) → GoesOn around.variables (left_by answer_in read_in asks around).variables
left_goes (Is value) around = goes_same around.variables
left_goes (Fails cause) around = goes_same around.variables
left_goes (Ask query more) around =
    told-goes around.variables (answer_in around query) (after_query read_in query around)
    (λ value t. run answer_in read_in (more value) t) (query-goes query around) (λ value t. left_goes (more value) t)
