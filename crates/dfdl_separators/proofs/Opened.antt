-- A fact is asked for where the verdict depends on it.
use Rattle.std.specs.Prelude.{◌≡◌, ◌≢◌, Bool, true, false, not, ◌&&◌, Option, Some, None, if◌then◌else◌, refl}
use Rattle.std.proofs.Common.{sym, ◌∙◌, ap}
use Rattle.dfdl_report.specs.declared.cause.ParseCause.{ParseCause}
use Rattle.dfdl_report.specs.declared.cause.ParseCause.TheVariants.{DataEnds}
use Rattle.dfdl_separators.specs.declared.course.Known.{Known}
use Rattle.dfdl_separators.specs.declared.course.Known.TheVariants.{Begun, Begins, Occurred, Closed}
use Rattle.dfdl_separators.specs.declared.moves.SlotFault.TheVariants.{Occurrence}
use Rattle.dfdl_separators.specs.declared.moves.SlotMove.{SlotMove}
use Rattle.dfdl_separators.specs.declared.moves.SlotMove.TheVariants.{TakeSeparator, Parse, Keep, Drop, Fail}
use Rattle.dfdl_separators.specs.declared.verdict.Here.{Here}
use Rattle.dfdl_separators.specs.declared.verdict.Outcome.{Outcome}
use Rattle.dfdl_separators.specs.declared.verdict.Outcome.TheVariants.{Item, Unmoved, Blank, Broken, Resolved}
use Rattle.dfdl_separators.specs.declared.verdict.SlotRule.{SlotRule}
use Rattle.dfdl_separators.specs.declared.verdict.SlotRule.TheVariants.{Required, NeverMissing, TrailingMissing, AnyMissing}
use Rattle.dfdl_separators.specs.declared.verdict.Tried.{Tried}
use Rattle.dfdl_separators.specs.Courses.{course, Agrees, IsOpen, is_verdict, needs_behind, ask_behind}
use Rattle.dfdl_separators.specs.Verdicts.{Facts, verdict, by_tried, by_rule, missing, required, never_missing, trailing_missing, any_missing, begins, ends, is_past, is_taken, lacks, outcome_of, closed_as}
use Rattle.dfdl_separators.proofs.Settled.{is_there, is_missing}

-- an occurrence that moved over data, and one that failed inside of a resolved point
abbrev good : Tried
good = record { moved = true; empty = false; failure = None; resolved = false }

abbrev bad : Tried
bad = record { moved = false; empty = false; failure = Some DataEnds; resolved = true }

-- the facts with such an occurrence
abbrev seen : Bool → Tried → Bool → Facts
seen before tried behind = record { before = before; tried = tried; behind = behind }

keeps : (rule : SlotRule) (e m : Bool) → by_rule rule good (if e then true else true) m ≡ Keep
keeps Required true m = refl
keeps Required false m = refl
keeps NeverMissing true m = refl
keeps NeverMissing false m = refl
keeps TrailingMissing true m = refl
keeps TrailingMissing false m = refl
keeps AnyMissing true m = refl
keeps AnyMissing false m = refl

fails : (rule : SlotRule) (c m : Bool) → by_rule rule bad c m ≡ Fail (Occurrence DataEnds)
fails Required c m = refl
fails NeverMissing c m = refl
fails TrailingMissing c m = refl
fails AnyMissing c m = refl

not_taken : (rule : SlotRule) → is_taken (missing rule) ≡ false
not_taken Required = refl
not_taken NeverMissing = refl
not_taken TrailingMissing = refl
not_taken AnyMissing = refl

misses : (rule : SlotRule) → is_verdict (missing rule) ≡ true
misses Required = refl
misses NeverMissing = refl
misses TrailingMissing = refl
misses AnyMissing = refl

closes : (move : SlotMove) (rule : SlotRule) (closed : Bool) → is_verdict move ≡ true → is_verdict (closed_as move rule closed) ≡ true
closes move rule true e = e
closes move rule false e = misses rule

required_decides : (failure : Option ParseCause) (c : Bool) → is_verdict (required failure c) ≡ true
required_decides None c = closes Keep Required c refl
required_decides (Some cause) c = refl

never_decides : (o : Outcome) (c : Bool) → is_verdict (never_missing o c) ≡ true
never_decides Item c = closes Keep NeverMissing c refl
never_decides Unmoved c = closes Keep NeverMissing c refl
never_decides Blank c = closes Drop NeverMissing c refl
never_decides (Broken cause) c = refl
never_decides (Resolved cause) c = refl

trailing_decides : (o : Outcome) (c : Bool) → is_verdict (trailing_missing o c) ≡ true
trailing_decides Item c = closes Keep TrailingMissing c refl
trailing_decides Unmoved c = closes Keep TrailingMissing c refl
trailing_decides Blank c = closes Drop TrailingMissing c refl
trailing_decides (Broken cause) c = refl
trailing_decides (Resolved cause) c = refl

any_decides : (o : Outcome) (c m : Bool) → is_verdict (any_missing o c m) ≡ true
any_decides Item c m = closes Keep AnyMissing c refl
any_decides Unmoved c m = refl
any_decides Blank c m = closes Drop AnyMissing m refl
any_decides (Broken cause) c m = refl
any_decides (Resolved cause) c m = refl

-- what an occurrence comes to is a verdict
pub decides : (rule : SlotRule) (tried : Tried) (c m : Bool) → is_verdict (by_rule rule tried c m) ≡ true
decides Required tried c m = required_decides tried.failure c
decides NeverMissing tried c m = never_decides (outcome_of tried) c
decides TrailingMissing tried c m = trailing_decides (outcome_of tried) c
decides AnyMissing tried c m = any_decides (outcome_of tried) c m

and_false : (b : Bool) → (b && false) ≡ false
and_false true = refl
and_false false = refl

both : (a b : Bool) → (a && not b) ≡ true → (a ≡ true) × (b ≡ false)
both true true e = let never : false ≡ true = e in cc
both true false e = (refl, refl)
both false b e = let never : false ≡ true = e in cc

-- moves of which one is taken and the other isn't
differ : (a b : SlotMove) → is_taken a ≡ true → is_taken b ≡ false → a ≢ b
differ a b e f same = let never : true ≡ false = sym e ∙ (ap is_taken same ∙ f) in absurd (cc)

-- the verdict on a slot that isn't past and has the separator that it begins with
there : (here : Here) (before : Bool) (tried : Tried) (behind : Bool) → is_past here ≡ false → lacks here before ≡ false
    → verdict here (seen before tried behind) ≡ by_tried here tried behind
there here before tried behind past lack = is_there (is_past here) (lacks here before) here.rule (by_tried here tried behind) past lack

-- a slot that is parsed next
open_content : (here : Here) (known : Known) → is_past here ≡ false → Agrees here known (seen true good true) → Agrees here known (seen true bad true) → IsOpen here known
open_content here known past agrees agrees_too = record {
  some = seen true good true;
  other = seen true bad true;
  agrees = agrees;
  agrees_too = agrees_too;
  apart = differ _ _
      (ap is_taken (there here true good true past (and_false (begins here)) ∙ keeps here.rule (ends here) (if begins here then true else true)))
      (ap is_taken (there here true bad true past (and_false (begins here)) ∙ fails here.rule (if ends here then true else true) (if begins here then true else true)));
}

-- a slot whose separator is sought next
open_begin : (here : Here) → is_past here ≡ false → begins here ≡ true → IsOpen here Begun
open_begin here past begin = record {
  some = seen true good true;
  other = seen false good true;
  agrees = tt;
  agrees_too = tt;
  apart = differ _ _
      (ap is_taken (there here true good true past (and_false (begins here)) ∙ keeps here.rule (ends here) (if begins here then true else true)))
      (ap is_taken (is_missing (is_past here) (lacks here false) here.rule (by_tried here good true) (ap (λ (b : Bool). b && not false) begin)) ∙ not_taken here.rule);
}

by_begin : (here : Here) (past begin : Bool) → is_past here ≡ past → begins here ≡ begin
    → is_verdict (if past then missing here.rule else if begin then TakeSeparator else Parse) ≡ false → IsOpen here Begun
by_begin here true begin e f v = let never : true ≡ false = sym (misses here.rule) ∙ v in absurd (cc)
by_begin here false true e f v = open_begin here e f
by_begin here false false e f v = open_content here Begun e tt tt

by_found : (here : Here) (found : Bool) (facts : Facts) → Agrees here (Begins found) facts → is_verdict (if found then Parse else missing here.rule) ≡ false → IsOpen here (Begins found)
by_found here true facts agrees v = open_content here (Begins true) agrees.0 (agrees.0, and_false (begins here)) (agrees.0, and_false (begins here))
by_found here false facts agrees v = let never : true ≡ false = sym (misses here.rule) ∙ v in absurd (cc)

by_occurred : (here : Here) (tried : Tried) (needs : Bool) → is_past here ≡ false → needs_behind here tried ≡ needs
    → is_verdict (if needs then ask_behind here else by_tried here tried true) ≡ false → IsOpen here (Occurred tried)
by_occurred here tried false past e v =
    let never : true ≡ false = sym (decides here.rule tried (if ends here then true else true) (if begins here then true else true)) ∙ v in absurd (cc)
by_occurred here tried true past e v =
    let parts = both (is_taken (by_tried here tried true)) (is_taken (by_tried here tried false)) e in
    record {
      some = seen true tried true;
      other = seen true tried false;
      agrees = (past, and_false (begins here), refl);
      agrees_too = (past, and_false (begins here), refl);
      apart = differ _ _
          (ap is_taken (there here true tried true past (and_false (begins here))) ∙ parts.0)
          (ap is_taken (there here true tried false past (and_false (begins here))) ∙ parts.1);
    }

pub opened : (here : Here) (known : Known) (facts : Facts) → Agrees here known facts → is_verdict (course here known) ≡ false → IsOpen here known
opened here Begun facts agrees v = by_begin here (is_past here) (begins here) refl refl v
opened here (Begins found) facts agrees v = by_found here found facts agrees v
opened here (Occurred tried) facts agrees v = by_occurred here tried (needs_behind here tried) agrees.0 refl v
opened here (Closed tried found) facts agrees v =
    let never : true ≡ false = sym (decides here.rule tried (if ends here then found else true) (if begins here then true else found)) ∙ v in absurd (cc)
