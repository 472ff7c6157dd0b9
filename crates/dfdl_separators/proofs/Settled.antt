-- The verdict that a course gives is the one on any facts such as are known.
use Rattle.std.specs.Prelude.{◌≡◌, Bool, true, false, not, ◌&&◌, ◌||◌, Option, Some, None, if◌then◌else◌, refl}
use Rattle.std.proofs.Common.{sym, ◌∙◌, ap}
use Rattle.dfdl_report.specs.declared.cause.ParseCause.{ParseCause}
use Rattle.dfdl_separators.specs.declared.course.Known.{Known}
use Rattle.dfdl_separators.specs.declared.course.Known.TheVariants.{Begun, Begins, Occurred, Closed}
use Rattle.dfdl_separators.specs.declared.moves.SlotMove.{SlotMove}
use Rattle.dfdl_separators.specs.declared.moves.SlotMove.TheVariants.{TakeSeparator, LookForSeparator, Parse}
use Rattle.dfdl_separators.specs.declared.verdict.Here.{Here}
use Rattle.dfdl_separators.specs.declared.verdict.Outcome.{Outcome}
use Rattle.dfdl_separators.specs.declared.verdict.Outcome.TheVariants.{Item, Unmoved, Blank, Broken, Resolved}
use Rattle.dfdl_separators.specs.declared.verdict.SlotRule.{SlotRule}
use Rattle.dfdl_separators.specs.declared.verdict.SlotRule.TheVariants.{Required, NeverMissing, TrailingMissing, AnyMissing}
use Rattle.dfdl_separators.specs.declared.verdict.Tried.{Tried}
use Rattle.dfdl_separators.specs.Courses.{course, Agrees, is_verdict, needs_behind, ask_behind}
use Rattle.dfdl_separators.specs.Verdicts.{Facts, verdict, by_tried, by_rule, missing, required, never_missing, trailing_missing, any_missing, begins, ends, is_past, is_taken, lacks, outcome_of}

-- a slot that isn't past, with the separator that it begins with
pub is_there : (past lack : Bool) (rule : SlotRule) (move : SlotMove) → past ≡ false → lack ≡ false → (if past || lack then missing rule else move) ≡ move
is_there true lack rule move e f = cc
is_there false true rule move e f = cc
is_there false false rule move e f = refl

-- a slot without the separator that it begins with
pub is_missing : (past lack : Bool) (rule : SlotRule) (move : SlotMove) → lack ≡ true → (if past || lack then missing rule else move) ≡ missing rule
is_missing true lack rule move e = refl
is_missing false true rule move e = refl
is_missing false false rule move e = cc

at_begin : (past begins lack : Bool) (rule : SlotRule) (move : SlotMove)
    → is_verdict (if past then missing rule else if begins then TakeSeparator else Parse) ≡ true
    → (if past then missing rule else if begins then TakeSeparator else Parse) ≡ (if past || lack then missing rule else move)
at_begin true begins lack rule move e = refl
at_begin false true lack rule move e = let never : false ≡ true = e in cc
at_begin false false lack rule move e = let never : false ≡ true = e in cc

at_found : (found past lack : Bool) (rule : SlotRule) (move : SlotMove) → past ≡ false → lack ≡ not found
    → is_verdict (if found then Parse else missing rule) ≡ true
    → (if found then Parse else missing rule) ≡ (if past || lack then missing rule else move)
at_found true past lack rule move e f v = let never : false ≡ true = v in cc
at_found false past lack rule move e f v = sym (is_missing past lack rule move f)

-- A separator that isn't asked for changes nothing: by the test of the definition, for each rule.
required_alike : (failure : Option ParseCause) → (is_taken (required failure true) && not (is_taken (required failure false))) ≡ false → required failure true ≡ required failure false
required_alike None e = let never : true ≡ false = e in cc
required_alike (Some cause) e = refl

never_alike : (o : Outcome) → (is_taken (never_missing o true) && not (is_taken (never_missing o false))) ≡ false → never_missing o true ≡ never_missing o false
never_alike Item e = let never : true ≡ false = e in cc
never_alike Unmoved e = let never : true ≡ false = e in cc
never_alike Blank e = let never : true ≡ false = e in cc
never_alike (Broken cause) e = refl
never_alike (Resolved cause) e = refl

trailing_alike : (o : Outcome) → (is_taken (trailing_missing o true) && not (is_taken (trailing_missing o false))) ≡ false → trailing_missing o true ≡ trailing_missing o false
trailing_alike Item e = let never : true ≡ false = e in cc
trailing_alike Unmoved e = let never : true ≡ false = e in cc
trailing_alike Blank e = let never : true ≡ false = e in cc
trailing_alike (Broken cause) e = refl
trailing_alike (Resolved cause) e = refl

any_alike : (o : Outcome) (c m : Bool) → (is_taken (any_missing o true true) && not (is_taken (any_missing o c m))) ≡ false → any_missing o true true ≡ any_missing o c m
any_alike Item true m e = refl
any_alike Item false m e = let never : true ≡ false = e in cc
any_alike Unmoved c m e = refl
any_alike Blank c true e = refl
any_alike Blank c false e = let never : true ≡ false = e in cc
any_alike (Broken cause) c m e = refl
any_alike (Resolved cause) c m e = refl

-- behind is true on one side; c and m are what the other side has
rule_alike : (rule : SlotRule) (tried : Tried) (c m : Bool) → (is_taken (by_rule rule tried true true) && not (is_taken (by_rule rule tried c m))) ≡ false
    → by_rule rule tried true true ≡ by_rule rule tried c m
rule_alike Required tried true m e = refl
rule_alike Required tried false m e = required_alike tried.failure e
rule_alike NeverMissing tried true m e = refl
rule_alike NeverMissing tried false m e = never_alike (outcome_of tried) e
rule_alike TrailingMissing tried true m e = refl
rule_alike TrailingMissing tried false m e = trailing_alike (outcome_of tried) e
rule_alike AnyMissing tried c m e = any_alike (outcome_of tried) c m e

sides_alike : (rule : SlotRule) (tried : Tried) (e g : Bool)
    → (is_taken (by_rule rule tried (if e then true else true) (if g then true else true)) && not (is_taken (by_rule rule tried (if e then false else true) (if g then true else false)))) ≡ false
    → by_rule rule tried (if e then true else true) (if g then true else true) ≡ by_rule rule tried (if e then false else true) (if g then true else false)
sides_alike rule tried true true h = rule_alike rule tried false true h
sides_alike rule tried true false h = rule_alike rule tried false false h
sides_alike rule tried false true h = rule_alike rule tried true true h
sides_alike rule tried false false h = rule_alike rule tried true false h

pub behind_alike : (here : Here) (tried : Tried) (behind : Bool) → needs_behind here tried ≡ false → by_tried here tried true ≡ by_tried here tried behind
behind_alike here tried true e = refl
behind_alike here tried false e = sides_alike here.rule tried (ends here) (begins here) e

-- the move for a separator behind the slot is no verdict
pub asks : (e : Bool) → is_verdict (if e then TakeSeparator else LookForSeparator) ≡ false
asks true = refl
asks false = refl

by_needs : (needs : Bool) (here : Here) (move : SlotMove) (other : SlotMove) → (needs ≡ false → move ≡ other)
    → is_verdict (if needs then ask_behind here else move) ≡ true → (if needs then ask_behind here else move) ≡ other
by_needs true here move other same e = let never : false ≡ true = sym (asks (ends here)) ∙ e in cc
by_needs false here move other same e = same refl

pub settled : (here : Here) (known : Known) (facts : Facts) → Agrees here known facts → is_verdict (course here known) ≡ true
    → course here known ≡ verdict here facts
settled here Begun facts agrees v = at_begin (is_past here) (begins here) (lacks here facts.before) here.rule (by_tried here facts.tried facts.behind) v
settled here (Begins found) facts agrees v = at_found found (is_past here) (lacks here facts.before) here.rule (by_tried here facts.tried facts.behind) agrees.0 agrees.1 v
settled here (Occurred tried) facts agrees v =
    by_needs (needs_behind here tried) here (by_tried here tried true) (by_tried here tried facts.behind) (λ e. behind_alike here tried facts.behind e) v
    ∙ (ap (λ (t : Tried). by_tried here t facts.behind) (sym agrees.2)
    ∙ sym (is_there (is_past here) (lacks here facts.before) here.rule (by_tried here facts.tried facts.behind) agrees.0 agrees.1))
settled here (Closed tried found) facts agrees v =
    ap (λ (b : Bool). by_tried here tried b) (sym agrees.3)
    ∙ (ap (λ (t : Tried). by_tried here t facts.behind) (sym agrees.2)
    ∙ sym (is_there (is_past here) (lacks here facts.before) here.rule (by_tried here facts.tried facts.behind) agrees.0 agrees.1))
