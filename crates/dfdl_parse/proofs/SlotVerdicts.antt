-- What the moves of a slot say of its occurrence.
use Rattle.std.proofs.Common.{◌≡◌, ◌⊎◌, inl, inr, refl, ap, sym, subst, ◌∙◌, Bool, true, false, not, ◌&&◌, cond, Option, Some, None}
use Rattle.dfdl_report.specs.declared.cause.ParseCause.{ParseCause}
use Rattle.dfdl_separators.specs.declared.course.Known.TheVariants.{Occurred}
use Rattle.dfdl_separators.specs.declared.moves.SlotMove.{SlotMove}
use Rattle.dfdl_separators.specs.declared.moves.SlotMove.TheVariants.{TakeSeparator, LookForSeparator, Parse, Keep, Drop, EndArray, EndGroup, Fail}
use Rattle.dfdl_separators.specs.declared.policy.SeparatorPosition.{SeparatorPosition}
use Rattle.dfdl_separators.specs.declared.policy.SeparatorPosition.TheVariants.{Prefix, Infix, Postfix}
use Rattle.dfdl_separators.specs.declared.verdict.Here.{Here}
use Rattle.dfdl_separators.specs.declared.verdict.Outcome.{Outcome}
use Rattle.dfdl_separators.specs.declared.verdict.Outcome.TheVariants.{Item, Unmoved, Blank, Broken, Resolved}
use Rattle.dfdl_separators.specs.declared.verdict.SlotRule.{SlotRule}
use Rattle.dfdl_separators.specs.declared.verdict.SlotRule.TheVariants.{Required, NeverMissing, TrailingMissing, AnyMissing}
use Rattle.dfdl_separators.specs.declared.verdict.Tried.{Tried}
use Rattle.dfdl_separators.specs.Courses.{ask_behind, course, needs_behind}
use Rattle.dfdl_separators.specs.Verdicts.{any_missing, begins, begins_at, by_rule, by_tried, ends, ends_at, is_taken, missing, never_missing, outcome, outcome_of, required, trailing_missing}
use Rattle.dfdl_grammar.specs.Slots.{is_blank, is_taken_back}

-- the occurrence didn't fail, and moved no bit, or its point isn't resolved
abbrev pub StaysOrOpen : Option ParseCause → Bool → Bool → Type 0
StaysOrOpen failure moved resolved = ((failure ≡ None) × (moved ≡ false)) ⊎ (resolved ≡ false)

-- outcomes that give no item in a slot that isn't empty
abbrev pub IsStuck : Outcome → Type 0
IsStuck Item = ⊥
IsStuck Unmoved = Unit {0}
IsStuck Blank = ⊥
IsStuck (Broken cause) = Unit {0}
IsStuck (Resolved cause) = ⊥

-- outcomes without a failure
abbrev pub HasNone : Outcome → Type 0
HasNone Item = Unit {0}
HasNone Unmoved = Unit {0}
HasNone Blank = ⊥
HasNone (Broken cause) = ⊥
HasNone (Resolved cause) = ⊥

pub none-of : (moved empty : Bool) (failure : Option ParseCause) (resolved : Bool) → HasNone (outcome moved empty failure resolved) → failure ≡ None
none-of moved empty None resolved there = refl
none-of moved empty (Some cause) true there = absurd there
none-of moved true (Some cause) false there = absurd there
none-of moved false (Some cause) false there = absurd there

pub stuck-of : (moved empty : Bool) (failure : Option ParseCause) (resolved : Bool) → IsStuck (outcome moved empty failure resolved) → StaysOrOpen failure moved resolved
stuck-of true empty None resolved there = absurd there
stuck-of false true None resolved there = absurd there
stuck-of false false None resolved there = inl (refl, refl)
stuck-of moved empty (Some cause) true there = absurd there
stuck-of moved empty (Some cause) false there = inr refl

pub blank-of : (moved empty : Bool) (failure : Option ParseCause) (resolved : Bool) → is_blank (outcome moved empty failure resolved) ≡ true
    → (empty ≡ true) × StaysOrOpen failure moved resolved
blank-of true empty None resolved is = absurd (cc)
blank-of false true None resolved is = (refl, inl (refl, refl))
blank-of false false None resolved is = absurd (cc)
blank-of moved empty (Some cause) true is = absurd (cc)
blank-of moved true (Some cause) false is = (refl, inr refl)
blank-of moved false (Some cause) false is = absurd (cc)

-- what a move behind an occurrence says, by the rule of the slot
abbrev pub Tells : SlotRule → Option ParseCause → Outcome → SlotMove → Type 0
Tells rule failure o Keep = failure ≡ None
Tells rule failure o Drop = is_blank o ≡ true
Tells rule failure o EndArray = is_taken_back rule ≡ true
Tells rule failure o (Fail fault) = Unit {0}
Tells rule failure o TakeSeparator = ⊥
Tells rule failure o LookForSeparator = ⊥
Tells rule failure o Parse = ⊥
Tells rule failure o EndGroup = ⊥

missing-tells : (rule : SlotRule) (failure : Option ParseCause) (o : Outcome) → Tells rule failure o (missing rule)
missing-tells Required failure o = tt
missing-tells NeverMissing failure o = tt
missing-tells TrailingMissing failure o = refl
missing-tells AnyMissing failure o = refl

required-tells : (failure : Option ParseCause) (o : Outcome) (closed : Bool) → Tells Required failure o (required failure closed)
required-tells (Some cause) o closed = tt
required-tells None o true = refl
required-tells None o false = tt

never-tells : (failure : Option ParseCause) (o : Outcome) → (HasNone o → failure ≡ None) → (closed : Bool) → Tells NeverMissing failure o (never_missing o closed)
never-tells failure Item none true = none tt
never-tells failure Item none false = tt
never-tells failure Unmoved none true = none tt
never-tells failure Unmoved none false = tt
never-tells failure Blank none true = refl
never-tells failure Blank none false = tt
never-tells failure (Broken cause) none closed = tt
never-tells failure (Resolved cause) none closed = tt

trailing-tells : (failure : Option ParseCause) (o : Outcome) → (HasNone o → failure ≡ None) → (closed : Bool) → Tells TrailingMissing failure o (trailing_missing o closed)
trailing-tells failure Item none true = none tt
trailing-tells failure Item none false = refl
trailing-tells failure Unmoved none true = none tt
trailing-tells failure Unmoved none false = refl
trailing-tells failure Blank none true = refl
trailing-tells failure Blank none false = refl
trailing-tells failure (Broken cause) none closed = tt
trailing-tells failure (Resolved cause) none closed = tt

any-tells : (failure : Option ParseCause) (o : Outcome) → (HasNone o → failure ≡ None) → (closed marked : Bool)
    → Tells AnyMissing failure o (any_missing o closed marked)
any-tells failure Item none true marked = none tt
any-tells failure Item none false marked = refl
any-tells failure Unmoved none closed marked = refl
any-tells failure Blank none closed true = refl
any-tells failure Blank none closed false = refl
any-tells failure (Broken cause) none closed marked = refl
any-tells failure (Resolved cause) none closed marked = tt

pub rule-tells : (rule : SlotRule) (tried : Tried) (closed marked : Bool) → Tells rule tried.failure (outcome_of tried) (by_rule rule tried closed marked)
rule-tells Required tried closed marked = required-tells tried.failure (outcome_of tried) closed
rule-tells NeverMissing tried closed marked =
    never-tells tried.failure (outcome_of tried) (none-of tried.moved tried.empty tried.failure tried.resolved) closed
rule-tells TrailingMissing tried closed marked =
    trailing-tells tried.failure (outcome_of tried) (none-of tried.moved tried.empty tried.failure tried.resolved) closed
rule-tells AnyMissing tried closed marked =
    any-tells tried.failure (outcome_of tried) (none-of tried.moved tried.empty tried.failure tried.resolved) closed marked

-- a slot whose separator is there is one that isn't there only where it gives no item
array-stuck : (o : Outcome) → any_missing o true true ≡ EndArray → IsStuck o
array-stuck Item is = absurd (cc)
array-stuck Unmoved is = tt
array-stuck Blank is = absurd (cc)
array-stuck (Broken cause) is = tt
array-stuck (Resolved cause) is = absurd (cc)

required-array : (failure : Option ParseCause) → required failure true ≡ EndArray → ⊥
required-array (Some cause) is = absurd (cc)
required-array None is = absurd (cc)

never-array : (o : Outcome) → never_missing o true ≡ EndArray → ⊥
never-array Item is = absurd (cc)
never-array Unmoved is = absurd (cc)
never-array Blank is = absurd (cc)
never-array (Broken cause) is = absurd (cc)
never-array (Resolved cause) is = absurd (cc)

trailing-array : (o : Outcome) → trailing_missing o true ≡ EndArray → ⊥
trailing-array Item is = absurd (cc)
trailing-array Unmoved is = absurd (cc)
trailing-array Blank is = absurd (cc)
trailing-array (Broken cause) is = absurd (cc)
trailing-array (Resolved cause) is = absurd (cc)

pub rule-stuck : (rule : SlotRule) (tried : Tried) → by_rule rule tried true true ≡ EndArray → IsStuck (outcome_of tried)
rule-stuck Required tried is = absurd (required-array tried.failure is)
rule-stuck NeverMissing tried is = absurd (never-array (outcome_of tried) is)
rule-stuck TrailingMissing tried is = absurd (trailing-array (outcome_of tried) is)
rule-stuck AnyMissing tried is = array-stuck (outcome_of tried) is

-- what a slot comes to whose separator behind it is missing: it isn't there, or the sequence fails
abbrev pub IsOut : SlotMove → Type 0
IsOut Keep = ⊥
IsOut Drop = ⊥
IsOut EndArray = Unit {0}
IsOut (Fail fault) = Unit {0}
IsOut TakeSeparator = ⊥
IsOut LookForSeparator = ⊥
IsOut Parse = ⊥
IsOut EndGroup = ⊥

required-out : (failure : Option ParseCause) → IsOut (required failure false)
required-out (Some cause) = tt
required-out None = tt

never-out : (o : Outcome) → IsOut (never_missing o false)
never-out Item = tt
never-out Unmoved = tt
never-out Blank = tt
never-out (Broken cause) = tt
never-out (Resolved cause) = tt

trailing-out : (o : Outcome) → IsOut (trailing_missing o false)
trailing-out Item = tt
trailing-out Unmoved = tt
trailing-out Blank = tt
trailing-out (Broken cause) = tt
trailing-out (Resolved cause) = tt

any-out : (o : Outcome) → IsOut (any_missing o false false)
any-out Item = tt
any-out Unmoved = tt
any-out Blank = tt
any-out (Broken cause) = tt
any-out (Resolved cause) = tt

rule-out : (rule : SlotRule) (tried : Tried) → IsOut (by_rule rule tried false false)
rule-out Required tried = required-out tried.failure
rule-out NeverMissing tried = never-out (outcome_of tried)
rule-out TrailingMissing tried = trailing-out (outcome_of tried)
rule-out AnyMissing tried = any-out (outcome_of tried)

pub missing-out : (rule : SlotRule) → IsOut (missing rule)
missing-out Required = tt
missing-out NeverMissing = tt
missing-out TrailingMissing = tt
missing-out AnyMissing = tt

-- where a slot ends with a separator, it begins with none
ends-begins : (position : SeparatorPosition) (taken : Bool) → ends_at position ≡ true → begins_at position taken ≡ false
ends-begins Prefix taken is = absurd (cc)
ends-begins Infix taken is = absurd (cc)
ends-begins Postfix taken is = refl

pub closing-out : (here : Here) (tried : Tried) → ends here ≡ true → IsOut (by_tried here tried false)
closing-out here tried is =
    subst (λ (e : Bool). IsOut (by_rule here.rule tried (cond e false true) (cond (begins here) true false))) (sym is)
    (subst (λ (b : Bool). IsOut (by_rule here.rule tried false (cond b true false))) (sym (ends-begins here.position here.taken is)) (rule-out here.rule tried))

-- what the next move behind an occurrence says
abbrev pub Says : Here → Tried → SlotMove → Type 0
Says here tried Keep = tried.failure ≡ None
Says here tried Drop = is_blank (outcome_of tried) ≡ true
Says here tried EndArray = (is_taken_back here.rule ≡ true) × IsStuck (outcome_of tried)
Says here tried (Fail fault) = Unit {0}
Says here tried TakeSeparator = (ends here ≡ true) × ((tried.failure ≡ None) ⊎ (is_blank (outcome_of tried) ≡ true))
Says here tried LookForSeparator = is_blank (outcome_of tried) ≡ true
Says here tried Parse = ⊥
Says here tried EndGroup = ⊥

verdict-says : (here : Here) (tried : Tried) (move : SlotMove) → by_rule here.rule tried true true ≡ move → Tells here.rule tried.failure (outcome_of tried) move → Says here tried move
verdict-says here tried Keep is tells = tells
verdict-says here tried Drop is tells = tells
verdict-says here tried EndArray is tells = (tells, rule-stuck here.rule tried is)
verdict-says here tried (Fail fault) is tells = tt
verdict-says here tried TakeSeparator is tells = absurd tells
verdict-says here tried LookForSeparator is tells = absurd tells
verdict-says here tried Parse is tells = absurd tells
verdict-says here tried EndGroup is tells = absurd tells

-- with a separator behind it
with-one : (here : Here) (tried : Tried) → by_tried here tried true ≡ by_rule here.rule tried true true
with-one here tried = by (ends here) (begins here)
  where
    by : (closes opens : Bool) → by_rule here.rule tried (cond closes true true) (cond opens true true) ≡ by_rule here.rule tried true true
    by true true = refl
    by true false = refl
    by false true = refl
    by false false = refl

taken-says : (here : Here) (tried : Tried) (move : SlotMove) → Tells here.rule tried.failure (outcome_of tried) move → is_taken move ≡ true
    → (tried.failure ≡ None) ⊎ (is_blank (outcome_of tried) ≡ true)
taken-says here tried Keep tells is = inl tells
taken-says here tried Drop tells is = inr tells
taken-says here tried EndArray tells is = absurd (cc)
taken-says here tried (Fail fault) tells is = absurd (cc)
taken-says here tried TakeSeparator tells is = absurd tells
taken-says here tried LookForSeparator tells is = absurd tells
taken-says here tried Parse tells is = absurd tells
taken-says here tried EndGroup tells is = absurd tells

first-true : (a b : Bool) → (a && b) ≡ true → a ≡ true
first-true true b is = refl
first-true false b is = absurd (cc)

-- a separator is looked for only behind a blank occurrence
any-blank : (o : Outcome) → (is_taken (any_missing o true true) && not (is_taken (any_missing o true false))) ≡ true → is_blank o ≡ true
any-blank Item is = absurd (cc)
any-blank Unmoved is = absurd (cc)
any-blank Blank is = refl
any-blank (Broken cause) is = absurd (cc)
any-blank (Resolved cause) is = absurd (cc)

both-ways : (b : Bool) → (b && not b) ≡ true → ⊥
both-ways true is = absurd (cc)
both-ways false is = absurd (cc)

rule-blank : (rule : SlotRule) (tried : Tried) (marked : Bool)
    → (is_taken (by_rule rule tried true true) && not (is_taken (by_rule rule tried true marked))) ≡ true → is_blank (outcome_of tried) ≡ true
rule-blank rule tried true is = absurd (both-ways (is_taken (by_rule rule tried true true)) is)
rule-blank Required tried false is = absurd (both-ways (is_taken (required tried.failure true)) is)
rule-blank NeverMissing tried false is = absurd (both-ways (is_taken (never_missing (outcome_of tried) true)) is)
rule-blank TrailingMissing tried false is = absurd (both-ways (is_taken (trailing_missing (outcome_of tried) true)) is)
rule-blank AnyMissing tried false is = any-blank (outcome_of tried) is

pub occurred-says : (here : Here) (tried : Tried) → Says here tried (course here (Occurred tried))
occurred-says here tried = by (needs_behind here tried) refl
  where
    one : is_taken (by_tried here tried true) ≡ is_taken (by_rule here.rule tried true true)
    one = ap is_taken (with-one here tried)

    asks : (closes : Bool) → ends here ≡ closes → needs_behind here tried ≡ true → Says here tried (cond closes TakeSeparator LookForSeparator)
    asks true is needs = (
      is,
      taken-says here tried (by_rule here.rule tried true true) (rule-tells here.rule tried true true)
          (sym one ∙ first-true (is_taken (by_tried here tried true)) (not (is_taken (by_tried here tried false))) needs),
    )
    asks false is needs =
        rule-blank here.rule tried (cond (begins here) true false)
        (ap (λ (b : Bool). b && not (is_taken (by_rule here.rule tried true (cond (begins here) true false)))) (sym one)
        ∙ ap (λ (e : Bool). is_taken (by_tried here tried true) && not (is_taken (by_rule here.rule tried (cond e false true) (cond (begins here) true false)))) (sym is)
        ∙ needs)

    by : (needs : Bool) → needs_behind here tried ≡ needs → Says here tried (cond needs (ask_behind here) (by_tried here tried true))
    by true is = asks (ends here) refl is
    by false is =
        subst (λ (move : SlotMove). Says here tried move) (sym (with-one here tried))
        (verdict-says here tried (by_rule here.rule tried true true) refl (rule-tells here.rule tried true true))
