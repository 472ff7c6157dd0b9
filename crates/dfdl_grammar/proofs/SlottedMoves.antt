-- Which moves there are in a slot behind its occurrence, and behind the separator that was sought then.
use Rattle.std.proofs.Common.{◌≡◌, refl, Bool, true, false, cond, ◌&&◌, not, Option, Some, None, sym, subst}
use Rattle.dfdl_report.specs.declared.cause.ParseCause.{ParseCause}
use Rattle.dfdl_separators.specs.declared.moves.SlotMove.{SlotMove}
use Rattle.dfdl_separators.specs.declared.moves.SlotMove.TheVariants.{TakeSeparator, LookForSeparator, Parse, Keep, Drop, EndArray, EndGroup, Fail}
use Rattle.dfdl_separators.specs.declared.verdict.Outcome.{Outcome as SlotOutcome}
use Rattle.dfdl_separators.specs.declared.verdict.Outcome.TheVariants.{Item, Unmoved, Blank, Broken, Resolved}
use Rattle.dfdl_separators.specs.declared.verdict.SlotRule.{SlotRule}
use Rattle.dfdl_separators.specs.declared.verdict.SlotRule.TheVariants.{Required, NeverMissing, TrailingMissing, AnyMissing}
use Rattle.dfdl_separators.specs.declared.verdict.Tried.{Tried}
use Rattle.dfdl_separators.specs.Verdicts.{any_missing, by_rule, is_taken, never_missing, outcome, outcome_of, required, trailing_missing}
use Rattle.dfdl_grammar.specs.Slots.{is_taken_back, is_tried}

-- an occurrence that is done, and not blank
abbrev pub stands : SlotOutcome → Bool
stands Item = true
stands Unmoved = true
stands Blank = false
stands (Broken cause) = false
stands (Resolved cause) = false

-- what goes on behind an occurrence: one that stands, or a blank one that is tried
abbrev pub IsLeft : Bool → SlotOutcome → Type 0
IsLeft tried Item = Unit {0}
IsLeft tried Unmoved = Unit {0}
IsLeft tried Blank = tried ≡ true
IsLeft tried (Broken cause) = ⊥
IsLeft tried (Resolved cause) = ⊥

-- a move behind an occurrence: only one that stands is kept, and only one that is tried is taken back
abbrev pub Decides : Bool → SlotOutcome → SlotMove → Type 0
Decides tried o Keep = stands o ≡ true
Decides tried o Drop = tried ≡ true
Decides tried o EndArray = tried ≡ true
Decides tried o (Fail fault) = Unit {0}
Decides tried o TakeSeparator = IsLeft tried o
Decides tried o LookForSeparator = IsLeft tried o
Decides tried o Parse = ⊥
Decides tried o EndGroup = ⊥

-- a move behind the separator that was sought behind an occurrence
abbrev pub Settles : Bool → SlotMove → Type 0
Settles tried Keep = Unit {0}
Settles tried Drop = Unit {0}
Settles tried EndArray = tried ≡ true
Settles tried (Fail fault) = Unit {0}
Settles tried TakeSeparator = ⊥
Settles tried LookForSeparator = ⊥
Settles tried Parse = ⊥
Settles tried EndGroup = ⊥

required-settles : (failure : Option ParseCause) (closed : Bool) → Settles false (required failure closed)
required-settles (Some cause) closed = tt
required-settles None true = tt
required-settles None false = tt

never-settles : (o : SlotOutcome) (closed : Bool) → Settles true (never_missing o closed)
never-settles Item true = tt
never-settles Item false = tt
never-settles Unmoved true = tt
never-settles Unmoved false = tt
never-settles Blank true = tt
never-settles Blank false = tt
never-settles (Broken cause) closed = tt
never-settles (Resolved cause) closed = tt

trailing-settles : (o : SlotOutcome) (closed : Bool) → Settles true (trailing_missing o closed)
trailing-settles Item true = tt
trailing-settles Item false = refl
trailing-settles Unmoved true = tt
trailing-settles Unmoved false = refl
trailing-settles Blank true = tt
trailing-settles Blank false = refl
trailing-settles (Broken cause) closed = tt
trailing-settles (Resolved cause) closed = tt

any-settles : (o : SlotOutcome) (closed marks : Bool) → Settles true (any_missing o closed marks)
any-settles Item true marks = tt
any-settles Item false marks = refl
any-settles Unmoved closed marks = refl
any-settles Blank closed true = tt
any-settles Blank closed false = refl
any-settles (Broken cause) closed marks = refl
any-settles (Resolved cause) closed marks = tt

pub settles : (rule : SlotRule) (tried : Tried) (closed marks : Bool) → Settles (is_tried rule) (by_rule rule tried closed marks)
settles Required tried closed marks = required-settles tried.failure closed
settles NeverMissing tried closed marks = never-settles (outcome_of tried) closed
settles TrailingMissing tried closed marks = trailing-settles (outcome_of tried) closed
settles AnyMissing tried closed marks = any-settles (outcome_of tried) closed marks

-- the move behind an occurrence, by what its slot comes to, and by whether it ends and begins with a separator
abbrev pub decided : (Bool → Bool → SlotMove) → Bool → Bool → SlotMove
decided by ends begins =
    cond (is_taken (by (cond ends true true) (cond begins true true)) && not (is_taken (by (cond ends false true) (cond begins true false))))
    (cond ends TakeSeparator LookForSeparator) (by (cond ends true true) (cond begins true true))

required-decides : (moved resolved : Bool) (failure : Option ParseCause) (ends begins : Bool)
    → Decides false (outcome moved false failure resolved) (decided (λ closed marks. required failure closed) ends begins)
required-decides moved resolved (Some cause) ends begins = tt
required-decides true resolved None true begins = tt
required-decides true resolved None false begins = refl
required-decides false resolved None true begins = tt
required-decides false resolved None false begins = refl

never-decides : (o : SlotOutcome) (ends begins : Bool) → Decides true o (decided (λ closed marks. never_missing o closed) ends begins)
never-decides Item true begins = tt
never-decides Item false begins = refl
never-decides Unmoved true begins = tt
never-decides Unmoved false begins = refl
never-decides Blank true begins = refl
never-decides Blank false begins = refl
never-decides (Broken cause) ends begins = tt
never-decides (Resolved cause) ends begins = tt

trailing-decides : (o : SlotOutcome) (ends begins : Bool) → Decides true o (decided (λ closed marks. trailing_missing o closed) ends begins)
trailing-decides Item true begins = tt
trailing-decides Item false begins = refl
trailing-decides Unmoved true begins = tt
trailing-decides Unmoved false begins = refl
trailing-decides Blank true begins = refl
trailing-decides Blank false begins = refl
trailing-decides (Broken cause) ends begins = tt
trailing-decides (Resolved cause) ends begins = tt

any-decides : (o : SlotOutcome) (ends begins : Bool) → Decides true o (decided (λ closed marks. any_missing o closed marks) ends begins)
any-decides Item true begins = tt
any-decides Item false begins = refl
any-decides Unmoved ends begins = refl
any-decides Blank ends true = refl
any-decides Blank true false = refl
any-decides Blank false false = refl
any-decides (Broken cause) ends begins = refl
any-decides (Resolved cause) ends begins = tt

-- a slot whose occurrence isn't tried isn't looked at for being empty
pub decides : (rule : SlotRule) (moved empty : Bool) (failure : Option ParseCause) (resolved ends begins : Bool)
    → (is_tried rule ≡ false → empty ≡ false)
    → (let tried : Tried = record { moved = moved; empty = empty; failure = failure; resolved = resolved } in
    Decides (is_tried rule) (outcome_of tried) (decided (λ closed marks. by_rule rule tried closed marks) ends begins))
decides Required moved empty failure resolved ends begins full =
    subst (λ (e : Bool). Decides false (outcome moved e failure resolved) (decided (λ closed marks. required failure closed) ends begins))
    (sym (full refl))
    (required-decides moved resolved failure ends begins)
decides NeverMissing moved empty failure resolved ends begins full = never-decides (outcome moved empty failure resolved) ends begins
decides TrailingMissing moved empty failure resolved ends begins full = trailing-decides (outcome moved empty failure resolved) ends begins
decides AnyMissing moved empty failure resolved ends begins full = any-decides (outcome moved empty failure resolved) ends begins

-- an occurrence that fails doesn't stand
pub failed-falls : (empty resolved : Bool) (cause : ParseCause) → stands (outcome false empty (Some cause) resolved) ≡ true → ⊥
failed-falls empty true cause is = absurd (cc)
failed-falls true false cause is = absurd (cc)
failed-falls false false cause is = absurd (cc)

-- a slot whose point is opened before its separator may be missing, and so is tried
pub any-of : (rule : SlotRule) (begins : Bool) → (is_taken_back rule && begins) ≡ true → is_taken_back rule ≡ true
any-of Required begins is = absurd (cc)
any-of NeverMissing begins is = absurd (cc)
any-of TrailingMissing begins is = refl
any-of AnyMissing begins is = refl

pub tried-of : (rule : SlotRule) → is_taken_back rule ≡ true → is_tried rule ≡ true
tried-of Required is = absurd (cc)
tried-of NeverMissing is = absurd (cc)
tried-of TrailingMissing is = refl
tried-of AnyMissing is = refl

pub not-before : (rule : SlotRule) → (is_taken_back rule && false) ≡ false
not-before Required = refl
not-before NeverMissing = refl
not-before TrailingMissing = refl
not-before AnyMissing = refl
