-- What a slot of a group with separators comes to: its verdict, from all that there is to see of it. 'Sequence Groups' (sequence
-- groups with separators), in the form of this profile.
use Rattle.std.specs.Prelude.{Bool, true, false, not, ◌&&◌, ◌||◌, Option, Some, None, if◌then◌else◌}
use Rattle.dfdl_report.specs.declared.cause.ParseCause.{ParseCause}
use Rattle.dfdl_separators.specs.declared.policy.SeparatorPosition.{SeparatorPosition}
use Rattle.dfdl_separators.specs.declared.policy.SeparatorPosition.TheVariants.{Prefix, Infix, Postfix}
use Rattle.dfdl_separators.specs.declared.policy.SeparatorSuppressionPolicy.{SeparatorSuppressionPolicy}
use Rattle.dfdl_separators.specs.declared.policy.SeparatorSuppressionPolicy.TheVariants as policies
use Rattle.dfdl_separators.specs.declared.moves.SlotFault.TheVariants.{MissingSeparator, Occurrence}
use Rattle.dfdl_separators.specs.declared.moves.SlotMove.{SlotMove}
use Rattle.dfdl_separators.specs.declared.moves.SlotMove.TheVariants.{TakeSeparator, LookForSeparator, Parse, Keep, Drop, EndArray, EndGroup, Fail}
use Rattle.dfdl_separators.specs.declared.verdict.Here.{Here}
use Rattle.dfdl_separators.specs.declared.verdict.Outcome.{Outcome}
use Rattle.dfdl_separators.specs.declared.verdict.Outcome.TheVariants.{Item, Unmoved, Blank, Broken, Resolved}
use Rattle.dfdl_separators.specs.declared.verdict.SlotRule.{SlotRule}
use Rattle.dfdl_separators.specs.declared.verdict.SlotRule.TheVariants.{Required, NeverMissing, TrailingMissing, AnyMissing}
use Rattle.dfdl_separators.specs.declared.verdict.Tried.{Tried}

-- the rule of an optional slot under a policy
abbrev pub optional_rule : SeparatorSuppressionPolicy → SlotRule
optional_rule policies.Never = NeverMissing
optional_rule policies.TrailingEmpty = TrailingMissing
optional_rule policies.TrailingEmptyStrict = TrailingMissing
optional_rule policies.AnyEmpty = AnyMissing

-- the rule of a slot: one of kind parsed follows that of anyEmpty under every policy, and another optional one the policy
abbrev pub rule_of : SeparatorSuppressionPolicy → Bool → Bool → SlotRule
rule_of policy optional parsed = if parsed then AnyMissing else if optional then optional_rule policy else Required

-- all that there is to see of a slot: whether the separator that it begins with is there, its occurrence, and whether a
-- separator stands behind it
pub record Facts : Type 0 where
  pub before : Bool
  pub tried : Tried
  pub behind : Bool

-- a prefix slot begins with a separator, and so does an infix slot behind another one
abbrev pub begins_at : SeparatorPosition → Bool → Bool
begins_at Prefix taken = true
begins_at Infix taken = taken
begins_at Postfix taken = false

abbrev pub begins : Here → Bool
begins here = begins_at here.position here.taken

-- a postfix slot ends with a separator
abbrev pub ends_at : SeparatorPosition → Bool
ends_at Prefix = false
ends_at Infix = false
ends_at Postfix = true

abbrev pub ends : Here → Bool
ends here = ends_at here.position

-- An occurrence that fails or moves no bit in an empty slot is blank. A failure inside of a resolved point of uncertainty is
-- told apart from another one.
abbrev pub outcome : Bool → Bool → Option ParseCause → Bool → Outcome
outcome moved empty None resolved = if moved then Item else if empty then Blank else Unmoved
outcome moved empty (Some cause) resolved = if resolved then Resolved cause else if empty then Blank else Broken cause

abbrev pub outcome_of : Tried → Outcome
outcome_of tried = outcome tried.moved tried.empty tried.failure tried.resolved

-- A slot whose separator is missing: the group fails, where it has to be there. Else the slot isn't there.
abbrev pub missing : SlotRule → SlotMove
missing Required = Fail MissingSeparator
missing NeverMissing = Fail MissingSeparator
missing TrailingMissing = EndArray
missing AnyMissing = EndArray

-- what a slot is taken as whose separator is there
abbrev pub closed_as : SlotMove → SlotRule → Bool → SlotMove
closed_as taken rule closed = if closed then taken else missing rule

-- Required: a failing occurrence fails the group. Another one stands, also where it moves no bit.
abbrev pub required : Option ParseCause → Bool → SlotMove
required (Some cause) closed = Fail (Occurrence cause)
required None closed = closed_as Keep Required closed

-- Optional under never: an occurrence that fails or moves no bit in an empty slot gives no item. Another failure is the group's.
abbrev pub never_missing : Outcome → Bool → SlotMove
never_missing Item closed = closed_as Keep NeverMissing closed
never_missing Unmoved closed = closed_as Keep NeverMissing closed
never_missing Blank closed = closed_as Drop NeverMissing closed
never_missing (Broken cause) closed = Fail (Occurrence cause)
never_missing (Resolved cause) closed = Fail (Occurrence cause)

-- Optional under trailingEmpty and trailingEmptyStrict: the same, but a slot whose separator is missing isn't there.
abbrev pub trailing_missing : Outcome → Bool → SlotMove
trailing_missing Item closed = closed_as Keep TrailingMissing closed
trailing_missing Unmoved closed = closed_as Keep TrailingMissing closed
trailing_missing Blank closed = closed_as Drop TrailingMissing closed
trailing_missing (Broken cause) closed = Fail (Occurrence cause)
trailing_missing (Resolved cause) closed = Fail (Occurrence cause)

-- Optional under anyEmpty, and of kind parsed: a blank occurrence gives no item where a separator marks its slot. Another
-- one that fails or moves no bit isn't there.
abbrev pub any_missing : Outcome → Bool → Bool → SlotMove
any_missing Item closed marked = closed_as Keep AnyMissing closed
any_missing Unmoved closed marked = EndArray
any_missing Blank closed marked = closed_as Drop AnyMissing marked
any_missing (Broken cause) closed marked = EndArray
any_missing (Resolved cause) closed marked = Fail (Occurrence cause)

abbrev pub by_rule : SlotRule → Tried → Bool → Bool → SlotMove
by_rule Required tried closed marked = required tried.failure closed
by_rule NeverMissing tried closed marked = never_missing (outcome_of tried) closed
by_rule TrailingMissing tried closed marked = trailing_missing (outcome_of tried) closed
by_rule AnyMissing tried closed marked = any_missing (outcome_of tried) closed marked

-- By the occurrence and whether a separator stands behind it. A slot is closed where it ends with no separator, or with one
-- that is there. It is marked by the separator that it begins with, else by one behind it.
abbrev pub by_tried : Here → Tried → Bool → SlotMove
by_tried here tried behind = by_rule here.rule tried (if ends here then behind else true) (if begins here then true else behind)

-- Behind a slot that is absent with all later ones each slot is, but those that follow the rule of anyEmpty.
abbrev pub is_past_by : SlotRule → Bool → Bool
is_past_by Required absent = absent
is_past_by NeverMissing absent = absent
is_past_by TrailingMissing absent = absent
is_past_by AnyMissing absent = false

abbrev pub is_past : Here → Bool
is_past here = is_past_by here.rule here.absent

-- the separator that the slot begins with is missing
abbrev pub lacks : Here → Bool → Bool
lacks here before = begins here && not before

-- the verdict on a slot
abbrev pub verdict : Here → Facts → SlotMove
verdict here facts = if is_past here || lacks here facts.before then missing here.rule else by_tried here facts.tried facts.behind

-- a slot that is kept or dropped was there
abbrev pub is_taken : SlotMove → Bool
is_taken Keep = true
is_taken Drop = true
is_taken TakeSeparator = false
is_taken LookForSeparator = false
is_taken Parse = false
is_taken EndArray = false
is_taken EndGroup = false
is_taken (Fail fault) = false
