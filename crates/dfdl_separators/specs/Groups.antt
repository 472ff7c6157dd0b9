-- A group with separators from slot to slot.
use Rattle.std.specs.Prelude.{Bool, true, false, ◌&&◌, ◌||◌, Option, Some, None, if◌then◌else◌}
use Rattle.dfdl_separators.specs.declared.course.Known.{Known}
use Rattle.dfdl_separators.specs.declared.course.Known.TheVariants.{Begun, Begins, Occurred, Closed}
use Rattle.dfdl_separators.specs.declared.moves.SlotFault.TheVariants as faults
use Rattle.dfdl_separators.specs.declared.moves.SlotMove.{SlotMove}
use Rattle.dfdl_separators.specs.declared.moves.SlotMove.TheVariants.{TakeSeparator, LookForSeparator, Parse, Keep, Drop, EndArray, EndGroup, Fail}
use Rattle.dfdl_separators.specs.declared.moves.SlotSeen.{SlotSeen}
use Rattle.dfdl_separators.specs.declared.moves.SlotSeen.TheVariants.{Slot, Separator, Ended, NoMore}
use Rattle.dfdl_separators.specs.declared.policy.SeparatorPosition.{SeparatorPosition}
use Rattle.dfdl_separators.specs.declared.policy.SeparatorSuppressionPolicy.{SeparatorSuppressionPolicy}
use Rattle.dfdl_separators.specs.declared.policy.SeparatorSuppressionPolicy.TheVariants as policies
use Rattle.dfdl_separators.specs.declared.progress.Progress.{Progress}
use Rattle.dfdl_separators.specs.declared.progress.Stage.{Stage}
use Rattle.dfdl_separators.specs.declared.progress.Stage.TheVariants.{Between, Before, Content, Behind, Over}
use Rattle.dfdl_separators.specs.declared.verdict.Here.{Here}
use Rattle.dfdl_separators.specs.declared.verdict.SlotRule.{SlotRule}
use Rattle.dfdl_separators.specs.declared.verdict.SlotRule.TheVariants.{Required, NeverMissing, TrailingMissing, AnyMissing}
use Rattle.dfdl_separators.specs.declared.verdict.Tried.{Tried}
use Rattle.dfdl_separators.specs.Courses.{course}
use Rattle.dfdl_separators.specs.Verdicts.{rule_of}

-- a group before its first slot
abbrev pub begun : SeparatorSuppressionPolicy → SeparatorPosition → Progress
begun policy position = record { policy = policy; position = position; taken = false; absent = false; blank = false; stage = Between }

-- a slot of a rule, next in a group
abbrev pub here_of : Progress → SlotRule → Here
here_of group rule = record { rule = rule; position = group.position; taken = group.taken; absent = group.absent }

-- A slot may begin or the group may end, where nothing was asked.
abbrev pub IsBetween : Stage → Type 0
IsBetween Between = Unit {0}
IsBetween _ = ⊥

-- a separator was asked for
abbrev pub IsSeeking : Stage → Type 0
IsSeeking (Before rule) = Unit {0}
IsSeeking (Behind rule tried) = Unit {0}
IsSeeking _ = ⊥

-- an occurrence was asked for
abbrev pub IsTrying : Stage → Type 0
IsTrying (Content rule) = Unit {0}
IsTrying _ = ⊥

-- What is told answers what was asked. Nothing answers behind the end of the group.
abbrev pub CanSee : Progress → SlotSeen → Type 0
CanSee group (Slot optional parsed) = IsBetween group.stage
CanSee group (Separator found) = IsSeeking group.stage
CanSee group (Ended moved empty failure resolved) = IsTrying group.stage
CanSee group NoMore = IsBetween group.stage

-- what is known of the slot that a separator was sought for
abbrev pub sought : Stage → Bool → Option (SlotRule × Known)
sought Between found = None
sought (Before rule) found = Some (rule, Begins found)
sought (Content rule) found = None
sought (Behind rule tried) found = Some (rule, Closed tried found)
sought Over found = None

-- what is known of the slot whose occurrence ended
abbrev pub tried_in : Stage → Tried → Option (SlotRule × Known)
tried_in Between tried = None
tried_in (Before rule) tried = None
tried_in (Content rule) tried = Some (rule, Occurred tried)
tried_in (Behind rule other) tried = None
tried_in Over tried = None

-- the slot that is told of, by its rule, and what is then known of it
abbrev pub subject : Progress → SlotSeen → Option (SlotRule × Known)
subject group (Slot optional parsed) = Some (rule_of group.policy optional parsed, Begun)
subject group (Separator found) = sought group.stage found
subject group (Ended moved empty failure resolved) = tried_in group.stage (record { moved = moved; empty = empty; failure = failure; resolved = resolved })
subject group NoMore = None

-- Under trailingEmptyStrict the last slot that was there isn't an optional and empty one.
abbrev pub ending_by : SeparatorSuppressionPolicy → Bool → SlotMove
ending_by policies.Never blank = EndGroup
ending_by policies.TrailingEmpty blank = EndGroup
ending_by policies.TrailingEmptyStrict blank = if blank then Fail faults.TrailingEmpty else EndGroup
ending_by policies.AnyEmpty blank = EndGroup

abbrev pub ending : Progress → SlotMove
ending group = ending_by group.policy group.blank

-- the move of a group, by the slot that is told of
abbrev pub move_by : Progress → Option (SlotRule × Known) → SlotMove
move_by group None = ending group
move_by group (Some slot) = course (here_of group slot.0) slot.1

abbrev pub move_at : Progress → SlotSeen → SlotMove
move_at group seen = move_by group (subject group seen)

-- a slot that may be absent with all later ones
abbrev pub is_trailing : SlotRule → Bool
is_trailing Required = false
is_trailing NeverMissing = false
is_trailing TrailingMissing = true
is_trailing AnyMissing = false

-- a group behind a slot that was there, which was empty or not
abbrev pub with_slot : Progress → SlotRule → Bool → Progress
with_slot group rule empty = record group { taken = true; blank = is_trailing rule && empty; stage = Between }

-- a group behind a slot that wasn't there
abbrev pub without_slot : Progress → SlotRule → Progress
without_slot group rule = record group { absent = group.absent || is_trailing rule; stage = Between }

-- where a separator is sought: before the slot, or behind an occurrence
abbrev pub seeking : SlotRule → Known → Stage
seeking rule Begun = Before rule
seeking rule (Begins found) = Before rule
seeking rule (Occurred tried) = Behind rule tried
seeking rule (Closed tried found) = Behind rule tried

-- the slot was empty at the start of its content
abbrev pub was_empty : Known → Bool
was_empty Begun = false
was_empty (Begins found) = false
was_empty (Occurred tried) = tried.empty
was_empty (Closed tried found) = tried.empty

-- a group after a move in a slot
abbrev pub moved_by : Progress → SlotRule → Known → SlotMove → Progress
moved_by group rule known TakeSeparator = record group { stage = seeking rule known }
moved_by group rule known LookForSeparator = record group { stage = seeking rule known }
moved_by group rule known Parse = record group { stage = Content rule }
moved_by group rule known Keep = with_slot group rule (was_empty known)
moved_by group rule known Drop = with_slot group rule (was_empty known)
moved_by group rule known EndArray = without_slot group rule
moved_by group rule known EndGroup = record group { stage = Over }
moved_by group rule known (Fail fault) = record group { stage = Over }

abbrev pub group_by : Progress → Option (SlotRule × Known) → Progress
group_by group None = record group { stage = Over }
group_by group (Some slot) = moved_by group slot.0 slot.1 (course (here_of group slot.0) slot.1)

-- the group after what is told
abbrev pub group_after : Progress → SlotSeen → Progress
group_after group seen = group_by group (subject group seen)
