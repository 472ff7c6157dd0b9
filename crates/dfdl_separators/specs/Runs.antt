-- Slots that come one after another in a group, and the verdicts on them.
use Rattle.std.specs.Prelude.{◌≡◌, Bool, true, false, Option, Some, None, List, [], ◌∷◌, if◌then◌else◌}
use Rattle.dfdl_report.specs.declared.cause.ParseCause.{ParseCause}
use Rattle.dfdl_separators.specs.declared.course.Known.TheVariants.{Occurred}
use Rattle.dfdl_separators.specs.declared.moves.SlotFault.{SlotFault}
use Rattle.dfdl_separators.specs.declared.moves.SlotFault.TheVariants.{MissingSeparator, TrailingEmpty, Occurrence}
use Rattle.dfdl_separators.specs.declared.moves.SlotMove.{SlotMove}
use Rattle.dfdl_separators.specs.declared.moves.SlotMove.TheVariants.{TakeSeparator, LookForSeparator, Parse, Keep, Drop, EndArray, EndGroup, Fail}
use Rattle.dfdl_separators.specs.declared.policy.SeparatorSuppressionPolicy.{SeparatorSuppressionPolicy}
use Rattle.dfdl_separators.specs.declared.policy.SeparatorSuppressionPolicy.TheVariants as policies
use Rattle.dfdl_separators.specs.declared.progress.Progress.{Progress}
use Rattle.dfdl_separators.specs.declared.verdict.SlotRule.{SlotRule}
use Rattle.dfdl_separators.specs.Groups.{here_of, moved_by}
use Rattle.dfdl_separators.specs.Verdicts.{Facts, verdict, rule_of}

-- a slot that comes: what the schema says of it, and all that there is to see of it
pub record Coming : Type 0 where
  pub optional : Bool
  pub parsed : Bool
  pub facts : Facts

abbrev pub rule_in : Progress → Coming → SlotRule
rule_in group coming = rule_of group.policy coming.optional coming.parsed

-- the verdict on a slot that comes next
abbrev pub verdict_on : Progress → Coming → SlotMove
verdict_on group coming = verdict (here_of group (rule_in group coming)) coming.facts

-- the group behind that slot
abbrev pub behind_slot : Progress → Coming → Progress
behind_slot group coming = moved_by group (rule_in group coming) (Occurred coming.facts.tried) (verdict_on group coming)

-- the group fails
abbrev pub is_failure : SlotMove → Bool
is_failure (Fail fault) = true
is_failure Keep = false
is_failure Drop = false
is_failure EndArray = false
is_failure EndGroup = false
is_failure TakeSeparator = false
is_failure LookForSeparator = false
is_failure Parse = false

-- the verdicts on slots that come one after another, up to one that fails the group
abbrev pub verdicts : Progress → List Coming → List SlotMove
verdicts group [] = []
verdicts group (coming ∷ more) =
    verdict_on group coming ∷ (if is_failure (verdict_on group coming) then [] else verdicts (behind_slot group coming) more)

-- a slot that has to be there
pub record IsRequired (coming : Coming) : Type 0 where
  pub required : coming.optional ≡ false
  pub plain : coming.parsed ≡ false

-- why the group may fail at an occurrence with such a failure, or none
abbrev pub IsFaultOf : Option ParseCause → SlotFault → Type 0
IsFaultOf failure MissingSeparator = Unit {0}
IsFaultOf failure TrailingEmpty = ⊥
IsFaultOf failure (Occurrence cause) = failure ≡ Some cause

-- The item stands, and its occurrence didn't fail. Or the group fails, since the separator is missing or the occurrence failed.
abbrev pub StandsOrFails : Option ParseCause → SlotMove → Type 0
StandsOrFails failure Keep = failure ≡ None
StandsOrFails failure (Fail fault) = IsFaultOf failure fault
StandsOrFails failure Drop = ⊥
StandsOrFails failure EndArray = ⊥
StandsOrFails failure EndGroup = ⊥
StandsOrFails failure TakeSeparator = ⊥
StandsOrFails failure LookForSeparator = ⊥
StandsOrFails failure Parse = ⊥

-- each of the slots with its verdict, as far as there are verdicts
abbrev pub StandOrFail : List Coming → List SlotMove → Type 0
StandOrFail comings [] = Unit {0}
StandOrFail [] (move ∷ moves) = ⊥
StandOrFail (coming ∷ comings) (move ∷ moves) = StandsOrFails coming.facts.tried.failure move × StandOrFail comings moves

-- policies under which a slot may be absent with all later ones
abbrev pub LetsEnd : SeparatorSuppressionPolicy → Type 0
LetsEnd policies.Never = ⊥
LetsEnd policies.TrailingEmpty = Unit {0}
LetsEnd policies.TrailingEmptyStrict = Unit {0}
LetsEnd policies.AnyEmpty = ⊥

-- a slot that the policy speaks of: optional, and not of kind parsed
pub record IsOptional (coming : Coming) : Type 0 where
  pub optional : coming.optional ≡ true
  pub plain : coming.parsed ≡ false
