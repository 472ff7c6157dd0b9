-- What holds of the verdicts on slots that come one after another.
use Rattle.std.specs.Prelude.{◌≡◌, Bool, true, false, ◌||◌, Option, Some, None, List, [], ◌∷◌, if◌then◌else◌, refl}
use Rattle.std.specs.List.{AllByRecursion}
use Rattle.std.proofs.Common.{sym, ◌∙◌, ap, subst}
use Rattle.dfdl_report.specs.declared.cause.ParseCause.{ParseCause}
use Rattle.dfdl_separators.specs.declared.course.Known.{Known}
use Rattle.dfdl_separators.specs.declared.course.Known.TheVariants.{Occurred}
use Rattle.dfdl_separators.specs.declared.moves.SlotMove.{SlotMove}
use Rattle.dfdl_separators.specs.declared.moves.SlotMove.TheVariants.{EndArray}
use Rattle.dfdl_separators.specs.declared.policy.SeparatorSuppressionPolicy.{SeparatorSuppressionPolicy}
use Rattle.dfdl_separators.specs.declared.policy.SeparatorSuppressionPolicy.TheVariants as policies
use Rattle.dfdl_separators.specs.declared.progress.Progress.{Progress}
use Rattle.dfdl_separators.specs.declared.verdict.SlotRule.{SlotRule}
use Rattle.dfdl_separators.specs.declared.verdict.SlotRule.TheVariants.{Required, NeverMissing, TrailingMissing, AnyMissing}
use Rattle.dfdl_separators.specs.Groups.{here_of, moved_by, is_trailing}
use Rattle.dfdl_separators.specs.Runs.{Coming, rule_in, verdict_on, behind_slot, is_failure, verdicts, IsRequired, IsOptional, StandsOrFails, StandOrFail, LetsEnd}
use Rattle.dfdl_separators.specs.Verdicts.{Facts, verdict, rule_of, missing, required, is_past, is_past_by, lacks, by_tried, is_taken}

-- a required slot with or without its separators
required_is : (failure : Option ParseCause) (lost closed : Bool) → StandsOrFails failure (if lost then missing Required else required failure closed)
required_is failure true closed = tt
required_is None false true = refl
required_is None false false = tt
required_is (Some cause) false closed = refl

-- the verdict on a required slot
required_stands : (group : Progress) (facts : Facts) (rule : SlotRule) → rule ≡ Required → StandsOrFails facts.tried.failure (verdict (here_of group rule) facts)
required_stands group facts Required e = required_is facts.tried.failure _ _
required_stands group facts NeverMissing e = absurd (cc)
required_stands group facts TrailingMissing e = absurd (cc)
required_stands group facts AnyMissing e = absurd (cc)

rule_required : (group : Progress) (coming : Coming) → IsRequired coming → rule_in group coming ≡ Required
rule_required group coming is = ap (λ (p : Bool). rule_of group.policy coming.optional p) is.plain ∙ ap (λ (o : Bool). rule_of group.policy o false) is.required

-- what comes behind a verdict, where it doesn't fail the group
rest_stand : (fails : Bool) (comings : List Coming) (rest : List SlotMove) → StandOrFail comings rest → StandOrFail comings (if fails then [] else rest)
rest_stand true comings rest is = tt
rest_stand false comings rest is = is

pub all_required : (group : Progress) (comings : List Coming) → AllByRecursion IsRequired comings → StandOrFail comings (verdicts group comings)
all_required group [] is = tt
all_required group (coming ∷ more) is = (
  required_stands group coming.facts (rule_in group coming) (rule_required group coming is.0),
  rest_stand (is_failure (verdict_on group coming)) more (verdicts (behind_slot group coming) more) (all_required (behind_slot group coming) more is.1),
)

-- the rule of a slot that isn't of kind parsed, under the trailing policies
past_by : (policy : SeparatorSuppressionPolicy) (optional parsed absent : Bool) → LetsEnd policy → parsed ≡ false → absent ≡ true
    → is_past_by (rule_of policy optional parsed) absent ≡ true
past_by policy optional true absent ends e f = absurd (cc)
past_by policy false false absent ends e f = f
past_by policies.Never true false absent ends e f = absurd ends
past_by policies.TrailingEmpty true false absent ends e f = f
past_by policies.TrailingEmptyStrict true false absent ends e f = f
past_by policies.AnyEmpty true false absent ends e f = absurd ends

past_missing : (past lack : Bool) (rule : SlotRule) (move : SlotMove) → past ≡ true → (if past || lack then missing rule else move) ≡ missing rule
past_missing true lack rule move e = refl
past_missing false lack rule move e = cc

missing_not_taken : (rule : SlotRule) → is_taken (missing rule) ≡ false
missing_not_taken Required = refl
missing_not_taken NeverMissing = refl
missing_not_taken TrailingMissing = refl
missing_not_taken AnyMissing = refl

abbrev pub NotTaken : SlotMove → Type 0
NotTaken move = is_taken move ≡ false

-- what comes behind a slot that is missing: nothing, or a group that is as far
rest_missing : (group : Progress) (rule : SlotRule) (known : Known) (more : List Coming) (move : SlotMove) → move ≡ missing rule
    → group.absent ≡ true
    → ((next : Progress) → next.absent ≡ true → next.policy ≡ group.policy → AllByRecursion NotTaken (verdicts next more))
    → AllByRecursion NotTaken (if is_failure move then [] else verdicts (moved_by group rule known move) more)
rest_missing group rule known more move e absent again =
    let rest : (m : SlotMove) → Type 0 = λ m. AllByRecursion NotTaken (if is_failure m then [] else verdicts (moved_by group rule known m) more) in
    subst rest (sym e) (by_rule_missing group rule known more absent again)
  where
    by_rule_missing : (group : Progress) (rule : SlotRule) (known : Known) (more : List Coming) → group.absent ≡ true
        → ((next : Progress) → next.absent ≡ true → next.policy ≡ group.policy → AllByRecursion NotTaken (verdicts next more))
        → AllByRecursion NotTaken (if is_failure (missing rule) then [] else verdicts (moved_by group rule known (missing rule)) more)
    by_rule_missing group Required known more absent again = tt
    by_rule_missing group NeverMissing known more absent again = tt
    by_rule_missing group TrailingMissing known more absent again = again _ (ap (λ (b : Bool). b || true) absent) refl
    by_rule_missing group AnyMissing known more absent again = again _ (ap (λ (b : Bool). b || false) absent) refl

abbrev pub IsPlain : Coming → Type 0
IsPlain coming = coming.parsed ≡ false

pub none_taken : (group : Progress) (comings : List Coming) → LetsEnd group.policy → group.absent ≡ true → AllByRecursion IsPlain comings
    → AllByRecursion NotTaken (verdicts group comings)
none_taken group [] ends absent plain = tt
none_taken group (coming ∷ more) ends absent plain =
    let here = here_of group (rule_in group coming) in
    let is : verdict_on group coming ≡ missing (rule_in group coming) =
    past_missing (is_past here) (lacks here coming.facts.before) (rule_in group coming) (by_tried here coming.facts.tried coming.facts.behind)
    (past_by group.policy coming.optional coming.parsed group.absent ends plain.0 absent)
    in (
      ap is_taken is ∙ missing_not_taken (rule_in group coming),
      rest_missing group (rule_in group coming) (Occurred coming.facts.tried) more (verdict_on group coming) is absent
          (λ next absent_too same. none_taken next more (subst LetsEnd (sym same) ends) absent_too plain.1),
    )

or_true : (b : Bool) → (b || true) ≡ true
or_true true = refl
or_true false = refl

trailing_by : (policy : SeparatorSuppressionPolicy) (optional parsed : Bool) → LetsEnd policy → optional ≡ true → parsed ≡ false
    → is_trailing (rule_of policy optional parsed) ≡ true
trailing_by policy optional true ends e f = absurd (cc)
trailing_by policy false false ends e f = absurd (cc)
trailing_by policies.Never true false ends e f = absurd ends
trailing_by policies.TrailingEmpty true false ends e f = refl
trailing_by policies.TrailingEmptyStrict true false ends e f = refl
trailing_by policies.AnyEmpty true false ends e f = absurd ends

pub none_behind : (group : Progress) (coming : Coming) (comings : List Coming) → LetsEnd group.policy → IsOptional coming
    → verdict_on group coming ≡ EndArray → AllByRecursion IsPlain comings
    → AllByRecursion NotTaken (verdicts (behind_slot group coming) comings)
none_behind group coming comings ends optional is plain =
    let rule = rule_in group coming in
    let known = Occurred coming.facts.tried in
    none_taken (behind_slot group coming) comings
    (subst LetsEnd (sym (ap (λ (m : SlotMove). (moved_by group rule known m).policy) is)) ends)
    (ap (λ (m : SlotMove). (moved_by group rule known m).absent) is
    ∙ (ap (λ (b : Bool). group.absent || b) (trailing_by group.policy coming.optional coming.parsed ends optional.optional optional.plain) ∙ or_true group.absent))
    plain
