-- What is known of a slot after each answer.
use Rattle.std.specs.Prelude.{◌≡◌, Bool, true, false, Option, Some, refl}
use Rattle.std.proofs.Common.{sym, ◌∙◌, ap, inl, inr}
use Rattle.dfdl_separators.specs.declared.course.Known.{Known}
use Rattle.dfdl_separators.specs.declared.course.Known.TheVariants.{Begun, Begins, Occurred, Closed}
use Rattle.dfdl_separators.specs.declared.moves.SlotMove.{SlotMove}
use Rattle.dfdl_separators.specs.declared.moves.SlotMove.TheVariants.{TakeSeparator, LookForSeparator, Parse, Keep, Drop, EndArray, EndGroup, Fail}
use Rattle.dfdl_separators.specs.declared.moves.SlotSeen.{SlotSeen}
use Rattle.dfdl_separators.specs.declared.moves.SlotSeen.TheVariants.{Separator, Ended}
use Rattle.dfdl_separators.specs.declared.progress.Progress.{Progress}
use Rattle.dfdl_separators.specs.declared.progress.Stage.{Stage}
use Rattle.dfdl_separators.specs.declared.verdict.SlotRule.{SlotRule}
use Rattle.dfdl_separators.specs.declared.verdict.Tried.{Tried}
use Rattle.dfdl_separators.specs.Courses.{is_verdict, with_separator, AsksSeparator}
use Rattle.dfdl_separators.specs.Groups.{subject, here_of, move_at, move_by, group_after, group_by, moved_by, seeking, sought, tried_in}

module _ (group : Progress) (seen : SlotSeen) (rule : SlotRule) (known : Known) (is : subject group seen ≡ Some (rule, known)) where
  -- the group goes on by this move
  pub goes_on : (move : SlotMove) → move_at group seen ≡ move → group_after group seen ≡ moved_by group rule known move
  goes_on move moves =
      ap (λ (s : Option (SlotRule × Known)). group_by group s) is
      ∙ ap (λ (m : SlotMove). moved_by group rule known m) (sym (ap (λ (s : Option (SlotRule × Known)). move_by group s) is) ∙ moves)

  stage_seeking : AsksSeparator (move_at group seen) → (group_after group seen).stage ≡ seeking rule known
  stage_seeking (inl takes) = ap (λ (g : Progress). g.stage) (goes_on TakeSeparator takes)
  stage_seeking (inr looks) = ap (λ (g : Progress). g.stage) (goes_on LookForSeparator looks)

  pub separator_told : (found : Bool) → AsksSeparator (move_at group seen) → subject (group_after group seen) (Separator found) ≡ Some (rule, with_separator known found)
  separator_told found asks = ap (λ (s : Stage). sought s found) (stage_seeking asks) ∙ sought_told rule known found
    where
      sought_told : (rule : SlotRule) (known : Known) (found : Bool) → sought (seeking rule known) found ≡ Some (rule, with_separator known found)
      sought_told rule Begun found = refl
      sought_told rule (Begins other) found = refl
      sought_told rule (Occurred tried) found = refl
      sought_told rule (Closed tried other) found = refl

  pub occurrence_told : (tried : Tried) → move_at group seen ≡ Parse
      → subject (group_after group seen) (Ended tried.moved tried.empty tried.failure tried.resolved) ≡ Some (rule, Occurred tried)
  occurrence_told tried parses = ap (λ (s : Stage). tried_in s tried) (ap (λ (g : Progress). g.stage) (goes_on Parse parses))

  pub same_slot : is_verdict (move_at group seen) ≡ false → here_of (group_after group seen) rule ≡ here_of group rule
  same_slot asks = ap (λ (g : Progress). here_of g rule) (goes_on (move_at group seen) refl) ∙ kept group rule known (move_at group seen) asks
    where
      kept : (group : Progress) (rule : SlotRule) (known : Known) (move : SlotMove) → is_verdict move ≡ false → here_of (moved_by group rule known move) rule ≡ here_of group rule
      kept group rule known TakeSeparator asks = refl
      kept group rule known LookForSeparator asks = refl
      kept group rule known Parse asks = refl
      kept group rule known Keep asks = let never : true ≡ false = asks in absurd (cc)
      kept group rule known Drop asks = let never : true ≡ false = asks in absurd (cc)
      kept group rule known EndArray asks = let never : true ≡ false = asks in absurd (cc)
      kept group rule known EndGroup asks = let never : true ≡ false = asks in absurd (cc)
      kept group rule known (Fail fault) asks = let never : true ≡ false = asks in absurd (cc)
