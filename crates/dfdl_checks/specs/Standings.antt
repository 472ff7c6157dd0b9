-- Where components stand: in groups with initiated content ('Sequence Groups', on initiatedContent), and among the slots of sequences
-- with separators ('Sequence Groups', on separatorSuppressionPolicy).
use Rattle.std.specs.Prelude.{ℕ, Bool, true, false, not, ◌&&◌, ◌||◌, Option, Some, None, codes}
use Rattle.dfdl_checks.specs.Delimiters.{has_delimiter}
use Rattle.dfdl_checks.specs.Judged.{Judged}
use Rattle.dfdl_checks.specs.Occurrences.{is_count_asked, is_fixed, is_parsed}
use Rattle.dfdl_checks.specs.Subjects.{is_calculated, is_element, is_plain_group, is_told}
use Rattle.dfdl_checks.specs.declared.purpose.Purpose.{Purpose}
use Rattle.dfdl_checks.specs.declared.purpose.Purpose.TheVariants.{Parsing, Unparsing}

-- a component of a group with initiated content has no initiator
abbrev pub lacks_initiator : Judged → Bool
lacks_initiator subject = subject.standing.is_initiated && not (has_delimiter subject (codes "initiator"))

-- 39: a component of a group with initiated content that has no initiator; an element whose value is calculated needs none
abbrev pub is_initiator_missing : Judged → Bool
is_initiator_missing subject = not (is_calculated subject.kind) && lacks_initiator subject

-- there is no greatest number of occurrences
abbrev pub is_endless : Option ℕ → Bool
is_endless None = true
is_endless (Some most) = false

-- 31: an unbounded element of kind implicit among slots none of which may be unbounded
abbrev pub is_unbounded_not_allowed : Judged → Bool
is_unbounded_not_allowed subject =
    subject.standing.needs_bound
    && (is_element subject.kind
    && (is_endless subject.facts.bounds.most && (not (is_fixed subject) && (not (is_parsed subject) && not (is_count_asked subject)))))

-- the content of a group is initiated; for unparsing it isn't built
abbrev pub initiates_for : Purpose → Judged → Bool
initiates_for Parsing subject = is_plain_group subject.kind && is_told subject (codes "initiatedContent") (codes "yes")
initiates_for Unparsing subject = false

-- the same for the component's purpose
abbrev pub initiates : Judged → Bool
initiates subject = initiates_for subject.purpose subject
