-- The builds of the patterns of components: those of their tests ('DFDL Schema Component Model', on asserts and discriminators), and
-- those that tell their lengths ('Lengths', on lengthKind pattern).
use Rattle.std.specs.Prelude.{◌≡◌, ◌≤◌, ◌⊎◌, ℕ, zero, suc, List, [], ◌∷◌, Option, Bool, true, false, if◌then◌else◌}
use Rattle.dfdl_edge.specs.Faults.{Rose}
use Rattle.dfdl_edge.specs.Told.{IsNowLast}
use Rattle.dfdl_length_patterns.specs.Patterns.{anchored}
use Rattle.dfdl_documents.specs.Documents.{SchemaDocument}
use Rattle.dfdl_components.specs.declared.site.Site.{Site}
use Rattle.dfdl_components.specs.Recursion.{count_of}
use Rattle.dfdl_components.specs.Sites.{role_of}
use Rattle.dfdl_checks.specs.Tests.{patterns_of}
use Rattle.dfdl_checks.specs.declared.purpose.Purpose.{Purpose}
use Rattle.dfdl_chains.specs.Everywhere.{for_each, site_at}
use Rattle.dfdl_chains.specs.Parts.{is_component}
use Rattle.dfdl_breaches.specs.Judging.{judged_at, judgement_at}
use Rattle.dfdl_breaches.specs.declared.judgement.Judgement.{Judgement}

-- what is seen of a builder of patterns: how many builds it refused, and the text last refused, if any was; `None` where this isn't
-- told
pub record PatternsSeen : Type 0 where
  pub faults : ℕ
  pub last : Option (Option (List ℕ))

-- nothing is refused
abbrev pub never : Site → Bool
never own = false

-- everything is refused, or nothing is
abbrev pub always : Bool → Site → Bool
always is_refused own = is_refused

-- the patterns of an element, if it is a component
abbrev pub patterns_at : Purpose → List SchemaDocument → Site → List (List ℕ)
patterns_at purpose documents own =
    if is_component (role_of documents own) then patterns_of (judged_at purpose never documents own) else []

-- the build of a text was refused: the count of refused builds rose, and the text is the one last refused
pub record IsRefusedBuild (text : List ℕ) (before after : PatternsSeen) : Type 0 where
  pub later : before.faults ≤ after.faults
  pub rose : Rose before.faults after.faults
  pub last : IsNowLast before.last text after.last

-- the build of one of these patterns was refused, as a group at the begin of what is searched
abbrev pub IsOneRefused : List (List ℕ) → PatternsSeen → PatternsSeen → Type 0
IsOneRefused [] before after = ⊥
IsOneRefused (text ∷ others) before after = IsRefusedBuild (anchored text) before after ⊎ IsOneRefused others before after

-- these patterns were built, one after another and no further than to the first that was refused: one was, or all stayed as it was
abbrev pub IsBuilt : List (List ℕ) → Bool → PatternsSeen → PatternsSeen → Type 0
IsBuilt texts false before after = after ≡ before
IsBuilt texts true before after = IsOneRefused texts before after

-- the patterns of the first elements of the documents were built, one after another in the order of the elements, and those of these
-- elements were refused
abbrev pub AreBuilt : Purpose → (Site → Bool) → List SchemaDocument → ℕ → PatternsSeen → PatternsSeen → Type 0
AreBuilt purpose refused documents zero before after = after ≡ before
AreBuilt purpose refused documents (suc n) before after =
    (between : PatternsSeen) × AreBuilt purpose refused documents n before between
    × IsBuilt (patterns_at purpose documents (site_at documents n)) (refused (site_at documents n)) between after

-- the same of all elements
abbrev pub AreAllBuilt : Purpose → (Site → Bool) → List SchemaDocument → PatternsSeen → PatternsSeen → Type 0
AreAllBuilt purpose refused documents before after = AreBuilt purpose refused documents (count_of documents) before after

-- this is told of the elements of the documents, by the builds of their patterns
pub record AreJudged (purpose : Purpose) (documents : List SchemaDocument) (before after : PatternsSeen) (judgements : List Judgement)
    : Type 0 where
  pub refused : Site → Bool
  pub built : AreAllBuilt purpose refused documents before after
  pub told : judgements ≡ for_each documents (judgement_at purpose refused documents)

-- want of memory ended the builds of the patterns, behind that of one of the elements
pub record AreBuiltInPart (purpose : Purpose) (documents : List SchemaDocument) (before after : PatternsSeen) : Type 0 where
  pub refused : Site → Bool
  pub count : ℕ
  pub few : count ≤ count_of documents
  pub built : AreBuilt purpose refused documents count before after
