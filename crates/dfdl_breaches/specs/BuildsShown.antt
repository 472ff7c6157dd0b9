-- Mirror for the prover: what is told of one component, by the builds of its patterns.
use Rattle.std.specs.Prelude.{◌≡◌, ℕ, List, [], ◌∷◌, ◌++◌, Bool, Result, Ok, Err, IfOk, OnOk}
use Rattle.dfdl_edge.specs.declared.building.PatternRefusal.{PatternRefusal}
use Rattle.dfdl_edge.specs.declared.building.PatternRefusal.TheVariants.{Refused, OutOfMemory}
use Rattle.dfdl_terms.specs.declared.statement.PatternTest.{PatternTest}
use Rattle.dfdl_checks.specs.Judged.{Judged}
use Rattle.dfdl_breaches.specs.Builds.{IsBuilt, IsOneRefused, PatternsSeen}
use Rattle.dfdl_breaches.specs.declared.judgement.Judgement.{Judgement}

-- the component, where one of its patterns is refused, or none is
abbrev pub with_refused : Bool → Judged → Judged
with_refused is_refused subject = record subject { pattern_is_refused = is_refused }

-- patterns of these texts were built, and come to these tests unless one is refused
abbrev pub BuildsTo : List PatternTest → List (List ℕ) → PatternsSeen → PatternsSeen → Result (List PatternTest) PatternRefusal → Type 0
BuildsTo tests texts before after (Ok built) = (built ≡ tests) × (after ≡ before)
BuildsTo tests texts before after (Err Refused) = IsOneRefused texts before after
BuildsTo tests texts before after (Err OutOfMemory) = after ≡ before

-- the same, where the tests come behind others
abbrev pub BuildsBehind : List PatternTest → List (List ℕ) → PatternsSeen → PatternsSeen → List PatternTest → List PatternTest
    → Result (Unit {0}) PatternRefusal → Type 0
BuildsBehind tests texts before after old new (Ok done) = (new ≡ old ++ tests) × (after ≡ before)
BuildsBehind tests texts before after old new (Err Refused) = IsOneRefused texts before after
BuildsBehind tests texts before after old new (Err OutOfMemory) = after ≡ before

-- its patterns were built, and this is told of it
abbrev pub IsToldBy : {E : Type 0} → List (List ℕ) → (Bool → Judgement) → PatternsSeen → PatternsSeen → Result Judgement E → Type 0
IsToldBy patterns told before after result =
    (is_refused : Bool) × IsBuilt patterns is_refused before after × IfOk result (λ judgement. judgement ≡ told is_refused)

-- the same, behind what is told of others
abbrev pub IsPushed : {U E : Type 0} → List (List ℕ) → (Bool → Judgement) → PatternsSeen → PatternsSeen → List Judgement → List Judgement
    → Result U E → Type 0
IsPushed patterns told before after old new result =
    (is_refused : Bool) × IsBuilt patterns is_refused before after × OnOk result (new ≡ old ++ told is_refused ∷ [])
