-- Mirror for the prover: what is noted of where components stand.
use Rattle.std.specs.Prelude.{◌≡◌, ℕ, List, length, get_or, Bool, if◌then◌else◌}
use Rattle.dfdl_documents.specs.Documents.{SchemaDocument}
use Rattle.dfdl_components.specs.Recursion.{count_of}
use Rattle.dfdl_checks.specs.Places.{nowhere}
use Rattle.dfdl_checks.specs.declared.subject.Standing.{Standing}
use Rattle.dfdl_chains.specs.Everywhere.{all_sites}
use Rattle.dfdl_breaches.specs.Standing.{standing_from}
use Rattle.dfdl_breaches.specs.declared.standing.Asking.{Asking}

-- what is asked of the last part, or of another
abbrev pub asked_shown : Asking → Bool → Standing
asked_shown asking is_last = if is_last then asking.of_last else asking.of_others

-- where the elements stand, by their numbers
pub record AreStandings (documents : List SchemaDocument) (standings : List Standing) : Type 0 where
  pub many : length standings ≡ count_of documents
  pub each : (component : ℕ) → get_or standings component nowhere ≡ standing_from documents (all_sites documents) component
