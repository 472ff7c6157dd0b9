-- Mirror for the prover: what a question of a slot comes to, as the code has it.
use Rattle.std.specs.Prelude.{◌≡◌, ℕ, Bool, false, ◌&&◌, nat_eq, nat_lt}
use Rattle.dfdl_delims.specs.declared.found.Found.{Found}
use Rattle.dfdl_delims.specs.declared.found.Found.TheVariants.{Match, None as NoMatch, NotYet as NotFound, Over}
use Rattle.dfdl_looks.specs.Asks.{Reading}
use Rattle.dfdl_parse.specs.declared.testing.Told.{Told}
use Rattle.dfdl_parse.specs.declared.testing.Verdict.{Verdict}
use Rattle.dfdl_parse.specs.declared.testing.Verdict.TheVariants.{Holds, Past, NotYet}
use Rattle.dfdl_parse.specs.Testing.{verdict_shown}

-- whether any text was found
abbrev pub any_found : Found → Verdict
any_found (Match which bits) = Holds (nat_lt 0 bits)
any_found NoMatch = Holds false
any_found Over = Past
any_found NotFound = NotYet

-- whether a text of the list at a place was found
abbrev pub found_at : ℕ → Found → Verdict
found_at place (Match which bits) = Holds (nat_eq which place && nat_lt 0 bits)
found_at place NoMatch = Holds false
found_at place Over = Past
found_at place NotFound = NotYet

-- the answer is this reading of a question, in so many looks
pub record Answers (reading : Reading Bool) (told : Told) (looks_made : ℕ) : Type 0 where
  pub reached : reading.reached ≡ verdict_shown told.verdict
  pub looks : reading.tally.looks ≡ looks_made
  pub far : reading.tally.far ≡ told.far
