-- Mirror for the prover: a session that has come to an outcome.
use Rattle.std.specs.Prelude.{ℕ}
use Rattle.dfdl_grammar.specs.Outcomes.{Outcome}
use Rattle.dfdl_parse.specs.Sessions.{Ends}
use Rattle.dfdl_parse.specs.declared.session.Session.{Session}

-- the session has come to the outcome, in some steps
pub record HasParsed (s : Session) (o : Outcome) : Type 0 where
  pub steps : ℕ
  pub allowed : ℕ
  pub ends : Ends s o steps allowed
