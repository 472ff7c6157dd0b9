-- Mirror for the prover: a session that is given the bytes of a source as they come.
use Rattle.std.specs.Prelude.{◌≡◌, ℕ, ◌<◌, ◌≤◌, true, false, List, ◌++◌, All, Option, length}
use Rattle.dfdl_edge.specs.Told.{IsAll}
use Rattle.dfdl_edge.specs.Whole.{IsAfter, IsUsedUp}
use Rattle.dfdl_terms.specs.Rows.{Table}
use Rattle.dfdl_grammar.specs.Documents.{document}
use Rattle.dfdl_parse.specs.Sessions.{IsReady, StandsFor}
use Rattle.dfdl_parse.specs.declared.session.Session.{Session}
use Rattle.dfdl_run.specs.declared.feeding.Feeding.{Feeding}
use Rattle.dfdl_run.specs.Meaning.{limits}
use Rattle.dfdl_run.specs.Parsed.{HasParsed}

-- the session has taken these bytes, and needs more
pub record NeedsMore (t : Table) (s : Session) (bytes : List ℕ) : Type 0 where
  pub ready : IsReady s
  pub terms : s.terms.now ≡ t
  pub limits_are : s.limits ≡ limits
  pub spent : ℕ
  pub allowed : ℕ
  pub stands : StandsFor s bytes 0 spent allowed

-- the session has come to the outcome of these bytes, which is the same with any more behind them
pub record IsOver (t : Table) (s : Session) (bytes : List ℕ) : Type 0 where
  pub terms : s.terms.now ≡ t
  pub parsed : (more : List ℕ) → HasParsed s (document limits t (bytes ++ more))

-- these bytes were counted, and the session has taken them, or those of them that it needed
pub record HasTaken (t : Table) (f : Feeding) (bytes : List ℕ) : Type 0 where
  pub count : f.count ≡ length bytes
  pub are_bytes : All (λ byte. byte < 256) bytes
  pub needed : f.needs_more ≡ true → NeedsMore t f.session bytes
  pub done : f.needs_more ≡ false → IsOver t f.session bytes

-- some bytes were counted and taken
pub record HasBegun (f : Feeding) : Type 0 where
  pub table : Table
  pub bytes : List ℕ
  pub taken : HasTaken table f bytes

-- these bytes, which are all, were counted, and the session has come to their outcome
pub record HasEnded (t : Table) (f : Feeding) (bytes : List ℕ) : Type 0 where
  pub count : f.count ≡ length bytes
  pub are_bytes : All (λ byte. byte < 256) bytes
  pub terms : f.session.terms.now ≡ t
  pub parsed : HasParsed f.session (document limits t bytes)

-- some bytes, which are all, were counted, and the session has come to their outcome
pub record HasCome (t : Table) (f : Feeding) : Type 0 where
  pub bytes : List ℕ
  pub ended : HasEnded t f bytes

-- the bytes that the source has given were counted and taken
pub record HasRead (t : Table) (before after : Option (List ℕ)) (f : Feeding) : Type 0 where
  pub bytes : List ℕ
  pub taken : HasTaken t f bytes
  pub given : IsAfter before bytes after

-- all bytes that the source had, at most so many, were counted and taken
pub record HasReadAll (t : Table) (before after : Option (List ℕ)) (most : ℕ) (f : Feeding) : Type 0 where
  pub bytes : List ℕ
  pub taken : HasTaken t f bytes
  pub all : IsAll before bytes
  pub used_up : IsUsedUp before after
  pub fits : length bytes ≤ most

-- all bytes that the source had, at most so many, were counted, and the session has come to their outcome
pub record HasParsedAll (t : Table) (before after : Option (List ℕ)) (most : ℕ) (f : Feeding) : Type 0 where
  pub bytes : List ℕ
  pub ended : HasEnded t f bytes
  pub all : IsAll before bytes
  pub used_up : IsUsedUp before after
  pub fits : length bytes ≤ most
