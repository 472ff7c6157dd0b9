-- What a session is over a stream of data that comes in pieces, and has one document after another.
use Rattle.std.specs.Prelude.{◌≡◌, ◌≤◌, ℕ, ◌+◌, ◌-◌, ◌*◌, ◌/◌, max, true, false, List, [], ◌++◌, length, take}
use Rattle.dfdl_bits.specs.Window.{end_of}
use Rattle.dfdl_looks.specs.Looks.{Agrees}
use Rattle.dfdl_grammar.specs.States.{Input}
use Rattle.dfdl_grammar.specs.Outcomes.{Outcome}
use Rattle.dfdl_grammar.specs.Documents.{document_from}
use Rattle.dfdl_parse.specs.declared.frame.Focus.TheVariants.{Leave}
use Rattle.dfdl_parse.specs.declared.session.Session.{Session}
use Rattle.dfdl_parse.specs.Opens.{NeedsFrom}
use Rattle.dfdl_parse.specs.Registered.{IsRegistered}
use Rattle.dfdl_parse.specs.Shown.{shown, state_of}
use Rattle.dfdl_parse.specs.Runs.{Runs}

-- the data of a session, where these are all of them
abbrev pub input_of : Session → List ℕ → Input
input_of s bytes = record { bytes = bytes; limits = s.limits }

-- what data mean to a session, from the byte on at which its document begins
abbrev pub document_of : Session → List ℕ → Outcome
document_of s bytes = document_from s.limits s.terms.now s.start bytes

-- how many bytes of a stream are still needed where no more have come: those from the first one on that was still needed at the look
-- that found no byte
abbrev pub still_needed : Session → List ℕ → ℕ
still_needed s stream = length stream - (document_of s stream).tally.anchor

-- the first whole byte behind a bit: a document that ends at this bit has the next one behind it begin there
abbrev pub byte_behind : ℕ → ℕ
byte_behind bit = (bit + 7) / 8

-- these bytes can come behind those that the session has taken: none do where it was told that the data end
abbrev pub CanFollow : Session → List ℕ → Type 0
CanFollow s more = s.sight.ended ≡ true → more ≡ []

-- the session has taken the stream, whatever comes behind it
pub record HasTaken (s : Session) (stream : List ℕ) : Type 0 where
  pub agrees : (more : List ℕ) → CanFollow s more → Agrees s.sight (stream ++ more)
  pub all : length stream ≡ end_of s.sight

-- The session has taken the stream and stands in the work on the document that begins at this byte, whatever comes behind, in
-- so many steps, of which some were allowed besides the looks of the meaning by pieces that ended in a row.
pub record StandsFor (s : Session) (stream : List ℕ) (start steps allowed : ℕ) : Type 0 where
  pub begins : s.start ≡ start
  pub looks : ℕ
  pub runs : (more : List ℕ) → CanFollow s more
      → Runs (input_of s (stream ++ more)) s.terms.now (document_of s (stream ++ more)) (shown s.parser) s.sight looks s.parser.far
  pub counted : steps ≡ looks + allowed
  pub taken : HasTaken s stream

-- the session can go on: the bytes that are needed are held, none was looked at that hasn't come, and no memory was wanting
pub record IsSound (s : Session) : Type 0 where
  pub some : 1 ≤ s.limits.window
  pub seen : s.sight.ended ≡ false → s.parser.far ≤ end_of s.sight
  pub low : NeedsFrom s.sight.base s.parser.focus s.parser.stack (state_of s.parser)
  pub at : s.parser.at ≤ 8 * end_of s.sight
  pub window : s.sight.size ≡ s.limits.window
  pub nodes : s.parser.region.most ≡ s.limits.nodes
  pub text : s.parser.text.most ≡ s.limits.text
  pub registered : IsRegistered s.terms.now s.parser
  pub memory : s.lost ≡ false

-- the session can take a piece: it can go on, and the data go on
pub record IsReady (s : Session) : Type 0 where
  pub sound : IsSound s
  pub ended : s.sight.ended ≡ false

-- the session has come to this outcome, in so many steps, of which some were allowed besides its looks
pub record Ends (s : Session) (o : Outcome) (steps allowed : ℕ) : Type 0 where
  pub focus : s.parser.focus ≡ Leave o.end
  pub stack : s.parser.stack ≡ []
  pub state : state_of s.parser ≡ o.state
  pub far : s.parser.far ≡ o.tally.far
  pub steps_are : steps ≡ o.tally.looks + allowed
  pub memory : s.lost ≡ false

-- The session has come to the outcome of the stream, which is also that of the stream with any more behind it.
pub record ComesTo (old new : Session) (stream : List ℕ) (steps allowed : ℕ) : Type 0 where
  pub outcome : (more : List ℕ) → Ends new (document_of old (stream ++ more)) steps allowed
  pub within : new.parser.far ≤ length stream
  pub taken : HasTaken new stream

-- The session has come to the outcome of the stream with a piece, which is also that with any more behind it. It has taken so
-- many bytes of the piece: those up to the last one that was looked at, if any was.
pub record Finished (old new : Session) (stream piece : List ℕ) (taken steps allowed : ℕ) : Type 0 where
  pub outcome : (more : List ℕ) → Ends new (document_of old ((stream ++ piece) ++ more)) steps allowed
  pub within : taken ≤ length piece
  pub far : length stream + taken ≡ max (document_of old (stream ++ piece)).tally.far (length stream)
  pub takes : HasTaken new (stream ++ take taken piece)
