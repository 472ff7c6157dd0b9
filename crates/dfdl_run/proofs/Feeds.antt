-- What a session has taken of data that come in pieces.
use Rattle.std.proofs.Common.{◌≡◌, ℕ, ◌+◌, ◌^◌, ◌<◌, ◌≤◌, List, [], ◌++◌, All, length, true, false, refl, sym, subst, ◌∙◌, arith, append-nil, append_assoc, length-append}
use Rattle.std.proofs.lemmas.List.Elements.{All-append}
use Rattle.dfdl_bits.specs.Window.{end_of}
use Rattle.dfdl_terms.specs.Rows.{Table}
use Rattle.dfdl_grammar.specs.Documents.{document}
use Rattle.dfdl_parse.specs.Sessions.{Ends, Finished, IsReady, StandsFor, document_of}
use Rattle.dfdl_parse.specs.declared.session.Session.{Session}
use Rattle.dfdl_run.specs.declared.feeding.Feeding.{Feeding}
use Rattle.dfdl_run.specs.Fed.{HasEnded, HasTaken, IsOver, NeedsMore}
use Rattle.dfdl_run.specs.Meaning.{limits}
use Rattle.dfdl_run.specs.Parsed.{HasParsed}
use Rattle.dfdl_run.proofs.Parses.{parsed_end}

-- a session that needs more behind a piece
pub needs_behind : (t : Table) (old new : Session) (bytes piece : List ℕ) (spent allowed : ℕ) → NeedsMore t old bytes → IsReady new
    → new.terms.now ≡ old.terms.now → new.limits ≡ old.limits → StandsFor new (bytes ++ piece) 0 spent allowed → NeedsMore t new (bytes ++ piece)
needs_behind t old new bytes piece spent allowed needs ready terms_are limits_are stands = record {
  ready = ready;
  terms = terms_are ∙ needs.terms;
  limits_are = limits_are ∙ needs.limits_are;
  spent = spent;
  allowed = allowed;
  stands = stands;
}

-- a session that has come to an outcome with a piece, whatever comes behind it
pub over_behind : (t : Table) (old new : Session) (bytes piece : List ℕ) (taken steps allowed : ℕ) → NeedsMore t old bytes → new.terms.now ≡ old.terms.now
    → Finished old new bytes piece taken steps allowed → IsOver t new (bytes ++ piece)
over_behind t old new bytes piece taken steps allowed needs terms_are finished = record {
  terms = terms_are ∙ needs.terms;
  parsed = λ more. parsed_end old new t ((bytes ++ piece) ++ more) ((bytes ++ piece) ++ more) steps allowed needs.terms needs.limits_are needs.stands.begins refl
      (finished.outcome more);
}

-- a session that needs no more doesn't see a piece
pub over_more : (t : Table) (s : Session) (bytes piece : List ℕ) → IsOver t s bytes → IsOver t s (bytes ++ piece)
over_more t s bytes piece over = record {
  terms = over.terms;
  parsed = λ more. subst (λ (xs : List ℕ). HasParsed s (document limits t xs)) (sym (append_assoc bytes piece more)) (over.parsed (piece ++ more));
}

-- a piece more was counted and taken
pub taken_behind : (t : Table) (old new : Feeding) (bytes piece : List ℕ) → HasTaken t old bytes → All (λ byte. byte < 256) piece
    → new.count ≡ old.count + length piece
    → (new.needs_more ≡ true → NeedsMore t new.session (bytes ++ piece))
    → (new.needs_more ≡ false → IsOver t new.session (bytes ++ piece)) → HasTaken t new (bytes ++ piece)
taken_behind t old new bytes piece taken are count needed done = record {
  count =
      let before = taken.count in
      let size = length-append bytes piece in
      omega arith;
  are_bytes = All-append (λ byte. byte < 256) bytes piece taken.are_bytes are;
  needed = needed;
  done = done;
}

-- all bytes were taken, and the session needs no more
pub ended_over : (t : Table) (f : Feeding) (bytes : List ℕ) → HasTaken t f bytes → f.needs_more ≡ false → HasEnded t f bytes
ended_over t f bytes taken over = record {
  count = taken.count;
  are_bytes = taken.are_bytes;
  terms = (taken.done over).terms;
  parsed = subst (λ (xs : List ℕ). HasParsed f.session (document limits t xs)) (append-nil bytes) ((taken.done over).parsed []);
}

-- all bytes were taken, and the session is told that there are no more
pub ended_told : (t : Table) (old new : Feeding) (bytes : List ℕ) (steps : ℕ) → (taken : HasTaken t old bytes) → (needs : NeedsMore t old.session bytes)
    → new.count ≡ old.count → new.session.terms.now ≡ old.session.terms.now
    → Ends new.session (document_of old.session bytes) steps needs.allowed → HasEnded t new bytes
ended_told t old new bytes steps taken needs count terms_are ends = record {
  count = count ∙ taken.count;
  are_bytes = taken.are_bytes;
  terms = terms_are ∙ needs.terms;
  parsed = parsed_end old.session new.session t bytes bytes steps needs.allowed needs.terms needs.limits_are needs.stands.begins refl ends;
}

-- what is held doesn't pass the bound that the count keeps
pub few_held : (f : Feeding) (t : Table) (bytes piece : List ℕ) → HasTaken t f bytes → f.needs_more ≡ true → f.count + length piece ≤ 2 ^ 60
    → end_of f.session.sight + length piece ≤ 2 ^ 60
few_held f t bytes piece taken more few =
    let all = (taken.needed more).stands.taken.all in
    let count = taken.count in
    omega arith
