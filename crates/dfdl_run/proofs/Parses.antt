-- A session that has come to the outcome of its data.
use Rattle.std.proofs.Common.{◌≡◌, ℕ, List, ap, subst, ◌∙◌}
use Rattle.dfdl_terms.specs.Rows.{Table}
use Rattle.dfdl_grammar.specs.declared.limits.Limits.{Limits}
use Rattle.dfdl_grammar.specs.Outcomes.{Outcome}
use Rattle.dfdl_grammar.specs.Documents.{document, document_from}
use Rattle.dfdl_parse.specs.Sessions.{Ends, document_of}
use Rattle.dfdl_parse.specs.declared.session.Session.{Session}
use Rattle.dfdl_run.specs.Meaning.{limits}
use Rattle.dfdl_run.specs.Parsed.{HasParsed}

-- a session that has come to the outcome of the whole data
pub parsed_end : (old new : Session) (t : Table) (bytes stream : List ℕ) (steps allowed : ℕ) → old.terms.now ≡ t → old.limits ≡ limits → old.start ≡ 0
    → stream ≡ bytes → Ends new (document_of old stream) steps allowed → HasParsed new (document limits t bytes)
parsed_end old new t bytes stream steps allowed terms_are limits_are begins is ends = record {
  steps = steps;
  allowed = allowed;
  ends = subst (λ (o : Outcome). Ends new o steps allowed)
      (ap (λ (n : ℕ). document_from old.limits old.terms.now n stream) begins
      ∙ ap (λ (l : Limits). document l old.terms.now stream) limits_are
      ∙ (ap (λ (table : Table). document limits table stream) terms_are ∙ ap (document limits t) is)) ends;
}
