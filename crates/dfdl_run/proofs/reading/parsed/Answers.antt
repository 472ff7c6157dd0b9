use Rattle.std.proofs.Common.{[], sym, subst}
use Rattle.dfdl_terms.specs.Rows.{Table}
use Rattle.dfdl_run.specs.Fed.{HasParsedAll, HasTaken}
use Rattle.dfdl_run.proofs.Rests.{read_told}
use Rattle.dfdl_run.proofs.reading.parsed.Goals as goal

-- nothing was taken yet
pub read_all-requires-clause-begun : goal.read_all-requires-clause-begun
read_all-requires-clause-begun g c =
    subst (λ (t : Table). HasTaken t c.in_ok-feeding.feeding []) (sym c.in_ok-feeding.ensures.terms) c.in_ok-feeding.ensures.taken

pub returns-in-Ok-clause-parsed : goal.returns-in-Ok-clause-parsed
returns-in-Ok-clause-parsed g c =
    subst (λ (t : Table). HasParsedAll t (g.S.Source.seen c.args.source.now).left (g.S.Source.seen c.read_all.new.source).left c.args.most c.finish.new.self)
    c.in_ok-feeding.ensures.terms (read_told _ _ _ _ _ _ c.in-Ok.ensures.read c.in_ok-finish-in-Ok.ensures)

pub returns-clause-still : goal.returns-clause-still
returns-clause-still g c none = c.in-Err.ensures.still (λ is. none (cc))
