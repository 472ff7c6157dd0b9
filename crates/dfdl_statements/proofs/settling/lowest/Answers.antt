use Rattle.std.proofs.lemmas.List.{drop_more}
use Rattle.dfdl_statements.proofs.Refused.{lower_more}
use Rattle.dfdl_statements.proofs.settling.lowest.Goals as goal

pub loop-standing-preserved : goal.loop-standing-preserved
loop-standing-preserved c = λ read reads.
    lower_more read c.args.sight.now c.args.written.now c.args.standings.now c.loop-standing.standing-index _ c.loop-standing.found c.lower-found.result
    c.in_ok-refusal_of.field-0 _ (drop_more c.args.standings.now c.loop-standing.standing-index _ c.loop-standing-test.true)
    (c.in_ok-refusal_of.ensures read reads) c.lower-found.ensures (c.loop-standing.invariant read reads)
