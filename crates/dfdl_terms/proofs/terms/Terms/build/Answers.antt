use Rattle.std.proofs.lemmas.Option.{slice_get_within}
use Rattle.dfdl_terms.proofs.terms.Terms.build.Goals as goal

pub returns-in-Some-clause-nests : goal.returns-in-Some-clause-nests
returns-in-Some-clause-nests c =
    let first = rw c.deref.ensures.value at c.in-Some.ensures.some in
    (λ e. absurd (cc), λ nests. absurd (first.bad (nests.1 _ first.row (slice_get_within _ _ _ first.there) first.there)))
