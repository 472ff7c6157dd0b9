use Rattle.std.proofs.Common.{ap, inr}
use Rattle.dfdl_run.proofs.Feeds.{few_held, needs_behind, over_behind, over_more, taken_behind}
use Rattle.dfdl_run.proofs.feeding.Feeding.take.Goals as goal

-- some data was taken so far, and more is needed
pub feed-requires-clause-ready : goal.feed-requires-clause-ready
feed-requires-clause-ready g c = let begun = c.requires.begun in inr (begun.taken.needed (cc)).ready

pub feed-requires-clause-bound : goal.feed-requires-clause-bound
feed-requires-clause-bound g c =
    let begun = c.requires.begun in few_held c.args.self.now begun.table begun.bytes c.args.piece.now begun.taken (cc) c.requires.few

pub returns-then-not-self-clause-taken : goal.returns-then-not-self-clause-taken
returns-then-not-self-clause-taken g c t bytes taken =
    taken_behind t c.args.self.now _ bytes c.args.piece.now taken c.are_bytes.ensures (cc) (λ more. absurd (cc))
    (λ over. over_more t c.args.self.now.session bytes c.args.piece.now (taken.done over))

pub returns-clause-taken : goal.returns-clause-taken
returns-clause-taken g c t bytes taken =
    let needs = taken.needed (cc) in
    let terms_are = ap (λ terms. terms.now) c.in_ok-fed.ensures.same.0 in
    taken_behind t c.args.self.now _ bytes c.args.piece.now taken c.are_bytes.ensures (cc)
    (λ more. needs_behind t c.args.self.now.session _ bytes c.args.piece.now _ _ needs c.in_ok-fed.ensures.ready terms_are c.in_ok-fed.ensures.same.1
    (c.in_ok-fed.ensures.more (c.is_more-self.ensures.more more) bytes 0 needs.spent needs.allowed needs.stands))
    (λ over.
    let done = c.is_more-self.ensures.done over in
    over_behind t c.args.self.now.session _ bytes c.args.piece.now done.0 _ _ needs terms_are
    (c.in_ok-fed.ensures.done done.0 done.1 bytes 0 needs.spent needs.allowed needs.stands))
