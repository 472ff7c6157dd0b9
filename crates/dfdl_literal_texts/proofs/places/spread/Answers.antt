use Rattle.dfdl_literal_texts.specs.Texts.{after_any, spaces}
use Rattle.dfdl_literal_texts.specs.Places.{rest_at}
use Rattle.dfdl_literal_texts.proofs.Marks.{split_unmarked}
use Rattle.dfdl_literal_texts.proofs.Spaces.{spread_marked}
use Rattle.dfdl_literal_texts.proofs.places.spread.Goals as goal

pub returns-then-places-at-clause-spread : goal.returns-then-places-at-clause-spread
returns-then-places-at-clause-spread c = λ is_rest.
    spread_marked c.args.encoding is_rest c.args.bytes.now c.args.places.now c.mark_behind.new.places c.args.at
    c.requires.within c.if-places-at.true c.mark_behind.ensures.marks

pub returns-else-places-at-clause-spread : goal.returns-else-places-at-clause-spread
returns-else-places-at-clause-spread c = λ is_rest.
    split_unmarked c.args.places.now c.args.at (rest_at is_rest c.args.bytes.now)
    (rest_at (after_any c.args.encoding spaces is_rest) c.args.bytes.now) c.if-places-at.false
