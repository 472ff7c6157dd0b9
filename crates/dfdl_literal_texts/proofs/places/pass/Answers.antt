use Rattle.std.proofs.Common.{sym}
use Rattle.dfdl_literal_texts.specs.Places.{rest_at, taken_at}
use Rattle.dfdl_literal_texts.proofs.Marks.{split_unmarked}
use Rattle.dfdl_literal_texts.proofs.Passes.{pass_marked}
use Rattle.dfdl_literal_texts.proofs.places.pass.Goals as goal

pub returns-then-places-at-clause-passed : goal.returns-then-places-at-clause-passed
returns-then-places-at-clause-passed c = λ is_rest.
    pass_marked c.args.encoding c.args.fold c.args.piece is_rest c.args.bytes.now c.args.places.now c.mark_behind.new.places c.args.at
    c.requires.within c.if-places-at.true c.mark_behind.ensures.marks

pub returns-else-places-at-clause-passed : goal.returns-else-places-at-clause-passed
returns-else-places-at-clause-passed c = λ is_rest.
    sym (split_unmarked c.args.places.now c.args.at (taken_at c.args.encoding c.args.fold c.args.piece is_rest c.args.bytes.now)
    (rest_at is_rest c.args.bytes.now) c.if-places-at.false)
