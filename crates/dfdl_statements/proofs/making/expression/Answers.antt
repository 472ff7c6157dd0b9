use Rattle.dfdl_statements.proofs.Compiled.{inside_gives, outside_gives}
use Rattle.dfdl_statements.proofs.making.expression.Goals as goal

pub returns-in-Some : goal.returns-in-Some
returns-in-Some c = λ read reads.
    inside_gives read c.args.statics.now c.args.wanted _ c.in-Some.inner.now _ c.in-Some.ensures (c.compiled.ensures (read c.in-Some.inner.now) (reads c.in-Some.inner.now))

pub returns-in-None : goal.returns-in-None
returns-in-None c = λ read reads. outside_gives read c.args.statics.now c.args.wanted _ c.in-None.ensures
