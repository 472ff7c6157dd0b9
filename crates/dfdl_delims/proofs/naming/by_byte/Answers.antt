use Rattle.std.proofs.Common.{sym, subst}
use Rattle.dfdl_delims.specs.Verdicts.{Told}
use Rattle.dfdl_delims.proofs.Kept.{kept_of, told_by}
use Rattle.dfdl_delims.proofs.naming.by_byte.Goals as goal

pub returns : goal.returns
returns c = λ opened opens.
    subst (Told opened c.args.byte) (sym c.verdict.ensures)
    (told_by c.args.byte c.ranges.byte.fits opened c.firsts.result.now c.args.lists.numbers.now
    (kept_of c.args.lists.markup.now c.args.lists.numbers.now c.firsts.result.now opened opens c.firsts.ensures))
