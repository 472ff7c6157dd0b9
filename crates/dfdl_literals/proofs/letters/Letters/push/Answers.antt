use Rattle.std.proofs.Common.{arith}
use Rattle.std.proofs.lemmas.Bool.{cond-false}
use Rattle.dfdl_literals.proofs.Table.{too_long}
use Rattle.dfdl_literals.proofs.letters.Letters.push.Goals as goal

pub returns-then-len-ge-MOST : goal.returns-then-len-ge-MOST
returns-then-len-ge-MOST c = cond-false _ _ _ (too_long c.args.self.now c.args.c (omega (arith, c.len.ensures, c.if-len-ge-MOST.true)))
