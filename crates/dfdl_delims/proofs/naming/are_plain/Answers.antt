use Rattle.std.proofs.Common.{◌∙◌, sym}
use Rattle.dfdl_delims.proofs.Kept.{kept_of, plain_by}
use Rattle.dfdl_delims.proofs.naming.are_plain.Goals as goal

pub returns : goal.returns
returns c = λ is opened opens.
    plain_by opened c.firsts-firsts.result.now c.args.lists.numbers.now
    (kept_of c.args.lists.markup.now c.args.lists.numbers.now c.firsts-firsts.result.now opened opens c.firsts-firsts.ensures)
    (sym c.some_empty.ensures ∙ c.if-some_empty.false) (sym c.some_longer.ensures ∙ is)
