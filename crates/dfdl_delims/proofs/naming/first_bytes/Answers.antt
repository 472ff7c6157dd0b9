use Rattle.std.proofs.Common.{sym, ◌∙◌}
use Rattle.dfdl_delims.proofs.Kept.{kept_of, looks_by, none_begins}
use Rattle.dfdl_delims.proofs.naming.first_bytes.Goals as goal

pub returns-clause-none : goal.returns-clause-none
returns-clause-none c = λ opened opens byte less none.
    none_begins opened c.firsts-firsts.result.now c.args.lists.numbers.now
    (kept_of c.args.lists.markup.now c.args.lists.numbers.now c.firsts-firsts.result.now opened opens c.firsts-firsts.ensures) byte less
    (sym (c.begins_in.ensures byte less) ∙ none)

pub returns-clause-looks : goal.returns-clause-looks
returns-clause-looks c = λ opened test opens decides.
    looks_by opened c.firsts-firsts.result.now c.args.lists.numbers.now
    (kept_of c.args.lists.markup.now c.args.lists.numbers.now c.firsts-firsts.result.now opened opens c.firsts-firsts.ensures) c.some_longer.result c.some_longer.ensures
    test decides
