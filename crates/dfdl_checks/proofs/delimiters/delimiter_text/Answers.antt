use Rattle.std.proofs.Common.{false, sym}
use Rattle.std.specs.Str.{chars}
use Rattle.dfdl_checks.proofs.DelimiterTexts.{nothing-read}
use Rattle.dfdl_checks.proofs.delimiters.delimiter_text.Goals as goal

pub returns-in-Err-MatchesNothing : goal.returns-in-Err-MatchesNothing
returns-in-Err-MatchesNothing c =
    let text = chars c.args.text.now in
    let none = c.in-Err-MatchesNothing in
    sym (nothing-read text none.field-0 (λ list. (c.literals_read_as_one.ensures.reads false text list).1) none.field-0-is none.ensures.refused)
