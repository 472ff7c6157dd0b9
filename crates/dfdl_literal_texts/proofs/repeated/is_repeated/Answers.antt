use Rattle.std.proofs.Common.{◌∙◌, None, Some}
use Rattle.dfdl_literal_texts.proofs.Repeats.{repeat_first}
use Rattle.dfdl_literal_texts.proofs.repeated.is_repeated.Goals as goal

pub returns-in-Some : goal.returns-in-Some
returns-in-Some c =
    c.goes_on.ensures ∙ repeat_first c.args.encoding c.args.fold c.args.c c.args.bytes.now (Some c.in-Some.count) c.in-Some.ensures.front

pub returns-in-None : goal.returns-in-None
returns-in-None c = repeat_first c.args.encoding c.args.fold c.args.c c.args.bytes.now None c.in-None.ensures.front
