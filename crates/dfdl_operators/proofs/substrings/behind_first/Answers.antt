use Rattle.std.proofs.lemmas.Str.{chars_past_char}
use Rattle.dfdl_operators.proofs.PlaceLemmas.{no_chars}
use Rattle.dfdl_operators.proofs.substrings.behind_first.Goals as goal

pub returns-in-Some-clause-first : goal.returns-in-Some-clause-first
returns-in-Some-clause-first c =
    let step = c.in-Some.ensures.steps.0 in
    let all = c.chars-rest.ensures.rest in
    let rest = c.as_str.ensures in
    (c.in-Some.field-0, chars_past_char c.args.text.now c.as_str.result.now c.in-Some.field-0 c.utf8.text (cc))

pub returns-in-Some-clause-utf8 : goal.returns-in-Some-clause-utf8
returns-in-Some-clause-utf8 c = c.as_str.utf8

pub returns-in-None-clause-none : goal.returns-in-None-clause-none
returns-in-None-clause-none c = no_chars c.args.text.now c.chars-rest.result.rest.now c.chars-rest.ensures.rest c.in-None.ensures.steps.0.0
