use Rattle.std.proofs.Common.{◌≡◌, ◌+◌, ◌*◌, arith}
use Rattle.dfdl_packed.proofs.SizeLemmas.{digit_more, digit_over}
use Rattle.dfdl_packed.proofs.size.Size.then.Goals as goal

pub returns-then-digit-eq0-clause-shows : goal.returns-then-digit-eq0-clause-shows
returns-then-digit-eq0-clause-shows c = λ n shows.
    let none : n * 10 + c.args.digit ≡ n * 10 = omega arith in
    rw none (c.with_zero.ensures.shows n shows)

pub returns-in-Some-clause-shows : goal.returns-in-Some-clause-shows
returns-in-Some-clause-shows c = λ n shows.
    digit_more c.args.self c.joined-mantissa.result c.in-Some.mantissa n c.args.digit shows c.in-Some.is c.requires.digit c.if-digit-eq0.false c.joined-mantissa.ensures

pub returns-in-None-clause-shows : goal.returns-in-None-clause-shows
returns-in-None-clause-shows c = λ n shows.
    digit_over c.args.self n c.args.digit shows c.in-None.is c.requires.digit c.if-digit-eq0.false
