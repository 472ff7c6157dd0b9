use Rattle.std.proofs.Common.{ℕ, List, map, length-append, arith}
use Rattle.dfdl_number_text.specs.Digits.{digits_at, digit_character}
use Rattle.dfdl_number_text.specs.Writing.{behind_integer, grouped, integer_digits}
use Rattle.dfdl_number_text.proofs.WriteLists.{put_joined}
use Rattle.dfdl_number_text.proofs.WriteLemmas.{body_is}
use Rattle.dfdl_number_text.proofs.write_value.put_body.Goals as goal

pub returns-clause-place : goal.returns-clause-place
returns-clause-place c =
    let pattern = c.args.pattern.now in
    let d = c.fraction_of-fraction.result in
    let least = c.least_digits-least.result in
    let whole : List ℕ = grouped c.args.form.now.grouping pattern.group_size (integer_digits least c.args.size.whole) in
    let rest : List ℕ = behind_integer c.args.form.now pattern pattern.point (map digit_character (digits_at 10 d.count d.number)) in
    rw (body_is c.args.form.now pattern c.args.size.whole c.args.size.fraction least d.count d.number c.requires.fraction (c.fraction_of-fraction.ensures.digits c.args.size.whole) c.least_digits-least.ensures.value)
    (omega (arith, length-append whole rest, c.put_whole-behind.ensures.place, c.put_behind.ensures.place))

pub returns-clause-put : goal.returns-clause-put
returns-clause-put c =
    let pattern = c.args.pattern.now in
    let d = c.fraction_of-fraction.result in
    let least = c.least_digits-least.result in
    let whole : List ℕ = grouped c.args.form.now.grouping pattern.group_size (integer_digits least c.args.size.whole) in
    let rest : List ℕ = behind_integer c.args.form.now pattern pattern.point (map digit_character (digits_at 10 d.count d.number)) in
    rw (body_is c.args.form.now pattern c.args.size.whole c.args.size.fraction least d.count d.number c.requires.fraction (c.fraction_of-fraction.ensures.digits c.args.size.whole) c.least_digits-least.ensures.value)
    (put_joined c.args.into.now c.put_whole-behind.new.into c.put_behind.new.into c.args.at c.put_whole-behind.result whole rest
    (omega (arith, c.requires.room)) c.put_whole-behind.ensures.place c.put_whole-behind.ensures.put c.put_behind.ensures.put)
