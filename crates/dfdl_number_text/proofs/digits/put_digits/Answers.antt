use Rattle.std.proofs.Common.{◌≡◌, ℕ, ◌+◌, ◌-◌, length, subst, arith}
use Rattle.dfdl_number_text.specs.Written.{IsPut, digit_text}
use Rattle.dfdl_number_text.proofs.WriteLists.{text_size}
use Rattle.dfdl_number_text.proofs.digits.put_digits.Goals as goal

pub put_in_front-requires-clause-room : goal.put_in_front-requires-clause-room
put_in_front-requires-clause-room c =
    let d = c.args.digits in
    omega (arith, text_size c.args.groups d.base d.count d.number, c.from.ensures, c.separator_count.ensures)

pub put_in_front-requires-clause-inside : goal.put_in_front-requires-clause-inside
put_in_front-requires-clause-inside c =
    let d = c.args.digits in
    omega (arith, text_size c.args.groups d.base d.count d.number, c.from.ensures, c.separator_count.ensures, c.requires.room)

pub returns-clause-place : goal.returns-clause-place
returns-clause-place c =
    let d = c.args.digits in
    omega (arith, text_size c.args.groups d.base d.count d.number, c.from.ensures, c.separator_count.ensures)

pub returns-clause-put : goal.returns-clause-put
returns-clause-put c =
    let d = c.args.digits in
    let here : c.args.at + c.from.result + c.separator_count.result - length (digit_text c.args.groups d.base d.count d.number) ≡ c.args.at =
    omega (arith, text_size c.args.groups d.base d.count d.number, c.from.ensures, c.separator_count.ensures) in
    subst (λ (k : ℕ). IsPut c.args.into.now k (digit_text c.args.groups d.base d.count d.number) c.put_in_front.new.into) here c.put_in_front.ensures
