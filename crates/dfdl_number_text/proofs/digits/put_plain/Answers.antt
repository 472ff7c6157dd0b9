use Rattle.std.proofs.Common.{ℕ, ◌+◌, length, ap, ◌∙◌, refl, arith}
use Rattle.dfdl_number_text.proofs.DigitLemmas.{length-characters}
use Rattle.dfdl_number_text.proofs.WriteLemmas.{plain_text}
use Rattle.dfdl_number_text.proofs.digits.put_plain.Goals as goal

pub put_digits-requires-clause-room : goal.put_digits-requires-clause-room
put_digits-requires-clause-room c =
    rw (plain_text c.args.digits.base c.args.digits.count c.args.digits.number (record { separator = 44; size = 0 }) refl)
    (omega (arith, length-characters c.args.digits.base c.args.digits.count c.args.digits.number, c.requires.room))

pub returns-clause-place : goal.returns-clause-place
returns-clause-place c =
    let text = plain_text c.args.digits.base c.args.digits.count c.args.digits.number (record { separator = 44; size = 0 }) refl in
    c.put_digits.ensures.place ∙ ap (λ (n : ℕ). c.args.at + n) (ap length text ∙ length-characters c.args.digits.base c.args.digits.count c.args.digits.number)

pub returns-clause-put : goal.returns-clause-put
returns-clause-put c =
    rw (plain_text c.args.digits.base c.args.digits.count c.args.digits.number (record { separator = 44; size = 0 }) refl) at c.put_digits.ensures.put
