use Rattle.std.proofs.Common.{sym, ◌∙◌}
use Rattle.dfdl_number_text.proofs.BodyParts.{fraction_digits, shown, not_shown}
use Rattle.dfdl_number_text.proofs.body.body_number.Goals as goal

pub number_of-requires-clause-fraction : goal.number_of-requires-clause-fraction
number_of-requires-clause-fraction c =
    let found = c.split_body-parts.result in
    fraction_digits c.separator_of.result (record { whole = found.whole.now; fraction = found.fraction.now; scale = found.scale })
    (sym (c.are_digits.ensures found.scale) ∙ c.if-are_digits.true)

pub returns-then-are_digits : goal.returns-then-are_digits
returns-then-are_digits c =
    let found = c.split_body-parts.result in
    shown c.number_of.result c.args.negative c.separator_of.result _ (record { whole = found.whole.now; fraction = found.fraction.now; scale = found.scale }) _
    c.separator_of.ensures c.split_body-parts.ensures (sym (c.are_digits.ensures found.scale) ∙ c.if-are_digits.true) c.number_of.ensures

pub returns-else-are_digits : goal.returns-else-are_digits
returns-else-are_digits c =
    let found = c.split_body-parts.result in
    not_shown c.args.negative c.separator_of.result _ (record { whole = found.whole.now; fraction = found.fraction.now; scale = found.scale }) _
    c.separator_of.ensures c.split_body-parts.ensures (sym (c.are_digits.ensures found.scale) ∙ c.if-are_digits.false)
