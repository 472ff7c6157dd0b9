use Rattle.std.proofs.Common.{refl, ◌∙◌, arith}
use Rattle.dfdl_number_text.proofs.DigitLemmas.{digits_behind, digits_none}
use Rattle.dfdl_number_text.proofs.WriteLemmas.{fraction_of_size}
use Rattle.dfdl_number_text.proofs.write_value.fraction_of.Goals as goal

pub returns-in-Written-clause-digits : goal.returns-in-Written-clause-digits
returns-in-Written-clause-digits c = λ whole.
    let pattern = c.args.pattern.now in
    rw c.in-Written.is (fraction_of_size pattern.least_fraction pattern.greatest_fraction whole c.args.fraction ∙ c.without_zeros.ensures.digits)

pub returns-in-Implied-clause-digits : goal.returns-in-Implied-clause-digits
returns-in-Implied-clause-digits c = λ whole.
    let pattern = c.args.pattern.now in
    rw (c.in-Implied.is, digits_behind 10 pattern.implied pattern.implied whole c.args.fraction (omega arith) (omega arith)) refl

pub returns-in-Absent-clause-digits : goal.returns-in-Absent-clause-digits
returns-in-Absent-clause-digits c = λ whole. rw (c.in-Absent.is, digits_none 10 0) refl
