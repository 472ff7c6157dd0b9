use Rattle.std.proofs.Common.{◌≡◌, ◌^◌, ◌<◌, refl, ap, ◌∙◌, rules}
use Rattle.dfdl_decimal.specs.Decimal.{shortest_from, with_sign}
use Rattle.dfdl_forms.specs.Types.{form_of}
use Rattle.dfdl_value.proofs.NumberLemmas.{number_reading-same}
use Rattle.dfdl_value.proofs.number.value_of_number.Goals as goal

pub returns-in-Some-clause-held : goal.returns-in-Some-clause-held
returns-in-Some-clause-held c = λ n is.
    let digits = c.without_zeros-digits in
    let same : c.in-Some.magnitude ≡ n = cc in
    let fits : digits.result.magnitude < 2 ^ 128 = search rules in
    c.value_of_short.ensures digits.result.magnitude (fits, refl) digits.ensures.last
    ∙ number_reading-same (form_of c.args.kind) (record { mantissa = with_sign c.args.negative digits.result.magnitude; scale = digits.result.scale })
    (record { mantissa = with_sign c.args.negative n; scale = c.args.scale })
    (digits.ensures.same c.args.negative ∙ ap (λ k. shortest_from c.args.scale (with_sign c.args.negative k)) same)
