use Rattle.std.proofs.Common.{ℕ, ◌^◌, ◌<◌, filter, ◌∙◌, sym, ap, subst, arith}
use Rattle.std.specs.Char.{is_ascii_digit}
use Rattle.std.specs.Option.{SomeIff}
use Rattle.dfdl_value.specs.Texts.{number_after}
use Rattle.dfdl_value.proofs.DecimalLemmas.{number_after-append}
use Rattle.dfdl_value.proofs.TextLemmas.{number_after-ge}
use Rattle.dfdl_number_text.proofs.body_digits.held.Goals as goal

pub returns-in_err-number : goal.returns-in_err-number
returns-in_err-number c =
    let whole = filter is_ascii_digit c.args.whole.now in
    let fraction = filter is_ascii_digit c.args.fraction.now in
    let both = number_after-append 0 whole fraction in
    let more = number_after-ge (number_after 0 whole) fraction in
    rw c.from_residual.ensures (λ fits. c.in_err-number.ensures (omega (arith, both, more, fits)))

pub returns : goal.returns
returns c =
    let whole = filter is_ascii_digit c.args.whole.now in
    let fraction = filter is_ascii_digit c.args.fraction.now in
    let is = ap (λ n. number_after n fraction) c.in_ok-number.ensures.1 ∙ sym (number_after-append 0 whole fraction) in
    let P : ℕ → Type 0 = λ n. SomeIff c.appended-2.result (n < 2 ^ 128) n in
    subst P is c.appended-2.ensures
