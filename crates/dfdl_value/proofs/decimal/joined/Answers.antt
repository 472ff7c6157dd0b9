use Rattle.std.proofs.Common.{ℕ, ◌^◌, ◌<◌, ◌∙◌, sym, ap, subst, arith}
use Rattle.std.specs.Option.{SomeIff}
use Rattle.dfdl_value.specs.Texts.{number_after}
use Rattle.dfdl_value.proofs.DecimalLemmas.{number_after-append}
use Rattle.dfdl_value.proofs.TextLemmas.{number_after-ge}
use Rattle.dfdl_value.proofs.decimal.joined.Goals as goal

pub returns-in_err-number : goal.returns-in_err-number
returns-in_err-number c =
    let both = number_after-append 0 c.args.whole.now c.args.fraction.now in
    let more = number_after-ge (number_after 0 c.args.whole.now) c.args.fraction.now in
    rw c.from_residual.ensures (λ fits. c.in_err-number.ensures (omega (arith, both, more, fits)))

pub returns : goal.returns
returns c =
    let is = ap (λ n. number_after n c.args.fraction.now) c.in_ok-number.ensures.1 ∙ sym (number_after-append 0 c.args.whole.now c.args.fraction.now) in
    let P : ℕ → Type 0 = λ n. SomeIff c.appended-2.result (n < 2 ^ 128) n in
    subst P is c.appended-2.ensures
