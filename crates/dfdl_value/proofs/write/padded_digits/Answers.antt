use Rattle.std.proofs.Common.{List, ℕ, ◌∙◌, ◌≤◌, sym, ap, subst, length, arith}
use Rattle.std.proofs.lemmas.Result.{IfOk-weaker}
use Rattle.std.specs.Fmt.{styled_decimal}
use Rattle.std.specs.Str.{IsAscii}
use Rattle.dfdl_value.proofs.PaddingLemmas.{styled_decimal-zeros, IsAscii-padded_decimal, length-padded_decimal}
use Rattle.dfdl_value.proofs.write.padded_digits.Goals as goal

pub returns-clause-digits : goal.returns-clause-digits
returns-clause-digits c = IfOk-weaker c.format.result _ _ (λ t e. e ∙ ap (λ s. styled_decimal s c.args.number) c.laid_out.ensures ∙ styled_decimal-zeros c.args.least c.args.number) c.format.ensures.ok

pub returns-clause-ascii : goal.returns-clause-ascii
returns-clause-ascii c =
    let ascii = IsAscii-padded_decimal c.args.least c.args.number (omega arith) in
    IfOk-weaker c.format.result _ _ (λ t e. subst IsAscii (sym e) ascii) (returns-clause-digits c)

pub returns-clause-some : goal.returns-clause-some
returns-clause-some c =
    let some = length-padded_decimal c.args.least c.args.number in
    let P : List ℕ → Type 0 = λ bs. c.args.least ≤ length bs in
    IfOk-weaker c.format.result _ _ (λ t e. subst P (sym e) some) (returns-clause-digits c)
