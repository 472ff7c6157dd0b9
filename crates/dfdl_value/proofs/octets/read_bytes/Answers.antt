use Rattle.std.proofs.Common.{sym, ◌∙◌, refl, arith}
use Rattle.dfdl_value.proofs.HexLemmas.{bytes_reading-odd, bytes_reading-other, bytes_reading-digits}
use Rattle.dfdl_value.proofs.octets.read_bytes.Goals as goal

pub returns-then-text-ne0-clause-not_a_value : goal.returns-then-text-ne0-clause-not_a_value
returns-then-text-ne0-clause-not_a_value c = (λ _. bytes_reading-odd c.args.text.now c.if-text-ne0.true, λ _. refl)

pub returns-then-not-are_hex_digits-clause-not_a_value : goal.returns-then-not-are_hex_digits-clause-not_a_value
returns-then-not-are_hex_digits-clause-not_a_value c =
    (λ _. bytes_reading-other c.args.text.now (sym c.are_hex_digits.ensures ∙ c.if-not-are_hex_digits.true), λ _. refl)

pub returns-in-Err-clause-not_a_value : goal.returns-in-Err-clause-not_a_value
returns-in-Err-clause-not_a_value c = (
  λ e. absurd (cc),
  λ bad. absurd (bytes_reading-digits c.args.text.now (omega arith) (sym c.are_hex_digits.ensures ∙ c.if-not-are_hex_digits.false) bad),
)
