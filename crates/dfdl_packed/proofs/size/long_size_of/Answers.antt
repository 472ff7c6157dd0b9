use Rattle.std.proofs.Common.{◌≡◌, ℕ, ◌+◌, ◌*◌, nat_lt, true, take, get_or, refl, ◌∙◌, arith}
use Rattle.std.proofs.lemmas.Bool.{lt-ltb}
use Rattle.std.proofs.lemmas.List.Folds.{list_all_more}
use Rattle.std.proofs.lemmas.List.Sums.{fold_more}
use Rattle.dfdl_packed.specs.Digits.{are_digits, digits_number}
use Rattle.dfdl_packed.proofs.size.long_size_of.Goals as goal

pub loop-digit-preserved : goal.loop-digit-preserved
loop-digit-preserved c =
    let digits = c.args.digits.now in
    let i : ℕ = c.loop-digit.digit-index in
    let low : nat_lt (get_or digits i 0) 10 ≡ true = lt-ltb _ _ (omega arith) in
    let all : are_digits (take (i + 1) digits) ≡ true =
    list_all_more (λ digit. nat_lt digit 10) digits i 0 (omega arith) ∙ rw (c.loop-digit.invariant.digits, low) refl in
    let more : digits_number (take (i + 1) digits) ≡ digits_number (take i digits) * 10 + get_or digits i 0 =
    fold_more (λ n digit. n * 10 + digit) 0 digits i 0 (omega arith) in
    record {
      digits = all;
      shows = rw more (c.then-size.ensures.shows (digits_number (take i digits)) c.loop-digit.invariant.shows);
      zeros = omega (arith, c.then-size.ensures.zeros);
    }
