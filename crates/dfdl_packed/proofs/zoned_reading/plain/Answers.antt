use Rattle.std.proofs.Common.{◌≡◌, ℕ, ◌+◌, ◌-◌, ◌*◌, true, take, refl, ap, sym, ◌∙◌, arith}
use Rattle.std.specs.Char.{is_ascii_digit}
use Rattle.std.proofs.lemmas.List.{take_all}
use Rattle.std.proofs.lemmas.List.Folds.{list_all_more}
use Rattle.std.proofs.lemmas.List.Sums.{fold_more}
use Rattle.dfdl_packed.specs.Zoned.{number_behind}
use Rattle.dfdl_packed.proofs.zoned_reading.plain.Goals as goal

pub loop-char-preserved : goal.loop-char-preserved
loop-char-preserved c =
    let chars = c.args.chars.now in
    let i : ℕ = c.loop-char.char-index in
    let char : ℕ = c.char-item.result in
    let plain : is_ascii_digit char ≡ true = sym c.is_ascii_digit.ensures.value ∙ c.if-not-is_ascii_digit.false in
    record {
      plain = list_all_more is_ascii_digit chars i char (omega arith) ∙ rw (c.loop-char.invariant.plain, ← c.char-item.is, plain) refl;
      shows = λ n front.
          let more : number_behind n (take (i + 1) chars) ≡ number_behind n (take i chars) * 10 + (char - 48) =
          fold_more (λ n digit. n * 10 + (digit - 48)) n chars i char (omega arith)
          ∙ ap (λ (digit : ℕ). number_behind n (take i chars) * 10 + (digit - 48)) (sym c.char-item.is) in
          rw more (c.then-size.ensures.shows (number_behind n (take i chars)) (c.loop-char.invariant.shows n front));
      zeros = omega (arith, c.then-size.ensures.zeros);
    }

pub returns-clause-shows : goal.returns-clause-shows
returns-clause-shows c =
    let whole : take c.loop-char.char-index c.args.chars.now ≡ c.args.chars.now = take_all c.loop-char.char-index c.args.chars.now (omega arith) in
    (rw whole at c.loop-char.invariant.plain, λ n front. rw whole at (c.loop-char.invariant.shows n front))
