use Rattle.std.proofs.Common.{◌≡◌, ℕ, ◌+◌, ◌-◌, ◌*◌, ◌<◌, true, length, take, refl, ap, sym, ◌∙◌, arith}
use Rattle.std.specs.Char.{is_ascii_digit}
use Rattle.std.proofs.lemmas.List.Folds.{list_all_more}
use Rattle.std.proofs.lemmas.List.Sums.{fold_more}
use Rattle.dfdl_packed.specs.Zoned.{number_behind}
use Rattle.dfdl_packed.proofs.SizeLemmas.{digit_fits, digit_low, digit_small}
use Rattle.dfdl_packed.proofs.zoned_reading.short_plain.Goals as goal

pub overflow_mul-number : goal.overflow_mul-number
overflow_mul-number c =
    omega (arith, digit_fits c.args.front c.loop-char.number c.loop-char.char-index (length c.args.chars.now) c.loop-char.invariant.small c.loop-char-test.true c.requires)

pub overflow_add-number : goal.overflow_add-number
overflow_add-number c =
    let plain : is_ascii_digit c.char-item.result ≡ true = sym c.is_ascii_digit.ensures.value ∙ c.if-not-is_ascii_digit.false in
    omega (
      arith,
      digit_fits c.args.front c.loop-char.number c.loop-char.char-index (length c.args.chars.now) c.loop-char.invariant.small c.loop-char-test.true c.requires,
      digit_low c.char-item.result plain,
    )

pub loop-char-preserved : goal.loop-char-preserved
loop-char-preserved c =
    let chars = c.args.chars.now in
    let i : ℕ = c.loop-char.char-index in
    let char : ℕ = c.char-item.result in
    let plain : is_ascii_digit char ≡ true = sym c.is_ascii_digit.ensures.value ∙ c.if-not-is_ascii_digit.false in
    let low : char - 48 < 10 = digit_low char plain in
    let more : number_behind c.args.front (take (i + 1) chars) ≡ number_behind c.args.front (take i chars) * 10 + (char - 48) =
    fold_more (λ n digit. n * 10 + (digit - 48)) c.args.front chars i char (omega arith)
    ∙ ap (λ (digit : ℕ). number_behind c.args.front (take i chars) * 10 + (digit - 48)) (sym c.char-item.is) in
    record {
      plain = list_all_more is_ascii_digit chars i char (omega arith) ∙ rw (c.loop-char.invariant.plain, ← c.char-item.is, plain) refl;
      number = omega (arith, more, c.loop-char.invariant.number);
      small = omega (arith, digit_small c.args.front c.loop-char.number i (char - 48) c.loop-char.invariant.small low);
    }
