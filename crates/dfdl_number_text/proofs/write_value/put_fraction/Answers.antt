use Rattle.std.proofs.Common.{◌≡◌, ℕ, ◌&&◌, not, nat_eq, Bool, true, false, List, [], ◌∷◌, ◌++◌, map, length, ap, ◌∙◌, if◌then◌else◌, arith}
use Rattle.dfdl_number_text.specs.Digits.{digits_at, digit_character}
use Rattle.dfdl_number_text.specs.Writing.{with_separator}
use Rattle.dfdl_number_text.proofs.DigitLemmas.{length-characters}
use Rattle.dfdl_number_text.proofs.WriteLists.{put_none, put_joined}
use Rattle.dfdl_number_text.proofs.WriteLemmas.{fraction_is}
use Rattle.dfdl_number_text.proofs.write_value.put_fraction.Goals as goal

nothing : (places decimal count n : ℕ) (left : Bool) → left ≡ (nat_eq count 0 && not (nat_eq places 0)) → left ≡ true
    → with_separator places decimal (map digit_character (digits_at 10 count n)) ≡ []
nothing places decimal count n left told is =
    fraction_is places decimal count n left told ∙ ap (λ (b : Bool). if b then [] else decimal ∷ map digit_character (digits_at 10 count n)) is

something : (places decimal count n : ℕ) (left : Bool) → left ≡ (nat_eq count 0 && not (nat_eq places 0)) → left ≡ false
    → with_separator places decimal (map digit_character (digits_at 10 count n)) ≡ (decimal ∷ []) ++ map digit_character (digits_at 10 count n)
something places decimal count n left told is =
    fraction_is places decimal count n left told ∙ ap (λ (b : Bool). if b then [] else decimal ∷ map digit_character (digits_at 10 count n)) is

pub returns-then-is_left_away-clause-place : goal.returns-then-is_left_away-clause-place
returns-then-is_left_away-clause-place c =
    let d = c.args.digits in
    omega (arith, ap length (nothing c.args.places c.args.decimal d.count d.number _ c.is_left_away.ensures c.if-is_left_away.true))

pub returns-then-is_left_away-clause-put : goal.returns-then-is_left_away-clause-put
returns-then-is_left_away-clause-put c =
    let d = c.args.digits in
    rw (nothing c.args.places c.args.decimal d.count d.number _ c.is_left_away.ensures c.if-is_left_away.true) (put_none c.args.into.now c.args.at)

pub returns-clause-place : goal.returns-clause-place
returns-clause-place c =
    let d = c.args.digits in
    let all = ap length (something c.args.places c.args.decimal d.count d.number _ c.is_left_away.ensures c.if-is_left_away.false) in
    omega (arith, all, length-characters 10 d.count d.number, c.put_plain.ensures.place, c.put_char-behind.ensures.place)

pub returns-clause-put : goal.returns-clause-put
returns-clause-put c =
    let d = c.args.digits in
    let digits : List ℕ = map digit_character (digits_at 10 d.count d.number) in
    rw (something c.args.places c.args.decimal d.count d.number _ c.is_left_away.ensures c.if-is_left_away.false)
    (put_joined c.args.into.now c.put_char-behind.new.into c.put_plain.new.into c.args.at c.put_char-behind.result (c.args.decimal ∷ []) digits
    (omega (arith, c.requires.room)) (omega (arith, c.put_char-behind.ensures.place)) c.put_char-behind.ensures.put (rw c.requires.base at c.put_plain.ensures.put))
