-- The text of a decimal number is read as that number.
use Rattle.std.proofs.Common.{◌≡◌, ℕ, zero, suc, ◌+◌, ◌-◌, ◌^◌, ◌<◌, Bool, true, false, not, cond, ◌&&◌, ◌==◌, if◌then◌else◌, List, [], ◌∷◌, ◌++◌, length, take, drop, replicate, refl, sym, ap, subst, ◌∙◌, arith, ℤ, pos, negsuc, unsigned_abs, Option, Some, None, Ok}
use Rattle.std.specs.Char.{is_ascii_digit}
use Rattle.std.specs.Fmt.{decimal}
use Rattle.std.specs.List.{list_all, position_or_len, before_first, after_first}
use Rattle.std.proofs.lemmas.Fmt.{decimal_is_IsNumeral_wide}
use Rattle.std.proofs.lemmas.List.Folds.{list_all-append}
use Rattle.std.proofs.lemmas.List.{append-nil, take-append-drop, length-drop, length-take, nil_from_length}
use Rattle.std.proofs.Math.Seq.{take-append_seam, take-length}
use Rattle.std.proofs.Math.Dec.{eqb-suc-zero}
use Rattle.std.proofs.lemmas.Bool.{lt-ltb, le-ltb}
use Rattle.dfdl_value.proofs.PaddingLemmas.{length-padded_decimal}
use Rattle.std.proofs.lemmas.Bool.Decides.{nat_tests}
use Rattle.dfdl_decimal.specs.Decimal.{DecimalNumber, IsFixed, with_sign}
use Rattle.dfdl_value.specs.declared.value.Value.TheVariants.{Dec}
use Rattle.dfdl_value.specs.ReadValues.{decimal_reading, fixed_reading}
use Rattle.dfdl_value.specs.Writing.{decimal_text, pointed, padded_decimal, minus_of}
use Rattle.dfdl_value.specs.Texts.{is_xml_space, trimmed, is_negative, unsigned_part, is_numeral, is_point, number_after, number_of, fraction_part, decimal_of}
use Rattle.dfdl_value.proofs.DecimalLemmas.{number_after-append}
use Rattle.dfdl_decimal.proofs.FixedLemmas.{fixed_of-fixed}
use Rattle.dfdl_value.proofs.BackLemmas.{no_space, no_space-digits, trimmed-no_space, is_sign-digit, is_minus-digit, own, number_of-decimal}
use Rattle.dfdl_lemmas.proofs.Bools.{both}

-- ---- the digits of the mantissa, with zeros before them

zeros_digits : (k : ℕ) → list_all is_ascii_digit (replicate k 48) ≡ true
zeros_digits zero = refl
zeros_digits (suc k) = zeros_digits k

zeros_nothing : (k : ℕ) → number_of (replicate k 48) ≡ 0
zeros_nothing zero = refl
zeros_nothing (suc k) = zeros_nothing k

padded_digits : (least n : ℕ) → n < 10 ^ 64 → list_all is_ascii_digit (padded_decimal least n) ≡ true
padded_digits least n small =
    list_all-append is_ascii_digit (replicate (least - length (decimal n)) 48) (decimal n)
    ∙ ap (λ b. b && list_all is_ascii_digit (decimal n)) (zeros_digits (least - length (decimal n)))
    ∙ own.from (decimal n) (decimal_is_IsNumeral_wide n small).0.1

number_of-padded : (least n : ℕ) → n < 10 ^ 64 → number_of (padded_decimal least n) ≡ n
number_of-padded least n small =
    number_after-append 0 (replicate (least - length (decimal n)) 48) (decimal n)
    ∙ ap (λ m. number_after m (decimal n)) (zeros_nothing (least - length (decimal n)))
    ∙ number_of-decimal n small

-- ---- the place of the point

is_point-digit : (c : ℕ) → is_ascii_digit c ≡ true → not (is_point c) ≡ true
is_point-digit c h = grind (arith, nat_tests)

position-point : (w f : List ℕ) → list_all is_ascii_digit w ≡ true → position_or_len is_point (w ++ 46 ∷ f) ≡ length w
position-point [] f h = refl
position-point (c ∷ w) f h =
    let parts : (is_ascii_digit c ≡ true) × (list_all is_ascii_digit w ≡ true) = both _ _ h in
    let rest : 1 + position_or_len is_point (w ++ 46 ∷ f) ≡ suc (length w) = omega (arith, position-point w f parts.1) in
    ap (λ b. cond b (1 + position_or_len is_point (w ++ 46 ∷ f)) 0) (is_point-digit c parts.0) ∙ rest

position-no_point : (w : List ℕ) → list_all is_ascii_digit w ≡ true → position_or_len is_point w ≡ length w
position-no_point [] h = refl
position-no_point (c ∷ w) h =
    let parts : (is_ascii_digit c ≡ true) × (list_all is_ascii_digit w ≡ true) = both _ _ h in
    let rest : 1 + position_or_len is_point w ≡ suc (length w) = omega (arith, position-no_point w parts.1) in
    ap (λ b. cond b (1 + position_or_len is_point w) 0) (is_point-digit c parts.0) ∙ rest

drop_seam : (w f : List ℕ) (c : ℕ) → drop (length w + 1) (w ++ c ∷ f) ≡ f
drop_seam [] f c = refl
drop_seam (x ∷ w) f c =
    let e : suc (length w) + 1 ≡ suc (length w + 1) = omega arith in
    ap (λ n. drop n (x ∷ (w ++ c ∷ f))) e ∙ drop_seam w f c

drop_past : (w : List ℕ) → drop (length w + 1) w ≡ []
drop_past [] = refl
drop_past (x ∷ w) =
    let e : suc (length w) + 1 ≡ suc (length w + 1) = omega arith in
    ap (λ n. drop n (x ∷ w)) e ∙ drop_past w

-- the text behind the sign has these digits before and after the point
record Splits (body w f : List ℕ) : Type 0 where
  before : before_first is_point body ≡ w
  after : after_first is_point body ≡ f

Splits-point : (w f : List ℕ) → list_all is_ascii_digit w ≡ true → Splits (w ++ 46 ∷ f) w f
Splits-point w f digits = record {
  before = ap (λ n. take n (w ++ 46 ∷ f)) (position-point w f digits) ∙ take-append_seam w (46 ∷ f);
  after = ap (λ n. drop (n + 1) (w ++ 46 ∷ f)) (position-point w f digits) ∙ drop_seam w f 46;
}

Splits-no_point : (w : List ℕ) → list_all is_ascii_digit w ≡ true → Splits w w []
Splits-no_point w digits = record {
  before = ap (λ n. take n w) (position-no_point w digits) ∙ take-length w;
  after = ap (λ n. drop (n + 1) w) (position-no_point w digits) ∙ drop_past w;
}

-- what the text writes, by its sign and its parts
parts_of : Bool → List ℕ → List ℕ → Option DecimalNumber
parts_of b w f = if is_numeral (w ++ f) then Some (record { mantissa = with_sign b (number_of (w ++ f)); scale = length f }) else None

decimal_of-parts : (text body w f : List ℕ) (b : Bool) → unsigned_part text ≡ body → is_negative text ≡ b → Splits body w f → is_numeral (w ++ f) ≡ true
    → decimal_of text ≡ Some (record { mantissa = with_sign b (number_of (w ++ f)); scale = length f })
unfolding parts_of
decimal_of-parts text body w f b rest sign splits numeral =
    ap (λ v. parts_of (is_negative text) v (fraction_part text)) (ap (before_first is_point) rest ∙ splits.before)
    ∙ ap (λ v. parts_of (is_negative text) w v) (ap (after_first is_point) rest ∙ splits.after)
    ∙ ap (λ v. parts_of v w f) sign
    ∙ ap (λ v. if v then Some (record { mantissa = with_sign b (number_of (w ++ f)); scale = length f }) else None) numeral

-- digits in front are no sign
unsigned_part-front : (w rest : List ℕ) → list_all is_ascii_digit w ≡ true → 0 < length w → unsigned_part (w ++ rest) ≡ w ++ rest
unsigned_part-front [] rest digits some = elim some [ ]
unsigned_part-front (c ∷ w) rest digits some = ap (λ b. if b then w ++ rest else c ∷ (w ++ rest)) (is_sign-digit c (both _ _ digits).0)

is_negative-front : (w rest : List ℕ) → list_all is_ascii_digit w ≡ true → 0 < length w → is_negative (w ++ rest) ≡ false
is_negative-front [] rest digits some = elim some [ ]
is_negative-front (c ∷ w) rest digits some = is_minus-digit c (both _ _ digits).0

-- ---- the parts of the text

-- the digits before the point, and those after it
abbrev whole_digits : ℕ → List ℕ → List ℕ
whole_digits scale digits = take (length digits - scale) digits

abbrev fraction_digits : ℕ → List ℕ → List ℕ
fraction_digits scale digits = drop (length digits - scale) digits

module _ (scale : ℕ) (digits : List ℕ) (all : list_all is_ascii_digit digits ≡ true) (enough : scale < length digits) where
  joined : whole_digits scale digits ++ fraction_digits scale digits ≡ digits
  joined = take-append-drop (length digits - scale) digits

  both_digits : (list_all is_ascii_digit (whole_digits scale digits) ≡ true) × (list_all is_ascii_digit (fraction_digits scale digits) ≡ true)
  both_digits = both _ _ (sym (list_all-append is_ascii_digit (whole_digits scale digits) (fraction_digits scale digits)) ∙ ap (list_all is_ascii_digit) joined ∙ all)

  length-fraction : length (fraction_digits scale digits) ≡ scale
  length-fraction = omega (arith, length-drop (length digits - scale) digits)

  some_whole : 0 < length (whole_digits scale digits)
  some_whole = omega (arith, length-take (length digits - scale) digits)

pointed-zero : (digits : List ℕ) → pointed zero digits ≡ whole_digits zero digits
pointed-zero digits = append-nil (whole_digits zero digits)

pointed-suc : (scale : ℕ) (digits : List ℕ) → pointed (suc scale) digits ≡ whole_digits (suc scale) digits ++ 46 ∷ fraction_digits (suc scale) digits
pointed-suc scale digits = ap (λ b. whole_digits (suc scale) digits ++ (if b then [] else 46 ∷ fraction_digits (suc scale) digits)) (eqb-suc-zero scale)

Splits-pointed : (scale : ℕ) (digits : List ℕ) → list_all is_ascii_digit digits ≡ true → scale < length digits
    → Splits (pointed scale digits) (whole_digits scale digits) (fraction_digits scale digits)
Splits-pointed zero digits all enough =
    let w = whole_digits zero digits in
    let P : List ℕ → Type 0 = λ body. Splits body w (fraction_digits zero digits) in
    let Q : List ℕ → Type 0 = λ f. Splits w w f in
    let nothing : fraction_digits zero digits ≡ [] = nil_from_length _ (length-fraction zero digits all enough) in
    subst P (sym (pointed-zero digits)) (subst Q (sym nothing) (Splits-no_point w (both_digits zero digits all enough).0))
Splits-pointed (suc scale) digits all enough =
    let P : List ℕ → Type 0 = λ body. Splits body (whole_digits (suc scale) digits) (fraction_digits (suc scale) digits) in
    subst P (sym (pointed-suc scale digits)) (Splits-point _ _ (both_digits (suc scale) digits all enough).0)

no_space-pointed : (scale : ℕ) (digits : List ℕ) → list_all is_ascii_digit digits ≡ true → scale < length digits → no_space (pointed scale digits) ≡ true
no_space-pointed zero digits all enough =
    ap no_space (pointed-zero digits) ∙ no_space-digits (whole_digits zero digits) (both_digits zero digits all enough).0
no_space-pointed (suc scale) digits all enough =
    let w = whole_digits (suc scale) digits in
    let f = fraction_digits (suc scale) digits in
    let parts = both_digits (suc scale) digits all enough in
    ap no_space (pointed-suc scale digits)
    ∙ list_all-append (λ c. not (is_xml_space c)) w (46 ∷ f)
    ∙ ap (λ b. b && no_space f) (no_space-digits w parts.0)
    ∙ no_space-digits f parts.1

-- ---- the whole text

abbrev scaled : ℤ → ℕ → DecimalNumber
scaled z scale = record { mantissa = z; scale = scale }

module _ (scale : ℕ) (digits : List ℕ) (all : list_all is_ascii_digit digits ≡ true) (enough : scale < length digits) where
  numeral : is_numeral (whole_digits scale digits ++ fraction_digits scale digits) ≡ true
  numeral =
      let some : 0 < length digits = omega arith in
      ap is_numeral (joined scale digits all enough) ∙ ap (λ b. b && list_all is_ascii_digit digits) (lt-ltb 0 (length digits) some) ∙ all

  written : (b : Bool) (n : ℕ) → number_of digits ≡ n
      → Some (scaled (with_sign b (number_of (whole_digits scale digits ++ fraction_digits scale digits))) (length (fraction_digits scale digits))) ≡ Some (scaled (with_sign b n) scale)
  written b n e =
      ap (λ m. Some (scaled (with_sign b m) (length (fraction_digits scale digits)))) (ap number_of (joined scale digits all enough) ∙ e)
      ∙ ap (λ k. Some (scaled (with_sign b n) k)) (length-fraction scale digits all enough)

  -- what a sign and digits with a point write
  signed_text : (z : ℤ) → number_of digits ≡ unsigned_abs z → decimal_of (trimmed (minus_of z ++ pointed scale digits)) ≡ Some (record { mantissa = z; scale = scale })
  signed_text (pos n) e =
      let w = whole_digits scale digits in
      let rest : List ℕ = if scale == 0 then [] else 46 ∷ fraction_digits scale digits in
      let body = pointed scale digits in
      let front = (both_digits scale digits all enough).0 in
      let some = some_whole scale digits all enough in
      ap (λ b. decimal_of (trimmed ((if b then 45 ∷ [] else []) ++ body))) (le-ltb n 0 (omega arith))
      ∙ ap decimal_of (trimmed-no_space body (no_space-pointed scale digits all enough))
      ∙ decimal_of-parts body body w (fraction_digits scale digits) false (unsigned_part-front w rest front some) (is_negative-front w rest front some)
      (Splits-pointed scale digits all enough) numeral
      ∙ written false n e
  signed_text (negsuc n) e =
      let body = pointed scale digits in
      ap decimal_of (trimmed-no_space (45 ∷ body) (no_space-pointed scale digits all enough))
      ∙ decimal_of-parts (45 ∷ body) body (whole_digits scale digits) (fraction_digits scale digits) true refl refl
      (Splits-pointed scale digits all enough) numeral
      ∙ written true (suc n) e

pub decimal_back : (d : DecimalNumber) → IsFixed d → decimal_reading (decimal_of (trimmed (decimal_text d))) ≡ Ok (Dec d)
decimal_back d fixed =
    let n = unsigned_abs d.mantissa in
    let small : n < 10 ^ 64 = omega (arith, fixed.digits) in
    let digits = padded_decimal (d.scale + 1) n in
    let enough : d.scale < length digits = omega (arith, length-padded_decimal (d.scale + 1) n) in
    ap decimal_reading (signed_text d.scale digits (padded_digits (d.scale + 1) n small) enough d.mantissa (number_of-padded (d.scale + 1) n small))
    ∙ ap fixed_reading (fixed_of-fixed d fixed)
