-- Lemmas on the characters at places.
use Rattle.std.proofs.Common.{◌≡◌, ℕ, suc, ◌+◌, ◌-◌, ◌*◌, ◌/◌, ◌%◌, ◌^◌, ◌<◌, ◌≤◌, max, Bool, true, false, not, ◌&&◌, cond, if◌then◌else◌, List, [], ◌∷◌, take, drop, refl, sym, ap, ◌∙◌, inl, inr, arith, ℤ, pos, int_lt, length, ◌++◌, append_assoc, length-append, chars, subst}
use Rattle.std.proofs.Math.Nat.{div-add-mod, mod-lt, mul-le-mul_right}
use Rattle.std.proofs.Math.Bool.{and-false}
use Rattle.std.proofs.Math.Seq.{take-nil, drop-nil, take-append_seam}
use Rattle.std.proofs.lemmas.List.{append_cancel_right, take-append-drop}
use Rattle.std.proofs.lemmas.Str.{IsUtf8-take, IsCharBoundary-at_seam, chars-append, chars-nil}
use Rattle.std.specs.Str.{IsUtf8, IsCharBoundary}
use Rattle.std.proofs.lemmas.Bool.{cases_lt, le-ltb, lt-ltb}
use Rattle.std.specs.declared.cmp.Ordering.TheVariants.{Less, Equal, Greater}
use Rattle.std.specs.Ordering.{int_cmp}
use Rattle.dfdl_decimal.specs.Decimal.{DecimalNumber, with_sign}
use Rattle.dfdl_decimal.proofs.OrderLemmas.{pow_some}
use Rattle.dfdl_operators.specs.Comparisons.{is_less}
use Rattle.dfdl_operators.specs.Places.{is_below, placed}

abbrev pub at : Bool → ℕ → ℕ → DecimalNumber
at b n s = record { mantissa = with_sign b n; scale = s }

-- ---- places below a number

below_int : (x y : ℤ) → int_lt x y ≡ true → is_less (int_cmp x y) ≡ true
below_int x y e = ap (λ b. is_less (cond b Less (cond (int_lt y x) Greater Equal))) e

greater_or_equal : (b : Bool) → is_less (cond b Greater Equal) ≡ false
greater_or_equal true = refl
greater_or_equal false = refl

not_below_int : (x y : ℤ) → int_lt x y ≡ false → is_less (int_cmp x y) ≡ false
not_below_int x y e = ap (λ b. is_less (cond b Less (cond (int_lt y x) Greater Equal))) e ∙ greater_or_equal (int_lt y x)

module _ (m s place : ℕ) where
  pub below_positive : 0 < m → place ≤ (m - 1) / 10 ^ s → is_below place (at false m s) ≡ true
  below_positive some le =
      let whole = div-add-mod (m - 1) (10 ^ s) in
      let least : place * 10 ^ s ≤ (m - 1) / 10 ^ s * 10 ^ s = mul-le-mul_right (10 ^ s) le in
      let less : place * 10 ^ s < m * 1 = omega (arith, whole, least) in
      below_int (pos (place * 10 ^ s)) (pos (m * 1)) (lt-ltb _ _ less)

  pub not_below_positive : 0 < m → (m - 1) / 10 ^ s < place → is_below place (at false m s) ≡ false
  not_below_positive some less =
      let whole = div-add-mod (m - 1) (10 ^ s) in
      let rest : (m - 1) % 10 ^ s < 10 ^ s = mod-lt (m - 1) (pow_some s) in
      let more : (m - 1) / 10 ^ s + 1 ≤ place = omega arith in
      let least : ((m - 1) / 10 ^ s + 1) * 10 ^ s ≤ place * 10 ^ s = mul-le-mul_right (10 ^ s) more in
      let far : m * 1 ≤ place * 10 ^ s = omega (arith, whole, rest, least) in
      not_below_int (pos (place * 10 ^ s)) (pos (m * 1)) (le-ltb _ _ far)

-- ---- the characters from a place on

module _ (passes : ℕ → Bool) (least : ℕ) (low : (p : ℕ) → 0 < p → p ≤ least → passes p ≡ false) (high : (p : ℕ) → least < p → passes p ≡ true) where
  from_step : (c : ℕ) (cs : List ℕ) (k : ℕ) → placed passes (k + 1 + 1) cs ≡ drop (least - (k + 1)) cs → placed passes (k + 1) (c ∷ cs) ≡ drop (least - k) (c ∷ cs)
  from_step c cs k next = elim (cases_lt k least) [
    | inl before ↦ let one : least - k ≡ suc (least - (k + 1)) = omega arith in
        ap (λ t. if t then c ∷ placed passes (k + 1 + 1) cs else placed passes (k + 1 + 1) cs) (low (k + 1) (omega arith) (omega arith))
        ∙ next ∙ sym (ap (λ n. drop n (c ∷ cs)) one)
    | inr le ↦ let none : least - k ≡ 0 = omega arith in let still : least - (k + 1) ≡ 0 = omega arith in
        ap (λ t. if t then c ∷ placed passes (k + 1 + 1) cs else placed passes (k + 1 + 1) cs) (high (k + 1) (omega arith))
        ∙ ap (λ xs. c ∷ xs) (next ∙ ap (λ n. drop n cs) still) ∙ sym (ap (λ n. drop n (c ∷ cs)) none)
  ]

  placed_from : (cs : List ℕ) (k : ℕ) → placed passes (k + 1) cs ≡ drop (least - k) cs
  placed_from [] k = sym (drop-nil (least - k))
  placed_from (c ∷ cs) k = from_step c cs k (placed_from cs (k + 1))

  pub placed-from : (cs : List ℕ) → placed passes 1 cs ≡ drop least cs
  placed-from cs = let same : least - 0 ≡ least = omega arith in placed_from cs 0 ∙ ap (λ n. drop n cs) same

-- ---- the characters from a place to another

module _ (passes : ℕ → Bool) (least most : ℕ) (low : (p : ℕ) → 0 < p → p ≤ least → passes p ≡ false) (middle : (p : ℕ) → least < p → p ≤ most → passes p ≡ true) (high : (p : ℕ) → most < p → passes p ≡ false) where
  before_step : (c : ℕ) (cs : List ℕ) (k : ℕ) → k < least → placed passes (k + 1 + 1) cs ≡ take (most - max least (k + 1)) (drop (least - (k + 1)) cs) → placed passes (k + 1) (c ∷ cs) ≡ take (most - max least k) (drop (least - k) (c ∷ cs))
  before_step c cs k before next =
      let one : least - k ≡ suc (least - (k + 1)) = omega arith in
      let same : max least (k + 1) ≡ max least k = omega arith in
      ap (λ t. if t then c ∷ placed passes (k + 1 + 1) cs else placed passes (k + 1 + 1) cs) (low (k + 1) (omega arith) (omega arith))
      ∙ next ∙ ap (λ n. take (most - n) (drop (least - (k + 1)) cs)) same
      ∙ sym (ap (λ n. take (most - max least k) (drop n (c ∷ cs))) one)

  middle_step : (c : ℕ) (cs : List ℕ) (k : ℕ) → least ≤ k → k < most → placed passes (k + 1 + 1) cs ≡ take (most - max least (k + 1)) (drop (least - (k + 1)) cs) → placed passes (k + 1) (c ∷ cs) ≡ take (most - max least k) (drop (least - k) (c ∷ cs))
  middle_step c cs k le less next =
      let none : least - k ≡ 0 = omega arith in
      let still : least - (k + 1) ≡ 0 = omega arith in
      let one : most - max least k ≡ suc (most - max least (k + 1)) = omega arith in
      ap (λ t. if t then c ∷ placed passes (k + 1 + 1) cs else placed passes (k + 1 + 1) cs) (middle (k + 1) (omega arith) (omega arith))
      ∙ ap (λ xs. c ∷ xs) (next ∙ ap (λ n. take (most - max least (k + 1)) (drop n cs)) still)
      ∙ sym (ap (λ n. take n (drop (least - k) (c ∷ cs))) one ∙ ap (λ n. take (suc (most - max least (k + 1))) (drop n (c ∷ cs))) none)

  behind_step : (c : ℕ) (cs : List ℕ) (k : ℕ) → least ≤ k → most ≤ k → placed passes (k + 1 + 1) cs ≡ take (most - max least (k + 1)) (drop (least - (k + 1)) cs) → placed passes (k + 1) (c ∷ cs) ≡ take (most - max least k) (drop (least - k) (c ∷ cs))
  behind_step c cs k le past next =
      let none : most - max least k ≡ 0 = omega arith in
      let still : most - max least (k + 1) ≡ 0 = omega arith in
      ap (λ t. if t then c ∷ placed passes (k + 1 + 1) cs else placed passes (k + 1 + 1) cs) (high (k + 1) (omega arith))
      ∙ next ∙ ap (λ n. take n (drop (least - (k + 1)) cs)) still
      ∙ sym (ap (λ n. take n (drop (least - k) (c ∷ cs))) none)

  step : (c : ℕ) (cs : List ℕ) (k : ℕ) → placed passes (k + 1 + 1) cs ≡ take (most - max least (k + 1)) (drop (least - (k + 1)) cs) → placed passes (k + 1) (c ∷ cs) ≡ take (most - max least k) (drop (least - k) (c ∷ cs))
  step c cs k next = elim (cases_lt k least) [
    | inl before ↦ before_step c cs k before next
    | inr le ↦ elim (cases_lt k most) [
      | inl less ↦ middle_step c cs k le less next
      | inr past ↦ behind_step c cs k le past next
    ]
  ]

  placed_between : (cs : List ℕ) (k : ℕ) → placed passes (k + 1) cs ≡ take (most - max least k) (drop (least - k) cs)
  placed_between [] k = sym (ap (take (most - max least k)) (drop-nil (least - k)) ∙ take-nil (most - max least k))
  placed_between (c ∷ cs) k = step c cs k (placed_between cs (k + 1))

  pub placed-between : (cs : List ℕ) → placed passes 1 cs ≡ take (most - least) (drop least cs)
  placed-between cs =
      let same : least - 0 ≡ least = omega arith in
      let greatest : max least 0 ≡ least = omega arith in
      placed_between cs 0 ∙ ap (λ n. take (most - n) (drop (least - 0) cs)) greatest ∙ ap (λ n. take (most - least) (drop n cs)) same

-- ---- places and numbers

module _ (a : DecimalNumber) (least : ℕ) (below : (p : ℕ) → 0 < p → p ≤ least → is_below p a ≡ true) (not_below : (p : ℕ) → least < p → is_below p a ≡ false) where
  pub from_is : (cs : List ℕ) → placed (λ place. not (is_below place a)) 1 cs ≡ drop least cs
  from_is cs =
      placed-from (λ place. not (is_below place a)) least
      (λ p some le. ap not (below p some le))
      (λ p less. ap not (not_below p less)) cs

  module _ (b : DecimalNumber) (most : ℕ) (below_end : (p : ℕ) → 0 < p → p ≤ most → is_below p b ≡ true) (not_below_end : (p : ℕ) → most < p → is_below p b ≡ false) where
    pub between_is : (cs : List ℕ) → placed (λ place. not (is_below place a) && is_below place b) 1 cs ≡ take (most - least) (drop least cs)
    between_is cs =
        placed-between (λ place. not (is_below place a) && is_below place b) least most
        (λ p some le. ap (λ t. not t && is_below p b) (below p some le))
        (λ p less le. ap (λ t. not t && is_below p b) (not_below p less) ∙ below_end p (omega arith) le)
        (λ p less. ap (λ t. not (is_below p a) && t) (not_below_end p less) ∙ and-false (not (is_below p a))) cs

-- ---- texts and their characters

pub no_chars : (text rest : List ℕ) → rest ≡ text → length rest ≡ 0 → chars text ≡ []
no_chars text [] e none = ap chars (sym e) ∙ chars-nil
no_chars text (c ∷ cs) e none = absurd (omega (arith, none))

pub passed : (n c : ℕ) (xs ys whole : List ℕ) → 0 < n → xs ≡ c ∷ ys → drop n xs ≡ whole → drop (n - 1) ys ≡ whole
passed n c xs ys whole some e had =
    let one : n ≡ suc (n - 1) = omega arith in
    sym (ap (λ k. drop k (c ∷ ys)) one) ∙ ap (drop n) (sym e) ∙ had

pub longer_front : (text xs ys rest more : List ℕ) → text ≡ xs ++ rest → rest ≡ ys ++ more → text ≡ (xs ++ ys) ++ more
longer_front text xs ys rest more e f = e ∙ ap (λ r. xs ++ r) f ∙ sym (append_assoc xs ys more)

module _ (text front rest : List ℕ) (e : text ≡ front ++ rest) (utf8 : IsUtf8 text) (also : IsUtf8 rest) where
  end : length text - length rest ≡ length front
  end = omega (arith, ap length e, length-append front rest)

  pub cut_there : IsCharBoundary text (length text - length rest)
  cut_there =
      let P : ℕ → Type 0 = λ k. IsCharBoundary text k in
      subst P (sym end) (IsCharBoundary-at_seam text front rest e also)

  same_front : take (length front) text ≡ front
  same_front = ap (take (length front)) e ∙ take-append_seam front rest

  front_utf8 : IsUtf8 front
  front_utf8 =
      let P : List ℕ → Type 0 = λ bs. IsUtf8 bs in
      subst P same_front (IsUtf8-take text (length front) utf8 (IsCharBoundary-at_seam text front rest e also))

  pub front_chars : (n : ℕ) → chars rest ≡ drop n (chars text) → chars (take (length text - length rest) text) ≡ take n (chars text)
  front_chars n left =
      ap (λ k. chars (take k text)) end ∙ ap chars same_front
      ∙ append_cancel_right (chars front) (take n (chars text)) (drop n (chars text))
      (ap (λ r. chars front ++ r) (sym left) ∙ sym (ap chars e ∙ chars-append front rest front_utf8) ∙ sym (take-append-drop n (chars text)))
