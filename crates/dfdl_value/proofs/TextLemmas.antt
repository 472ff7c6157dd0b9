-- Lemmas on the parts of a number's text.
use Rattle.std.proofs.Common.{◌≡◌, ℕ, ◌+◌, ◌-◌, ◌*◌, ◌<◌, ◌≤◌, Bool, true, false, List, [], ◌∷◌, length, get_or, drop, refl, sym, ap, ◌∙◌, arith, add-one, drop-cons, if◌then◌else◌, Some, None, cond, not}
use Rattle.std.proofs.lemmas.Bool.{ltb-false}
use Rattle.std.proofs.lemmas.List.Sums.{prefix_len-le-length}
use Rattle.std.specs.List.{position, position_or_len}
use Rattle.dfdl_value.specs.Texts.{number_after, number_of, is_numeral, is_negative, unsigned_part, integer_of}
use Rattle.dfdl_decimal.specs.Decimal.{with_sign}

-- digits never make a number less
pub number_after-ge : (n : ℕ) (ds : List ℕ) → n ≤ number_after n ds
number_after-ge n [] = omega arith
number_after-ge n (c ∷ cs) = omega (arith, number_after-ge (n * 10 + (c - 48)) cs)

-- one digit more
pub number_after-drop : (n : ℕ) (ds : List ℕ) (i : ℕ) → i < length ds → number_after n (drop i ds) ≡ number_after (n * 10 + (get_or ds i 0 - 48)) (drop (i + 1) ds)
number_after-drop n ds i h = rw (add-one, drop-cons ds i 0)

-- what the digits from place i on add to
pub number_after-drop_ge : (n : ℕ) (ds : List ℕ) (i m : ℕ) → i < length ds → number_after n (drop i ds) ≡ m → n * 10 + (get_or ds i 0 - 48) ≤ m
number_after-drop_ge n ds i m h e =
    let step = number_after-drop n ds i h in
    omega (arith, e, step, number_after-ge (n * 10 + (get_or ds i 0 - 48)) (drop (i + 1) ds))

pub integer_of-numeral : (text digits : List ℕ) → digits ≡ unsigned_part text → is_numeral digits ≡ true → integer_of text ≡ Some (with_sign (is_negative text) (number_of digits))
integer_of-numeral text digits e h =
    let numeral : is_numeral (unsigned_part text) ≡ true = ap is_numeral (sym e) ∙ h in
    ap (λ b. if b then Some (with_sign (is_negative text) (number_of (unsigned_part text))) else None) numeral
    ∙ ap (λ d. Some (with_sign (is_negative text) (number_of d))) (sym e)

no_some : {A : Type 0} (b : Bool) (x : A) → cond b (Some x) None ≡ None → b ≡ false
no_some true x e = absurd (cc)
no_some false x e = refl

-- no element passes
pub position-none : (p : ℕ → Bool) (xs : List ℕ) → position p xs ≡ None → length xs ≡ position_or_len p xs
position-none p xs h =
    let least = ltb-false (position_or_len p xs) (length xs) (no_some _ (position_or_len p xs) h) in
    omega (arith, least, prefix_len-le-length (λ x. not (p x)) xs)
