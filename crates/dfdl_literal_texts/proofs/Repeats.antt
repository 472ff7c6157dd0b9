-- A character over and over.
use Rattle.std.proofs.Common.{◌≡◌, ℕ, ◌+◌, ◌-◌, ◌<◌, ◌≤◌, List, [], ◌∷◌, length, take, drop, Option, Some, None, Bool, true, false, cond, ◌||◌, nat_lt, refl, sym, ap, ◌∙◌, arith, eqb, flat_map}
use mathlib.Core.Path.{fun_ext}
use Rattle.std.proofs.lemmas.Bool.Decides.{nat_tests}
use Rattle.std.proofs.lemmas.List.{drop-drop, drop_all, take_rest}
use Rattle.std.proofs.lemmas.Str.{length-encode, len_utf8_ascii}
use Rattle.std.specs.List.{starts_with}
use Rattle.dfdl_forms.specs.declared.order.ByteOrder.{ByteOrder}
use Rattle.dfdl_forms.specs.declared.order.ByteOrder.TheVariants.{Big, Little}
use Rattle.dfdl_forms.specs.declared.encoding.Encoding.{Encoding}
use Rattle.dfdl_forms.specs.declared.encoding.Encoding.TheVariants.{Utf8, UsAscii, Iso88591, Utf16Be, Utf16Le}
use Rattle.dfdl_chars.specs.Encodings.{encoded_of, encoded_text, unit_bytes_of}
use Rattle.dfdl_literal_texts.specs.Texts.{after_any, after_most, cases_of, is_lower, is_none, is_repeated, is_upper, other_case}
use Rattle.dfdl_literal_texts.specs.Places.{at_front, front_of, some_front}
use Rattle.dfdl_literal_texts.proofs.Ends.{after_some, cond_some, one_front}
use Rattle.dfdl_literal_texts.proofs.Spaces.{any_step}
use Rattle.dfdl_literal_texts.proofs.Steps.{none_left}

-- the number of bytes of a character of ASCII
abbrev width : Encoding → ℕ
width Utf8 = 1
width UsAscii = 1
width Iso88591 = 1
width Utf16Be = 2
width Utf16Le = 2

some_same : (xs ys : List ℕ) → Some xs ≡ Some ys → xs ≡ ys
some_same xs ys is = cc

narrow_width : (t : Bool) (c : ℕ) (xs : List ℕ) → cond t (Some (c ∷ [])) None ≡ Some xs → length xs ≡ 1
narrow_width true c xs is = ap length (sym (some_same (c ∷ []) xs is))
narrow_width false c xs is = let no_it : ⊥ = cc in absurd no_it

units_width : (order : ByteOrder) (t : Bool) (a b c : ℕ) → t ≡ true → length (flat_map (unit_bytes_of order) (cond t (a ∷ []) (b ∷ c ∷ []))) ≡ 2
units_width Big true a b c is = refl
units_width Big false a b c is = let no_it : ⊥ = cc in absurd no_it
units_width Little true a b c is = refl
units_width Little false a b c is = let no_it : ⊥ = cc in absurd no_it

ascii_unit : (c : ℕ) → c < 128 → nat_lt c 0x10000 ≡ true
ascii_unit c less = grind (arith, nat_tests)

ascii_width : (encoding : Encoding) (c : ℕ) (xs : List ℕ) → c < 128 → encoded_of encoding c ≡ Some xs → length xs ≡ width encoding
ascii_width Utf8 c xs less is = ap length (sym (some_same _ xs is)) ∙ length-encode c ∙ len_utf8_ascii c less
ascii_width UsAscii c xs less is = narrow_width (nat_lt c 128) c xs is
ascii_width Iso88591 c xs less is = narrow_width (nat_lt c 256) c xs is
ascii_width Utf16Be c xs less is = ap length (sym (some_same _ xs is)) ∙ units_width Big (nat_lt c 0x10000) _ _ _ (ascii_unit c less)
ascii_width Utf16Le c xs less is = ap length (sym (some_same _ xs is)) ∙ units_width Little (nat_lt c 0x10000) _ _ _ (ascii_unit c less)

front_width : (encoding : Encoding) (c : ℕ) (bytes : List ℕ) (n : ℕ) → c < 128 → front_of (encoded_of encoding c) bytes ≡ Some n → n ≡ width encoding
front_width encoding c bytes n less is = by (encoded_of encoding c) refl is
  where
    by : (o : Option (List ℕ)) → encoded_of encoding c ≡ o → front_of o bytes ≡ Some n → n ≡ width encoding
    by None it some = let no_it : ⊥ = cc in absurd no_it
    by (Some xs) it some = (cond_some (starts_with eqb bytes xs) (length xs) n (sym some)).1 ∙ ascii_width encoding c xs less it

some_number : (n m : ℕ) → Some n ≡ Some m → n ≡ m
some_number n m is = cc

upper_less : (c : ℕ) → is_upper c ≡ true → c + 32 < 128
upper_less c is = grind (arith, nat_tests)

lower_less : (c : ℕ) → is_lower c ≡ true → c < 123
lower_less c is = grind (arith, nat_tests)

-- both cases of a character at the front end at one place
one_end : (encoding : Encoding) (c : ℕ) (bytes : List ℕ) (n m : ℕ) → front_of (encoded_of encoding c) bytes ≡ Some n
    → front_of (encoded_of encoding (other_case c)) bytes ≡ Some m → n ≡ m
one_end encoding c bytes n m first second = by (is_upper c) (is_lower c) refl refl second
  where
    by : (upper lower : Bool) → is_upper c ≡ upper → is_lower c ≡ lower
        → front_of (encoded_of encoding (cond upper (c + 32) (cond lower (c - 32) c))) bytes ≡ Some m → n ≡ m
    by true lower is none other =
        let less = upper_less c is in
        front_width encoding c bytes n (omega (arith, less)) first ∙ sym (front_width encoding (c + 32) bytes m less other)
    by false true none is other =
        let less = lower_less c is in
        front_width encoding c bytes n (omega (arith, less)) first ∙ sym (front_width encoding (c - 32) bytes m (omega (arith, less)) other)
    by false false none neither other = some_number n m (sym first ∙ other)

or_false : (b : Bool) → (b || false) ≡ b
or_false true = refl
or_false false = refl

or_same : (b : Bool) → (b || (b || false)) ≡ b
or_same true = refl
or_same false = refl

-- where the character stands, its other case ends there too
pub case_first : (encoding : Encoding) (fold : Bool) (c : ℕ) (bytes : List ℕ) (n : ℕ) (passes : ℕ → Bool) → Some n ≡ front_of (encoded_of encoding c) bytes
    → passes n ≡ some_front encoding (cases_of fold c) bytes passes
case_first encoding false c bytes n passes is =
    sym (or_false (passes n)) ∙ ap (λ o. at_front o passes || false) (is ∙ sym (one_front (encoded_of encoding c) bytes))
case_first encoding true c bytes n passes is =
    by (front_of (encoded_of encoding (other_case c)) bytes) refl
    ∙ ap (λ o. at_front o passes || (at_front (front_of (encoded_text encoding (other_case c ∷ [])) bytes) passes || false)) (is ∙ sym (one_front (encoded_of encoding c) bytes))
  where
    back : (o : Option ℕ) → front_of (encoded_of encoding (other_case c)) bytes ≡ o → front_of (encoded_text encoding (other_case c ∷ [])) bytes ≡ o
    back o it = one_front (encoded_of encoding (other_case c)) bytes ∙ it

    by : (o : Option ℕ) → front_of (encoded_of encoding (other_case c)) bytes ≡ o
        → passes n ≡ (passes n || (at_front (front_of (encoded_text encoding (other_case c ∷ [])) bytes) passes || false))
    by None it = sym (or_false (passes n)) ∙ ap (λ o. passes n || (at_front o passes || false)) (sym (back None it))
    by (Some m) it =
        sym (or_same (passes n)) ∙ ap (λ k. passes n || (passes k || false)) (one_end encoding c bytes n m (sym is) it)
        ∙ ap (λ o. passes n || (at_front o passes || false)) (sym (back (Some m) it))

-- where it doesn't, its other case may stand
pub case_other : (encoding : Encoding) (c : ℕ) (bytes : List ℕ) (o : Option ℕ) (passes : ℕ → Bool) → None ≡ front_of (encoded_of encoding c) bytes
    → o ≡ front_of (encoded_of encoding (other_case c)) bytes → at_front o passes ≡ some_front encoding (cases_of true c) bytes passes
case_other encoding c bytes o passes none is =
    sym (or_false (at_front o passes)) ∙ ap (λ p. at_front p passes || false) (is ∙ sym (one_front (encoded_of encoding (other_case c)) bytes))
    ∙ ap (λ p. at_front p passes || (at_front (front_of (encoded_text encoding (other_case c ∷ [])) bytes) passes || false)) (none ∙ sym (one_front (encoded_of encoding c) bytes))

pub case_lacks : (encoding : Encoding) (c : ℕ) (bytes : List ℕ) (passes : ℕ → Bool) → None ≡ front_of (encoded_of encoding c) bytes
    → false ≡ some_front encoding (cases_of false c) bytes passes
case_lacks encoding c bytes passes none = ap (λ p. at_front p passes || false) (none ∙ sym (one_front (encoded_of encoding c) bytes))

-- none, or one and any number
cases_step : (encoding : Encoding) (fold : Bool) (c : ℕ) (go : List ℕ → Bool) (bytes : List ℕ) → after_any encoding (cases_of fold c) go bytes
    ≡ (go bytes || some_front encoding (cases_of fold c) bytes (λ n. after_any encoding (cases_of fold c) go (drop n bytes)))
cases_step encoding true c go bytes = any_step encoding (c ∷ other_case c ∷ []) go bytes
cases_step encoding false c go bytes = any_step encoding (c ∷ []) go bytes

-- the first of them
pub repeat_first : (encoding : Encoding) (fold : Bool) (c : ℕ) (bytes : List ℕ) (o : Option ℕ)
    → ((passes : ℕ → Bool) → at_front o passes ≡ some_front encoding (cases_of fold c) bytes passes)
    → at_front o (λ n. after_any encoding (cases_of fold c) is_none (drop n bytes)) ≡ is_repeated encoding fold c bytes
repeat_first encoding fold c bytes o front =
    front (λ n. after_any encoding (cases_of fold c) is_none (drop n bytes))
    ∙ sym (after_some encoding (cases_of fold c) bytes (after_any encoding (cases_of fold c) is_none))

-- one more of them
pub repeat_more : (encoding : Encoding) (fold : Bool) (c : ℕ) (bytes : List ℕ) (at : ℕ) (o : Option ℕ) → at < length bytes
    → ((passes : ℕ → Bool) → at_front o passes ≡ some_front encoding (cases_of fold c) (take (length bytes - at) (drop at bytes)) passes)
    → at_front o (λ n. after_any encoding (cases_of fold c) is_none (drop (at + n) bytes)) ≡ after_any encoding (cases_of fold c) is_none (drop at bytes)
repeat_more encoding fold c bytes at o within front =
    front (λ n. after_any encoding (cases_of fold c) is_none (drop (at + n) bytes))
    ∙ ap (λ l. some_front encoding (cases_of fold c) l (λ n. after_any encoding (cases_of fold c) is_none (drop (at + n) bytes))) (take_rest bytes at)
    ∙ ap (λ (f : ℕ → Bool). some_front encoding (cases_of fold c) (drop at bytes) f) (fun_ext (λ n. ap (after_any encoding (cases_of fold c) is_none) (sym (drop-drop n at bytes))))
    ∙ sym (ap (λ b. b || some_front encoding (cases_of fold c) (drop at bytes) (λ n. after_any encoding (cases_of fold c) is_none (drop n (drop at bytes)))) (none_left bytes at within))
    ∙ sym (cases_step encoding fold c is_none (drop at bytes))

-- nothing is left
pub repeat_end : (encoding : Encoding) (fold : Bool) (c : ℕ) (bytes : List ℕ) (at : ℕ) → length bytes ≤ at
    → after_any encoding (cases_of fold c) is_none (drop at bytes) ≡ true
unfolding after_most
repeat_end encoding fold c bytes at past = rw (drop_all at bytes past) refl
