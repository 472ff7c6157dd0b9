-- Digits as characters, one of which carries the sign.
use Rattle.std.proofs.Common.{◌≡◌, ℕ, suc, ◌-◌, ◌<◌, ◌≤◌, List, [], ◌∷◌, ◌++◌, length, take, drop, set, get_or, map, Bool, true, false, cond, length-set, refl, ap, sym, ◌∙◌, arith, ℤ, unsigned_abs, Option, Some, None, Result}
use Rattle.std.proofs.lemmas.List.{set_split, get_or-map, length-map, take-map, drop_all, get_or_append_left, set-append_left, take_at}
use Rattle.dfdl_forms.specs.declared.simple.Form.{Form}
use Rattle.dfdl_forms.specs.declared.packed.ZonedForm.{ZonedForm}
use Rattle.dfdl_packed.specs.declared.scaled.Scaled.{Scaled}
use Rattle.dfdl_packed.specs.Packed.{is_negative}
use Rattle.dfdl_packed.specs.Written.{ShowsInteger}
use Rattle.dfdl_forms.specs.Types.{form_of}
use Rattle.dfdl_value.specs.declared.value.Value.{Value}
use Rattle.dfdl_packed.specs.declared.fault.PackedFault.{PackedFault}
use Rattle.dfdl_packed.specs.declared.size.SignedSize.{SignedSize}
use Rattle.dfdl_packed.specs.Sizes.{Shows, ShowsSigned}
use Rattle.dfdl_packed.specs.Typed.{value_in}
use Rattle.dfdl_packed.specs.Zoned.{plain_char, char_in, signed_chars, chars_if, zoned_value_if}

pub signed_is : (kind : Form) (form : ZonedForm) (negative : Bool) (digits : List ℕ) (place : ℕ) → 1 ≤ length digits
    → place ≡ cond form.first 0 (length digits - 1)
    → signed_chars kind form negative digits ≡ set (map plain_char digits) place (char_in kind form.style negative (get_or digits place 0))
signed_is kind form negative [] place some is = absurd (omega arith)
signed_is kind form negative (digit ∷ digits) place some is = by_place form.first refl
  where
    by_place : (first : Bool) → form.first ≡ first
        → signed_chars kind form negative (digit ∷ digits) ≡ set (map plain_char (digit ∷ digits)) place (char_in kind form.style negative (get_or (digit ∷ digits) place 0))
    by_place true told =
        let here : place ≡ 0 = is ∙ rw told refl in
        rw (here, told) refl
    by_place false told =
        let here : place ≡ length digits = is ∙ rw told (omega arith) in
        let all : List ℕ = map plain_char (digit ∷ digits) in
        let sign : ℕ = char_in kind form.style negative (get_or (digit ∷ digits) (length digits) 0) in
        let within : length digits < length all = rw (length-map (digit ∷ digits) plain_char) (omega arith) in
        let end : drop (suc (length digits)) all ≡ [] = drop_all (suc (length digits)) all (rw (length-map (digit ∷ digits) plain_char) (omega arith)) in
        rw (here, told)
        (sym (set_split all (length digits) sign within
        ∙ rw (end, take-map plain_char (length digits) (digit ∷ digits)) refl))

-- digits behind which other characters stand
pub place_of_digit : (digits rest : List ℕ) (place : ℕ) → place < length digits
    → get_or (map plain_char digits ++ rest) place 0 - 48 ≡ get_or digits place 0
place_of_digit digits rest place within =
    let inside : place < length (map plain_char digits) = rw (length-map digits plain_char) within in
    ap (λ (char : ℕ). char - 48)
    (get_or_append_left (map plain_char digits) rest 0 place inside ∙ get_or-map plain_char digits place 0 0 within)
    ∙ omega arith

pub set_in_front : (xs ys : List ℕ) (place sign count : ℕ) → length xs ≡ count → place < count → take count (set (xs ++ ys) place sign) ≡ set xs place sign
set_in_front xs ys place sign count size within =
    ap (take count) (set-append_left xs ys place sign (omega arith)) ∙ take_at (set xs place sign) ys count (length-set xs place sign ∙ size)

-- the characters of a value are those of its integer
pub chars_as : (form : ZonedForm) (chars : List ℕ) (scaled : Scaled) (z : Option ℤ) → ShowsInteger (Some scaled) z
    → ((y : ℤ) → scaled.negative ≡ is_negative y → scaled.size ≡ unsigned_abs y → chars_if form (Some y) ≡ Some chars)
    → chars_if form z ≡ Some chars
chars_as form chars scaled None shows is = absurd shows
chars_as form chars scaled (Some y) shows is = is y shows.0 shows.1

-- and the value of characters is that of their number
pub value_as : (form : ZonedForm) (size : SignedSize) (number : Option (Bool × ℕ)) (got : Result Value PackedFault) → ShowsSigned (Some size) number
    → ((n : ℕ) → Shows size.size n → got ≡ value_in (form_of form.kind) form.point size.negative n) → got ≡ zoned_value_if form number
value_as form size None got shows is = absurd shows
value_as form size (Some number) got shows is =
    is number.1 shows.1 ∙ ap (λ (negative : Bool). value_in (form_of form.kind) form.point negative number.1) shows.0
