-- Lemmas on the reading of hexadecimal digits.
use Rattle.std.proofs.Common.{◌≡◌, ℕ, ◌%◌, true, false, List, length, refl, ap, Result, Ok, Err}
use Rattle.std.specs.List.{list_all}
use Rattle.std.proofs.lemmas.List.Sums.{AllPass-from_list_all, list_all-from_AllPass}
use Rattle.hex.specs.declared.error.FromHexError.{FromHexError}
use Rattle.hex.specs.Hex.{is_hex_digit, decode_of}
use Rattle.hex.proofs.HexLemmas.{decode_of-ok, decode_of-digits}
use Rattle.dfdl_value.specs.declared.read.NoValue.TheVariants.{NotAValue}
use Rattle.dfdl_value.specs.ReadValues.{bytes_reading}

bytes_reading-bad : (r : Result (List ℕ) FromHexError) → ((bytes : List ℕ) → r ≡ Ok bytes → ⊥) → bytes_reading r ≡ Err NotAValue
bytes_reading-bad (Ok bytes) bad = absurd (bad bytes refl)
bytes_reading-bad (Err e) bad = refl

pub bytes_reading-odd : (text : List ℕ) → (length text % 2 ≡ 0 → ⊥) → bytes_reading (decode_of text) ≡ Err NotAValue
bytes_reading-odd text odd = bytes_reading-bad (decode_of text) (λ bytes e. odd (decode_of-ok text bytes e).0)

pub bytes_reading-other : (text : List ℕ) → list_all is_hex_digit text ≡ false → bytes_reading (decode_of text) ≡ Err NotAValue
bytes_reading-other text other = bytes_reading-bad (decode_of text) (λ bytes e.
    let all = list_all-from_AllPass is_hex_digit text (decode_of-ok text bytes e).1 in cc)

pub bytes_reading-digits : (text : List ℕ) → length text % 2 ≡ 0 → list_all is_hex_digit text ≡ true → bytes_reading (decode_of text) ≡ Err NotAValue → ⊥
bytes_reading-digits text even all bad =
    let read = decode_of-digits text even (AllPass-from_list_all is_hex_digit text all) in
    let value = ap bytes_reading read.1 in cc
