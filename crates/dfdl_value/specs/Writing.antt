-- The text of a value.
use Rattle.std.specs.Prelude.{ℕ, ◌+◌, ◌-◌, ◌==◌, if◌then◌else◌, List, [], ◌∷◌, ◌++◌, length, take, drop, replicate, ℤ, pos, int_lt, unsigned_abs, codes}
use Rattle.std.specs.Fmt.{decimal, signed_decimal}
use Rattle.hex.specs.Hex.{encode_upper}
use Rattle.dfdl_value.specs.declared.value.Value.{Value}
use Rattle.dfdl_value.specs.declared.value.Value.TheVariants.{Int, Uns, Dec, Text, Truth, Bytes}
use Rattle.dfdl_decimal.specs.Decimal.{DecimalNumber}

-- a minus before a number below zero
abbrev pub minus_of : ℤ → List ℕ
minus_of z = if int_lt z (pos 0) then 45 ∷ [] else []

-- the digits of n, with zeros before them where they are fewer than asked for
abbrev pub padded_decimal : ℕ → ℕ → List ℕ
padded_decimal least n = replicate (least - length (decimal n)) 48 ++ decimal n

-- digits, with a point before the last `scale` of them
abbrev pub pointed : ℕ → List ℕ → List ℕ
pointed scale digits =
    take (length digits - scale) digits
    ++ (if scale == 0 then [] else 46 ∷ drop (length digits - scale) digits)

-- a decimal number with a digit or more before the point, and no point without digits after it
abbrev pub decimal_text : DecimalNumber → List ℕ
decimal_text d =
    minus_of d.mantissa ++ pointed d.scale (padded_decimal (d.scale + 1) (unsigned_abs d.mantissa))

-- the text that a value is written as: a whole number in plain decimal digits, hexBinary in upper
-- case
abbrev pub text_of : Value → List ℕ
text_of (Int z) = signed_decimal z
text_of (Uns n) = decimal n
text_of (Dec d) = decimal_text d
text_of (Text t) = t
text_of (Truth b) = if b then codes "true" else codes "false"
text_of (Bytes b) = encode_upper b
