-- Digits of a number in a base, the first being the most significant.
use Rattle.std.specs.Prelude.{ℕ, zero, suc, ◌+◌, ◌/◌, ◌%◌, ◌^◌, nat_lt, List, [], ◌∷◌, if◌then◌else◌}

-- the last len digits of a number
unfoldable pub digits_at : ℕ → ℕ → ℕ → List ℕ
digits_at base zero n = []
digits_at base (suc len) n = n / base ^ len % base ∷ digits_at base len n

-- how many digits a number of at most `most` digits has; 0 has none
unfoldable pub digit_count : ℕ → ℕ → ℕ → ℕ
digit_count base zero n = 0
digit_count base (suc most) n = if nat_lt n (base ^ most) then digit_count base most n else suc most

-- the character of a digit, in upper case
abbrev pub digit_character : ℕ → ℕ
digit_character digit = if nat_lt digit 10 then 48 + digit else 55 + digit
