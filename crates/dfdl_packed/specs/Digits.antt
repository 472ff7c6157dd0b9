-- Decimal digits, the first being the most significant.
use Rattle.std.specs.Prelude.{ℕ, zero, suc, ◌+◌, ◌*◌, ◌/◌, ◌%◌, ◌^◌, Bool, nat_lt, List, [], ◌∷◌, fold, if◌then◌else◌}
use Rattle.std.specs.List.{list_all}

-- the number that digits write
abbrev pub digits_number : List ℕ → ℕ
digits_number digits = fold (λ n digit. n * 10 + digit) 0 digits

-- each of them is a digit
abbrev pub are_digits : List ℕ → Bool
are_digits digits = list_all (λ digit. nat_lt digit 10) digits

-- the last len digits of a number, with zeros at the front
unfoldable pub padded_digits : ℕ → ℕ → List ℕ
padded_digits zero n = []
padded_digits (suc len) n = n / 10 ^ len % 10 ∷ padded_digits len n

-- how many digits a number of at most most + 1 digits has; 0 has one
unfoldable pub digit_count : ℕ → ℕ → ℕ
digit_count zero n = 1
digit_count (suc most) n = if nat_lt n (10 ^ suc most) then digit_count most n else suc (suc most)
