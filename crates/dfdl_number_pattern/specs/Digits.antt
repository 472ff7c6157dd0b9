-- The digits of a number pattern: how many signs of each kind they have, how these are grouped, and how they are spelled.
use Rattle.std.specs.Prelude.{◌≡◌, ℕ, ◌+◌, ◌==◌, Bool, true, nat_lt, nat_le, ◌&&◌, Option, Some, None, if◌then◌else◌, List, [], ◌∷◌, ◌++◌}
use Rattle.dfdl_number_pattern.specs.declared.digits.Part.TheVariants.{Integer, Fraction, Implied}
use Rattle.dfdl_number_pattern.specs.declared.digits.Groups.{Groups}
use Rattle.dfdl_number_pattern.specs.declared.digits.Groups.TheVariants.{Ungrouped, Grouped, Equal}
use Rattle.dfdl_number_pattern.specs.declared.digits.Digits.{Digits}

-- no signs
abbrev pub none : Digits
none = record { part = Integer; groups = Ungrouped; hashes = 0; zeros = 0; fraction_zeros = 0; fraction_hashes = 0; implied = 0 }

-- the `#` and `0` of all parts
abbrev pub sign_count : Digits → ℕ
sign_count d = d.hashes + d.zeros + d.fraction_zeros + d.fraction_hashes + d.implied

-- groups with one more sign
abbrev pub group_more : Groups → Groups
group_more Ungrouped = Ungrouped
group_more (Grouped signs) = Grouped (signs + 1)
group_more (Equal size signs) = Equal size (signs + 1)

-- a sign may follow in the group: groups between `,` have equal sizes, and so has the last one
abbrev pub may_group : Groups → Bool
may_group Ungrouped = true
may_group (Grouped signs) = nat_lt signs 38
may_group (Equal size signs) = nat_lt signs size

-- the integer part may end: no `,` stands at its end, and the last group is as large as the others
abbrev pub may_end : Groups → Bool
may_end Ungrouped = true
may_end (Grouped signs) = nat_lt 0 signs
may_end (Equal size signs) = signs == size

-- the groups behind one more `,`, where so many signs stand in all: a sign stands in front of it, the group that it ends is as large as
-- those before, and the 38 signs leave room for the group behind it
abbrev pub group_next : ℕ → Groups → Option Groups
group_next count Ungrouped = if nat_lt 0 count && nat_lt count 38 then Some (Grouped 0) else None
group_next count (Grouped signs) = if nat_lt 0 signs && nat_le (count + signs) 38 then Some (Equal signs 0) else None
group_next count (Equal size signs) = if signs == size && nat_le (count + size) 38 then Some (Equal size 0) else None

-- the signs behind the last `,`, or 0 where there is none
abbrev pub group_size : Groups → ℕ
group_size Ungrouped = 0
group_size (Grouped signs) = signs
group_size (Equal size signs) = signs

-- at most 38 signs stand in all
abbrev pub may_sign : Digits → Bool
may_sign d = nat_lt (sign_count d) 38

-- digits may end here: there is a sign, and the integer part may end
abbrev pub is_complete : Digits → Bool
is_complete d = nat_lt 0 (sign_count d) && may_end d.groups

-- A front of the digits, which has these signs, is spelled so: `#` and then `0` with `,` between them, and behind them nothing, `.` with `0`
-- and then `#`, or `V` with `0`.
pub data IsDigits : Digits → List ℕ → Type 0 where
  NoSign : IsDigits none []
  Hash : (d : Digits) (t : List ℕ) → IsDigits d t → d.part ≡ Integer → d.zeros ≡ 0 → may_group d.groups ≡ true → may_sign d ≡ true
      → IsDigits (record d { hashes = d.hashes + 1; groups = group_more d.groups }) (t ++ 35 ∷ [])
  Zero : (d : Digits) (t : List ℕ) → IsDigits d t → d.part ≡ Integer → may_group d.groups ≡ true → may_sign d ≡ true
      → IsDigits (record d { zeros = d.zeros + 1; groups = group_more d.groups }) (t ++ 48 ∷ [])
  Comma : (d : Digits) (t : List ℕ) (g : Groups) → IsDigits d t → d.part ≡ Integer → group_next (sign_count d) d.groups ≡ Some g
      → IsDigits (record d { groups = g }) (t ++ 44 ∷ [])
  Point : (d : Digits) (t : List ℕ) → IsDigits d t → d.part ≡ Integer → may_end d.groups ≡ true → IsDigits (record d { part = Fraction }) (t ++ 46 ∷ [])
  ImpliedPoint : (d : Digits) (t : List ℕ) → IsDigits d t → d.part ≡ Integer → may_end d.groups ≡ true → IsDigits (record d { part = Implied }) (t ++ 86 ∷ [])
  FractionZero : (d : Digits) (t : List ℕ) → IsDigits d t → d.part ≡ Fraction → d.fraction_hashes ≡ 0 → may_sign d ≡ true
      → IsDigits (record d { fraction_zeros = d.fraction_zeros + 1 }) (t ++ 48 ∷ [])
  FractionHash : (d : Digits) (t : List ℕ) → IsDigits d t → d.part ≡ Fraction → may_sign d ≡ true
      → IsDigits (record d { fraction_hashes = d.fraction_hashes + 1 }) (t ++ 35 ∷ [])
  ImpliedZero : (d : Digits) (t : List ℕ) → IsDigits d t → d.part ≡ Implied → may_sign d ≡ true
      → IsDigits (record d { implied = d.implied + 1 }) (t ++ 48 ∷ [])
