-- Digits have at most 38 signs, and so has their last group.
use Rattle.std.proofs.Common.{◌≡◌, ℕ, ◌+◌, ◌<◌, ◌≤◌, ◌==◌, ◌&&◌, nat_lt, nat_le, Option, Some, None, List, arith}
use Rattle.std.proofs.lemmas.Bool.{cond_both, ltb-true}
use Rattle.dfdl_number_pattern.specs.declared.digits.Groups.{Groups}
use Rattle.dfdl_number_pattern.specs.declared.digits.Groups.TheVariants.{Ungrouped, Grouped, Equal}
use Rattle.dfdl_number_pattern.specs.declared.digits.Digits.{Digits}
use Rattle.dfdl_number_pattern.specs.Digits.{sign_count, group_more, group_next, group_size, IsDigits, NoSign, Hash, Zero, Comma, Point, ImpliedPoint, FractionZero, FractionHash, ImpliedZero}

-- one sign more
more_size : (g : Groups) → group_size (group_more g) ≤ group_size g + 1
more_size Ungrouped = omega arith
more_size (Grouped n) = omega arith
more_size (Equal s n) = omega arith

-- no sign stands behind a `,` at once
next_size : (c : ℕ) (g h : Groups) → group_next c g ≡ Some h → group_size h ≡ 0
next_size c Ungrouped h e =
    cond_both (nat_lt 0 c && nat_lt c 38) (Some (Grouped 0)) None (λ (o : Option Groups). o ≡ Some h → group_size h ≡ 0) (λ _ is. cc) (λ _ is. cc) e
next_size c (Grouped n) h e =
    cond_both (nat_lt 0 n && nat_le (c + n) 38) (Some (Equal n 0)) None (λ (o : Option Groups). o ≡ Some h → group_size h ≡ 0) (λ _ is. cc) (λ _ is. cc) e
next_size c (Equal s n) h e =
    cond_both (n == s && nat_le (c + s) 38) (Some (Equal s 0)) None (λ (o : Option Groups). o ≡ Some h → group_size h ≡ 0) (λ _ is. cc) (λ _ is. cc) e

-- the signs of digits are few
pub record AreFew (d : Digits) : Type 0 where
  pub signs : sign_count d ≤ 38
  pub group : group_size d.groups ≤ sign_count d

pub few_in_group : (d : Digits) → AreFew d → group_size d.groups ≤ 38
few_in_group d few =
    let signs = few.signs in
    let group = few.group in
    omega (arith, signs, group)

pub are_few : (d : Digits) (t : List ℕ) → IsDigits d t → AreFew d
are_few _ _ NoSign = record { signs = omega arith; group = omega arith }
are_few _ _ (Hash d t i part zeros group sign) =
    let below : sign_count d < 38 = ltb-true (sign_count d) 38 sign in
    let few = (are_few d t i).group in
    let more = more_size d.groups in
    record { signs = omega arith; group = omega (arith, few, more) }
are_few _ _ (Zero d t i part group sign) =
    let below : sign_count d < 38 = ltb-true (sign_count d) 38 sign in
    let few = (are_few d t i).group in
    let more = more_size d.groups in
    record { signs = omega arith; group = omega (arith, few, more) }
are_few _ _ (Comma d t g i part e) =
    let few = (are_few d t i).signs in
    let nothing = next_size (sign_count d) d.groups g e in
    record { signs = few; group = omega (arith, nothing) }
are_few _ _ (Point d t i part end) = record { signs = (are_few d t i).signs; group = (are_few d t i).group }
are_few _ _ (ImpliedPoint d t i part end) = record { signs = (are_few d t i).signs; group = (are_few d t i).group }
are_few _ _ (FractionZero d t i part hashes sign) =
    let below : sign_count d < 38 = ltb-true (sign_count d) 38 sign in
    let few = (are_few d t i).group in
    record { signs = omega arith; group = omega (arith, few) }
are_few _ _ (FractionHash d t i part sign) =
    let below : sign_count d < 38 = ltb-true (sign_count d) 38 sign in
    let few = (are_few d t i).group in
    record { signs = omega arith; group = omega (arith, few) }
are_few _ _ (ImpliedZero d t i part sign) =
    let below : sign_count d < 38 = ltb-true (sign_count d) 38 sign in
    let few = (are_few d t i).group in
    record { signs = omega arith; group = omega (arith, few) }
