-- Digits go on by a byte as the machine does.
use Rattle.std.proofs.Common.{◌≡◌, ℕ, ◌+◌, ◌<◌, ◌==◌, true, false, ◌&&◌, if◌then◌else◌, Option, Some, None, List, [], ◌∷◌, ◌++◌, refl, ap, sym, subst, ◌∙◌, arith}
use Rattle.std.specs.Option.{IfSome}
use Rattle.std.proofs.lemmas.Bool.{cond_both, eqb-true, eq-eqb, and_parts, and_from}
use Rattle.dfdl_number_pattern.specs.declared.quote.Quote.{Quote}
use Rattle.dfdl_number_pattern.specs.declared.quote.Quote.TheVariants.{Bare, AfterC2, AfterE2, AfterE280, Opened, Quoted, Closed}
use Rattle.dfdl_number_pattern.specs.declared.digits.Part.{Part}
use Rattle.dfdl_number_pattern.specs.declared.digits.Part.TheVariants.{Integer, Fraction, Implied}
use Rattle.dfdl_number_pattern.specs.declared.digits.Groups.{Groups}
use Rattle.dfdl_number_pattern.specs.declared.digits.Digits.{Digits}
use Rattle.dfdl_number_pattern.specs.Affix.{is_plain, is_whole}
use Rattle.dfdl_number_pattern.specs.Digits.{none, sign_count, group_more, may_group, may_end, group_next, may_sign, IsDigits, NoSign, Hash, Zero, Comma, Point, ImpliedPoint, FractionZero, FractionHash, ImpliedZero}
use Rattle.dfdl_number_pattern.specs.Machine.{quote_next, hash_next, zero_next, with_groups, comma_next, part_next, integer_next, fraction_next, implied_next, digit_of, digit_next}
use Rattle.dfdl_number_pattern.proofs.Affixes.{if_true}

-- the digits go on where the machine does
abbrev GoesOn : Option Digits → List ℕ → ℕ → Type 0
GoesOn o t b = IfSome o (λ e. IsDigits e (t ++ b ∷ []))

at_byte : (o : Option Digits) (t : List ℕ) (b c : ℕ) → (b == c) ≡ true → GoesOn o t c → GoesOn o t b
at_byte o t b c e g = subst (λ (d : ℕ). GoesOn o t d) (sym (eqb-true b c e)) g

module _ (d : Digits) (t : List ℕ) (i : IsDigits d t) where
  hash_goes : d.part ≡ Integer → GoesOn (hash_next d) t 35
  hash_goes part =
      cond_both ((d.zeros == 0 && may_group d.groups) && may_sign d) (Some (record d { hashes = d.hashes + 1; groups = group_more d.groups })) None (λ (o : Option Digits). GoesOn o t 35)
      (λ h. let p = and_parts _ _ h in let q = and_parts _ _ p.0 in Hash d t i part (eqb-true _ _ q.0) q.1 p.1)
      (λ h. tt)

  zero_goes : d.part ≡ Integer → GoesOn (zero_next d) t 48
  zero_goes part =
      cond_both (may_group d.groups && may_sign d) (Some (record d { zeros = d.zeros + 1; groups = group_more d.groups })) None (λ (o : Option Digits). GoesOn o t 48)
      (λ h. let p = and_parts _ _ h in Zero d t i part p.0 p.1)
      (λ h. tt)

  comma_case : d.part ≡ Integer → (o : Option Groups) → group_next (sign_count d) d.groups ≡ o → GoesOn (with_groups o d) t 44
  comma_case part None e = tt
  comma_case part (Some g) e = Comma d t g i part e

  point_goes : d.part ≡ Integer → GoesOn (part_next Fraction d) t 46
  point_goes part =
      cond_both (may_end d.groups) (Some (record d { part = Fraction })) None (λ (o : Option Digits). GoesOn o t 46) (λ h. Point d t i part h) (λ h. tt)

  implied_goes : d.part ≡ Integer → GoesOn (part_next Implied d) t 86
  implied_goes part =
      cond_both (may_end d.groups) (Some (record d { part = Implied })) None (λ (o : Option Digits). GoesOn o t 86) (λ h. ImpliedPoint d t i part h) (λ h. tt)

  integer_goes : (b : ℕ) → d.part ≡ Integer → GoesOn (integer_next d b) t b
  unfolding integer_next
  integer_goes b part =
      cond_both (b == 35) (hash_next d) _ (λ (o : Option Digits). GoesOn o t b) (λ e. at_byte _ t b 35 e (hash_goes part))
      (λ _. cond_both (b == 48) (zero_next d) _ (λ (o : Option Digits). GoesOn o t b) (λ e. at_byte _ t b 48 e (zero_goes part))
      (λ _. cond_both (b == 44) (comma_next d) _ (λ (o : Option Digits). GoesOn o t b) (λ e. at_byte _ t b 44 e (comma_case part (group_next (sign_count d) d.groups) refl))
      (λ _. cond_both (b == 46) (part_next Fraction d) _ (λ (o : Option Digits). GoesOn o t b) (λ e. at_byte _ t b 46 e (point_goes part))
      (λ _. cond_both (b == 86) (part_next Implied d) None (λ (o : Option Digits). GoesOn o t b) (λ e. at_byte _ t b 86 e (implied_goes part)) (λ _. tt)))))

  fraction_goes : (b : ℕ) → d.part ≡ Fraction → GoesOn (fraction_next d b) t b
  unfolding fraction_next
  fraction_goes b part =
      cond_both (b == 48) (if d.fraction_hashes == 0 && may_sign d then Some (record d { fraction_zeros = d.fraction_zeros + 1 }) else None) _ (λ (o : Option Digits). GoesOn o t b)
      (λ e. at_byte _ t b 48 e
      (cond_both (d.fraction_hashes == 0 && may_sign d) (Some (record d { fraction_zeros = d.fraction_zeros + 1 })) None (λ (o : Option Digits). GoesOn o t 48)
      (λ h. let p = and_parts _ _ h in FractionZero d t i part (eqb-true _ _ p.0) p.1)
      (λ h. tt)))
      (λ _. cond_both (b == 35 && may_sign d) (Some (record d { fraction_hashes = d.fraction_hashes + 1 })) None (λ (o : Option Digits). GoesOn o t b)
      (λ h. let p = and_parts _ _ h in at_byte (Some (record d { fraction_hashes = d.fraction_hashes + 1 })) t b 35 p.0 (FractionHash d t i part p.1))
      (λ _. tt))

  implied_part_goes : (b : ℕ) → d.part ≡ Implied → GoesOn (implied_next d b) t b
  unfolding implied_next
  implied_part_goes b part =
      cond_both (b == 48 && may_sign d) (Some (record d { implied = d.implied + 1 })) None (λ (o : Option Digits). GoesOn o t b)
      (λ h. let p = and_parts _ _ h in at_byte (Some (record d { implied = d.implied + 1 })) t b 48 p.0 (ImpliedZero d t i part p.1))
      (λ _. tt)

  of_goes : (p : Part) (b : ℕ) → d.part ≡ p → GoesOn (digit_of p d b) t b
  of_goes Integer b part = integer_goes b part
  of_goes Fraction b part = fraction_goes b part
  of_goes Implied b part = implied_part_goes b part

  pub digit_goes : (b : ℕ) → IfSome (digit_next d b) (λ e. IsDigits e (t ++ b ∷ []))
  digit_goes b = of_goes d.part b refl

-- a byte of the digits: it is ASCII, no affix goes on by it where it may end, and it is no `;`
pub record IsSign (b : ℕ) : Type 0 where
  pub low : b < 128
  pub apart : (q : Quote) → is_whole q ≡ true → quote_next q b ≡ None
  pub divides_not : (b == 59) ≡ false

apart_by : (b : ℕ) → quote_next Bare b ≡ None → quote_next Closed b ≡ None → (q : Quote) → is_whole q ≡ true → quote_next q b ≡ None
apart_by b x y Bare h = x
apart_by b x y Closed h = y
apart_by b x y AfterC2 h = cc
apart_by b x y AfterE2 h = cc
apart_by b x y AfterE280 h = cc
apart_by b x y Opened h = cc
apart_by b x y Quoted h = cc

hash_sign : IsSign 35
unfolding quote_next is_plain
hash_sign = record { low = omega arith; apart = apart_by 35 refl refl; divides_not = refl }

pub zero_sign : IsSign 48
unfolding quote_next is_plain
zero_sign = record { low = omega arith; apart = apart_by 48 refl refl; divides_not = refl }

comma_sign : IsSign 44
unfolding quote_next is_plain
comma_sign = record { low = omega arith; apart = apart_by 44 refl refl; divides_not = refl }

point_sign : IsSign 46
unfolding quote_next is_plain
point_sign = record { low = omega arith; apart = apart_by 46 refl refl; divides_not = refl }

implied_sign : IsSign 86
unfolding quote_next is_plain
implied_sign = record { low = omega arith; apart = apart_by 86 refl refl; divides_not = refl }

-- no affix goes on by a `;` where it may end
pub divider_apart : (q : Quote) → is_whole q ≡ true → quote_next q 59 ≡ None
unfolding quote_next is_plain
divider_apart q h = apart_by 59 refl refl q h

hash_is : (d : Digits) → d.part ≡ Integer → d.zeros ≡ 0 → may_group d.groups ≡ true → may_sign d ≡ true
    → digit_next d 35 ≡ Some (record d { hashes = d.hashes + 1; groups = group_more d.groups })
unfolding integer_next
hash_is d part zeros group sign =
    ap (λ (p : Part). digit_of p d 35) part ∙ if_true ((d.zeros == 0 && may_group d.groups) && may_sign d) _ _ (and_from _ _ (and_from _ _ (eq-eqb _ _ zeros) group) sign)

pub zero_is : (d : Digits) → d.part ≡ Integer → may_group d.groups ≡ true → may_sign d ≡ true
    → digit_next d 48 ≡ Some (record d { zeros = d.zeros + 1; groups = group_more d.groups })
unfolding integer_next
zero_is d part group sign = ap (λ (p : Part). digit_of p d 48) part ∙ if_true (may_group d.groups && may_sign d) _ _ (and_from _ _ group sign)

comma_is : (d : Digits) (g : Groups) → d.part ≡ Integer → group_next (sign_count d) d.groups ≡ Some g → digit_next d 44 ≡ Some (record d { groups = g })
unfolding integer_next
comma_is d g part e = ap (λ (p : Part). digit_of p d 44) part ∙ ap (λ (o : Option Groups). with_groups o d) e

point_is : (d : Digits) → d.part ≡ Integer → may_end d.groups ≡ true → digit_next d 46 ≡ Some (record d { part = Fraction })
unfolding integer_next
point_is d part end = ap (λ (p : Part). digit_of p d 46) part ∙ if_true (may_end d.groups) _ _ end

implied_is : (d : Digits) → d.part ≡ Integer → may_end d.groups ≡ true → digit_next d 86 ≡ Some (record d { part = Implied })
unfolding integer_next
implied_is d part end = ap (λ (p : Part). digit_of p d 86) part ∙ if_true (may_end d.groups) _ _ end

pub fraction_zero_is : (d : Digits) → d.part ≡ Fraction → d.fraction_hashes ≡ 0 → may_sign d ≡ true
    → digit_next d 48 ≡ Some (record d { fraction_zeros = d.fraction_zeros + 1 })
unfolding fraction_next
fraction_zero_is d part hashes sign =
    ap (λ (p : Part). digit_of p d 48) part ∙ if_true (d.fraction_hashes == 0 && may_sign d) _ _ (and_from _ _ (eq-eqb _ _ hashes) sign)

fraction_hash_is : (d : Digits) → d.part ≡ Fraction → may_sign d ≡ true → digit_next d 35 ≡ Some (record d { fraction_hashes = d.fraction_hashes + 1 })
unfolding fraction_next
fraction_hash_is d part sign = ap (λ (p : Part). digit_of p d 35) part ∙ if_true (may_sign d) _ _ sign

pub implied_zero_is : (d : Digits) → d.part ≡ Implied → may_sign d ≡ true → digit_next d 48 ≡ Some (record d { implied = d.implied + 1 })
unfolding implied_next
implied_zero_is d part sign = ap (λ (p : Part). digit_of p d 48) part ∙ if_true (may_sign d) _ _ sign

-- what holds of no signs and is kept by each step holds of digits
module _ (P : Digits → List ℕ → Type 0) (base : P none [])
    (goes : (d e : Digits) (t : List ℕ) (b : ℕ) → IsSign b → digit_next d b ≡ Some e → P d t → P e (t ++ b ∷ [])) where
  pub digits_keep : (d : Digits) (t : List ℕ) → IsDigits d t → P d t
  digits_keep _ _ NoSign = base
  digits_keep _ _ (Hash d t i part zeros group sign) = goes d _ t 35 hash_sign (hash_is d part zeros group sign) (digits_keep d t i)
  digits_keep _ _ (Zero d t i part group sign) = goes d _ t 48 zero_sign (zero_is d part group sign) (digits_keep d t i)
  digits_keep _ _ (Comma d t g i part e) = goes d _ t 44 comma_sign (comma_is d g part e) (digits_keep d t i)
  digits_keep _ _ (Point d t i part end) = goes d _ t 46 point_sign (point_is d part end) (digits_keep d t i)
  digits_keep _ _ (ImpliedPoint d t i part end) = goes d _ t 86 implied_sign (implied_is d part end) (digits_keep d t i)
  digits_keep _ _ (FractionZero d t i part hashes sign) = goes d _ t 48 zero_sign (fraction_zero_is d part hashes sign) (digits_keep d t i)
  digits_keep _ _ (FractionHash d t i part sign) = goes d _ t 35 hash_sign (fraction_hash_is d part sign) (digits_keep d t i)
  digits_keep _ _ (ImpliedZero d t i part sign) = goes d _ t 48 zero_sign (implied_zero_is d part sign) (digits_keep d t i)
