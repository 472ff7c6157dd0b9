-- Digits that are not complete become so by more zeros.
use Rattle.std.proofs.Common.{◌≡◌, ℕ, ◌+◌, ◌-◌, ◌<◌, ◌≤◌, ◌==◌, true, false, ◌&&◌, nat_lt, nat_le, Option, Some, None, List, [], ◌∷◌, ◌++◌, inl, inr, refl, subst, arith}
use Rattle.std.proofs.lemmas.Bool.{cond_both, cases_Bool, eqb-true, eq-eqb, ltb-true, ltb-false, leb-true, lt-ltb, and_parts, and_from}
use Rattle.dfdl_number_pattern.specs.declared.digits.Part.{Part}
use Rattle.dfdl_number_pattern.specs.declared.digits.Part.TheVariants.{Integer, Fraction, Implied}
use Rattle.dfdl_number_pattern.specs.declared.digits.Groups.{Groups}
use Rattle.dfdl_number_pattern.specs.declared.digits.Groups.TheVariants.{Ungrouped, Grouped, Equal}
use Rattle.dfdl_number_pattern.specs.declared.digits.Digits.{Digits}
use Rattle.dfdl_number_pattern.specs.Digits.{sign_count, group_more, may_group, may_end, group_next, may_sign, is_complete, IsDigits, NoSign, Hash, Zero, Comma, Point, ImpliedPoint, FractionZero, FractionHash, ImpliedZero}
use Rattle.dfdl_number_pattern.specs.Machine.{digit_next}
use Rattle.dfdl_number_pattern.proofs.DigitLaws.{zero_is, fraction_zero_is, implied_zero_is}

-- the last group has room for its signs
abbrev pub GroupFits : Groups → ℕ → Type 0
GroupFits Ungrouped c = c ≤ 38
GroupFits (Grouped n) c = (0 < c) × (c + (1 - n) ≤ 38)
GroupFits (Equal s n) c = (0 < c) × (n ≤ s) × (c + (s - n) ≤ 38)

-- behind the integer part its groups are whole
abbrev pub PartEnded : Part → Groups → Type 0
PartEnded Integer g = Unit {0}
PartEnded Fraction g = may_end g ≡ true
PartEnded Implied g = may_end g ≡ true

more_fits : (g : Groups) (c : ℕ) → may_group g ≡ true → c < 38 → GroupFits g c → GroupFits (group_more g) (c + 1)
more_fits Ungrouped c m r f = omega arith
more_fits (Grouped n) c m r f = (omega arith, omega arith)
more_fits (Equal s n) c m r (some, within, room) =
    let below : n < s = ltb-true n s m in
    (omega arith, omega arith, omega arith)

ended_fits : (g : Groups) (c : ℕ) → may_end g ≡ true → c < 38 → GroupFits g c → GroupFits g (c + 1)
ended_fits Ungrouped c m r f = omega arith
ended_fits (Grouped n) c m r f = let some : 0 < n = ltb-true 0 n m in (omega arith, omega arith)
ended_fits (Equal s n) c m r (some, within, room) = let same : n ≡ s = eqb-true n s m in (omega arith, within, omega arith)

next_fits : (g h : Groups) (c : ℕ) → group_next c g ≡ Some h → GroupFits g c → GroupFits h c
next_fits Ungrouped h c e f =
    cond_both (nat_lt 0 c && nat_lt c 38) (Some (Grouped 0)) None (λ (o : Option Groups). o ≡ Some h → GroupFits h c)
    (λ t is.
    let p = and_parts _ _ t in
    let some : 0 < c = ltb-true 0 c p.0 in
    let below : c < 38 = ltb-true c 38 p.1 in
    let same : Grouped 0 ≡ h = cc in
    let fits : GroupFits (Grouped 0) c = (some, omega arith) in
    subst (λ (x : Groups). GroupFits x c) same fits)
    (λ t is. cc)
    e
next_fits (Grouped n) h c e f =
    cond_both (nat_lt 0 n && nat_le (c + n) 38) (Some (Equal n 0)) None (λ (o : Option Groups). o ≡ Some h → GroupFits h c)
    (λ t is.
    let p = and_parts _ _ t in
    let room : c + n ≤ 38 = leb-true (c + n) 38 p.1 in
    let same : Equal n 0 ≡ h = cc in
    let fits : GroupFits (Equal n 0) c = (f.0, omega arith, omega arith) in
    subst (λ (x : Groups). GroupFits x c) same fits)
    (λ t is. cc)
    e
next_fits (Equal s n) h c e f =
    cond_both (n == s && nat_le (c + s) 38) (Some (Equal s 0)) None (λ (o : Option Groups). o ≡ Some h → GroupFits h c)
    (λ t is.
    let p = and_parts _ _ t in
    let room : c + s ≤ 38 = leb-true (c + s) 38 p.1 in
    let same : Equal s 0 ≡ h = cc in
    let fits : GroupFits (Equal s 0) c = (f.0, omega arith, omega arith) in
    subst (λ (x : Groups). GroupFits x c) same fits)
    (λ t is. cc)
    e

-- what is known of digits
pub record Knows (d : Digits) : Type 0 where
  pub fits : GroupFits d.groups (sign_count d)
  pub ended : PartEnded d.part d.groups

counted : (g : Groups) (m n : ℕ) → m ≡ n → GroupFits g m → GroupFits g n
counted g m n e f = subst (λ (k : ℕ). GroupFits g k) e f

in_integer : (p : Part) (g : Groups) → p ≡ Integer → PartEnded p g
in_integer Integer g e = tt
in_integer Fraction g e = cc
in_integer Implied g e = cc

pub knows : (d : Digits) (t : List ℕ) → IsDigits d t → Knows d
knows _ _ NoSign = record { fits = omega arith; ended = tt }
knows _ _ (Hash d t i part zeros group sign) =
    let below : sign_count d < 38 = ltb-true (sign_count d) 38 sign in
    record { fits = counted _ (sign_count d + 1) _ (omega arith) (more_fits d.groups (sign_count d) group below (knows d t i).fits); ended = in_integer d.part _ part }
knows _ _ (Zero d t i part group sign) =
    let below : sign_count d < 38 = ltb-true (sign_count d) 38 sign in
    record { fits = counted _ (sign_count d + 1) _ (omega arith) (more_fits d.groups (sign_count d) group below (knows d t i).fits); ended = in_integer d.part _ part }
knows _ _ (Comma d t g i part e) = record { fits = next_fits d.groups g (sign_count d) e (knows d t i).fits; ended = in_integer d.part _ part }
knows _ _ (Point d t i part end) = record { fits = (knows d t i).fits; ended = end }
knows _ _ (ImpliedPoint d t i part end) = record { fits = (knows d t i).fits; ended = end }
knows _ _ (FractionZero d t i part hashes sign) =
    let k = knows d t i in
    let below : sign_count d < 38 = ltb-true (sign_count d) 38 sign in
    let end : may_end d.groups ≡ true = subst (λ (p : Part). PartEnded p d.groups) part k.ended in
    record { fits = counted _ (sign_count d + 1) _ (omega arith) (ended_fits d.groups (sign_count d) end below k.fits); ended = k.ended }
knows _ _ (FractionHash d t i part sign) =
    let k = knows d t i in
    let below : sign_count d < 38 = ltb-true (sign_count d) 38 sign in
    let end : may_end d.groups ≡ true = subst (λ (p : Part). PartEnded p d.groups) part k.ended in
    record { fits = counted _ (sign_count d + 1) _ (omega arith) (ended_fits d.groups (sign_count d) end below k.fits); ended = k.ended }
knows _ _ (ImpliedZero d t i part sign) =
    let k = knows d t i in
    let below : sign_count d < 38 = ltb-true (sign_count d) 38 sign in
    let end : may_end d.groups ≡ true = subst (λ (p : Part). PartEnded p d.groups) part k.ended in
    record { fits = counted _ (sign_count d + 1) _ (omega arith) (ended_fits d.groups (sign_count d) end below k.fits); ended = k.ended }

-- how many signs the group, or the whole, still wants
abbrev pub need : Groups → ℕ → ℕ
need Ungrouped c = 1 - c
need (Grouped n) c = 1 - n
need (Equal s n) c = s - n

record Lacks (g : Groups) (c : ℕ) : Type 0 where
  group : may_group g ≡ true
  sign : c < 38
  less : need (group_more g) (c + 1) < need g c

lacks : (g : Groups) (c : ℕ) → (nat_lt 0 c && may_end g) ≡ false → GroupFits g c → Lacks g c
lacks Ungrouped c e f =
    elim (cases_Bool (nat_lt 0 c)) [
      | inl h ↦ let all : (nat_lt 0 c && true) ≡ true = and_from _ _ h refl in cc
      | inr h ↦ let nothing : c ≤ 0 = ltb-false 0 c h in record { group = refl; sign = omega arith; less = omega arith }
    ]
lacks (Grouped n) c e f =
    elim (cases_Bool (nat_lt 0 n)) [
      | inl h ↦ let all : (nat_lt 0 c && nat_lt 0 n) ≡ true = and_from _ _ (lt-ltb 0 c f.0) h in cc
      | inr h ↦
          let nothing : n ≤ 0 = ltb-false 0 n h in
          let below : n < 38 = omega arith in
          record { group = lt-ltb n 38 below; sign = omega arith; less = omega arith }
    ]
lacks (Equal s n) c e (some, within, room) =
    elim (cases_Bool (nat_lt n s)) [
      | inl h ↦ let below : n < s = ltb-true n s h in record { group = h; sign = omega arith; less = omega arith }
      | inr h ↦
          let above : s ≤ n = ltb-false n s h in
          let same : n ≡ s = omega arith in
          let all : (nat_lt 0 c && n == s) ≡ true = and_from _ _ (lt-ltb 0 c some) (eq-eqb n s same) in
          cc
    ]

no_sign : (g : Groups) (c : ℕ) → (nat_lt 0 c && may_end g) ≡ false → may_end g ≡ true → c ≡ 0
no_sign g c e end =
    elim (cases_Bool (nat_lt 0 c)) [
      | inl h ↦ let all : (nat_lt 0 c && may_end g) ≡ true = and_from _ _ h end in cc
      | inr h ↦ let nothing : c ≤ 0 = ltb-false 0 c h in omega arith
    ]

-- one zero more
pub record Grows (d : Digits) (t : List ℕ) : Type 0 where
  pub next : Digits
  pub is : digit_next d 48 ≡ Some next
  pub are : IsDigits next (t ++ 48 ∷ [])
  pub less : is_complete next ≡ false → need next.groups (sign_count next) < need d.groups (sign_count d)

grows_at : (p : Part) (d : Digits) (t : List ℕ) → d.part ≡ p → IsDigits d t → is_complete d ≡ false → Grows d t
grows_at Integer d t part i e =
    let k = knows d t i in
    let l = lacks d.groups (sign_count d) e k.fits in
    let sign : may_sign d ≡ true = lt-ltb (sign_count d) 38 l.sign in
    let next : Digits = record d { zeros = d.zeros + 1; groups = group_more d.groups } in
    let more : sign_count d + 1 ≡ sign_count next = omega arith in
    record {
      next = next;
      is = zero_is d part l.group sign;
      are = Zero d t i part l.group sign;
      less = λ _. subst (λ (n : ℕ). need (group_more d.groups) n < need d.groups (sign_count d)) more l.less;
    }
grows_at Fraction d t part i e =
    let k = knows d t i in
    let end : may_end d.groups ≡ true = subst (λ (p : Part). PartEnded p d.groups) part k.ended in
    let nothing : sign_count d ≡ 0 = no_sign d.groups (sign_count d) e end in
    let below : sign_count d < 38 = omega arith in
    let sign : may_sign d ≡ true = lt-ltb (sign_count d) 38 below in
    let hashes : d.fraction_hashes ≡ 0 = omega arith in
    let next : Digits = record d { fraction_zeros = d.fraction_zeros + 1 } in
    let some : 0 < sign_count next = omega arith in
    let whole : is_complete next ≡ true = and_from _ _ (lt-ltb 0 (sign_count next) some) end in
    record { next = next; is = fraction_zero_is d part hashes sign; are = FractionZero d t i part hashes sign; less = λ f. cc }
grows_at Implied d t part i e =
    let k = knows d t i in
    let end : may_end d.groups ≡ true = subst (λ (p : Part). PartEnded p d.groups) part k.ended in
    let nothing : sign_count d ≡ 0 = no_sign d.groups (sign_count d) e end in
    let below : sign_count d < 38 = omega arith in
    let sign : may_sign d ≡ true = lt-ltb (sign_count d) 38 below in
    let next : Digits = record d { implied = d.implied + 1 } in
    let some : 0 < sign_count next = omega arith in
    let whole : is_complete next ≡ true = and_from _ _ (lt-ltb 0 (sign_count next) some) end in
    record { next = next; is = implied_zero_is d part sign; are = ImpliedZero d t i part sign; less = λ f. cc }

pub grows : (d : Digits) (t : List ℕ) → IsDigits d t → is_complete d ≡ false → Grows d t
grows d t i e = grows_at d.part d t refl i e
