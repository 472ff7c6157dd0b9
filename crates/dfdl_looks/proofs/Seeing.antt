-- What a window shows of data that it holds a part of.
use Rattle.std.proofs.Common.{◌≡◌, ℕ, ◌+◌, ◌-◌, ◌<◌, ◌≤◌, ◌⊎◌, inl, inr, refl, List, length, get_or, Bool, cond, leb, ltb, true, false, ap, ◌∙◌, arith}
use Rattle.std.proofs.lemmas.Bool.Decides.{nat_tests}
use Rattle.dfdl_bits.specs.Window.{Held, end_of, seen_at}
use Rattle.dfdl_bits.specs.declared.window.Seen.{Seen}
use Rattle.dfdl_bits.specs.declared.window.Seen.TheVariants.{Byte, End, NotYet, Over}
use Rattle.dfdl_looks.specs.Looks.{Agrees, seen_in}

pub true_or_false : (b : Bool) → (b ≡ true) ⊎ (b ≡ false)
true_or_false true = inl refl
true_or_false false = inr refl

-- what is seen at a place, by the three tests of a look and the two ways to find a byte
abbrev pub shown : Bool → Bool → Bool → ℕ → Seen
shown over inside ended byte = cond over Over (cond inside (Byte byte) (cond ended End NotYet))

tests : (held : Held) (whole : List ℕ) → Agrees held whole → (k : ℕ) → held.base ≤ k
    → (o i e : Bool) → leb held.size (k - held.base) ≡ o → ltb (k - held.base) (length held.bytes) ≡ i → held.ended ≡ e
    → (shown o i e (get_or held.bytes (k - held.base) 0) ≡ NotYet)
    ⊎ (cond o Over (cond (ltb k (length whole)) (Byte (get_or whole k 0)) End) ≡ shown o i e (get_or held.bytes (k - held.base) 0))
tests held whole agrees k base true i e over inside ended = inr refl
tests held whole agrees k base false true e over inside ended =
    let place : k - held.base < length held.bytes = grind (arith, nat_tests) in
    let there : held.base + (k - held.base) ≡ k = omega arith in
    let within : ltb k (length whole) ≡ true = let bound = agrees.within in grind (arith, nat_tests) in
    let byte : get_or held.bytes (k - held.base) 0 ≡ get_or whole k 0 = agrees.bytes _ place ∙ ap (λ j. get_or whole j 0) there in
    inr (rw (within, byte) refl)
tests held whole agrees k base false false true over inside ended =
    let all = agrees.all ended in
    let behind : ltb k (length whole) ≡ false = grind (arith, nat_tests) in
    inr (rw behind refl)
tests held whole agrees k base false false false over inside ended = inl refl

-- a look into the window sees what a look at the data sees, unless its byte hasn't come
pub seen_same : (held : Held) (whole : List ℕ) → Agrees held whole → (k : ℕ) → held.base ≤ k
    → (seen_at held k ≡ NotYet) ⊎ (seen_in whole held.size held.base k ≡ seen_at held k)
seen_same held whole agrees k base = tests held whole agrees k base _ _ _ refl refl refl

-- a byte that hasn't come is past the data that have come, taken as whole
pub ends_there : (held : Held) (whole : List ℕ) → Agrees held whole → length whole ≡ end_of held → (k : ℕ) → held.base ≤ k
    → seen_at held k ≡ NotYet → (seen_in whole held.size held.base k ≡ End) × (length whole ≤ k)
ends_there held whole agrees all k base seen = missing _ _ refl refl
  where
    missing : (o i : Bool) → leb held.size (k - held.base) ≡ o → ltb (k - held.base) (length held.bytes) ≡ i
        → (seen_in whole held.size held.base k ≡ End) × (length whole ≤ k)
    missing true i over inside = absurd (cc)
    missing false true over inside = absurd (cc (ap (λ o. cond o Over (cond (ltb (k - held.base) (length held.bytes)) (Byte (get_or held.bytes (k - held.base) 0)) (cond held.ended End NotYet))) over, ap (λ i. cond i (Byte (get_or held.bytes (k - held.base) 0)) (cond held.ended End NotYet)) inside, seen))
    missing false false over inside =
        let behind : length whole ≤ k = grind (arith, nat_tests) in
        let test : ltb k (length whole) ≡ false = grind (arith, nat_tests) in
        (rw (over, test) refl, behind)

-- a byte that is seen, and the end where it was not told: where it lies
pub seen_within : (held : Held) (k byte : ℕ) → held.base ≤ k → seen_at held k ≡ Byte byte → k + 1 ≤ end_of held
seen_within held k byte base seen = inside _ _ _ refl refl refl
  where
    inside : (o i e : Bool) → leb held.size (k - held.base) ≡ o → ltb (k - held.base) (length held.bytes) ≡ i → held.ended ≡ e → k + 1 ≤ end_of held
    inside o true e over is ended = grind (arith, nat_tests)
    inside true false e over is ended = absurd (cc)
    inside false false true over is ended = absurd (cc (ap (λ o. cond o Over (cond (ltb (k - held.base) (length held.bytes)) (Byte (get_or held.bytes (k - held.base) 0)) (cond held.ended End NotYet))) over, ap (λ i. cond i (Byte (get_or held.bytes (k - held.base) 0)) (cond held.ended End NotYet)) is, ap (λ e. cond e End NotYet) ended, seen))
    inside false false false over is ended = absurd (cc (ap (λ o. cond o Over (cond (ltb (k - held.base) (length held.bytes)) (Byte (get_or held.bytes (k - held.base) 0)) (cond held.ended End NotYet))) over, ap (λ i. cond i (Byte (get_or held.bytes (k - held.base) 0)) (cond held.ended End NotYet)) is, ap (λ e. cond e End NotYet) ended, seen))

-- no end is seen where it was not told
pub no_end : (held : Held) (k : ℕ) → held.ended ≡ false → seen_at held k ≡ End → ⊥
no_end held k ended seen = apart _ _ _ refl refl ended seen
  where
    apart : (o i e : Bool) → leb held.size (k - held.base) ≡ o → ltb (k - held.base) (length held.bytes) ≡ i → e ≡ false
        → shown o i e (get_or held.bytes (k - held.base) 0) ≡ End → ⊥
    apart true i e over is ended at = absurd (cc)
    apart false true e over is ended at = absurd (cc)
    apart false false true over is ended at = absurd (cc)
    apart false false false over is ended at = absurd (cc)
