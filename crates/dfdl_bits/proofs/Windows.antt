-- The bytes that are held, in a part of a buffer.
use Rattle.std.proofs.Common.{◌≡◌, ℕ, ◌+◌, ◌-◌, ◌<◌, ◌≤◌, ◌⊎◌, inl, inr, refl, min, length, get_or, drop, Bool, cond, leb, ltb, true, false, ◌∙◌, arith, length-take, length-drop}
use Rattle.std.proofs.lemmas.List.{get_or-take, get_or-drop}
use Rattle.std.proofs.lemmas.Bool.{lt-ltb}
use Rattle.std.proofs.lemmas.Bool.Decides.{nat_tests}
use Rattle.dfdl_bits.specs.Window.{Held, seen_at, run_at}
use Rattle.dfdl_bits.specs.declared.window.Seen.TheVariants.{Byte, End, NotYet, Over}

-- each byte of a run is what a look sees there
pub run_seen : (held : Held) (k most i : ℕ) → held.base ≤ k → i < length (run_at held k most)
    → seen_at held (k + i) ≡ Byte (get_or (run_at held k most) i 0)
run_seen held k most i base within =
    let few : ℕ = min most (held.size - (k - held.base)) in
    let place : k + i - held.base ≡ k - held.base + i = omega arith in
    let size : i < length (drop (k - held.base) held.bytes) = omega (arith, length-take few (drop (k - held.base) held.bytes)) in
    let near : i < few = omega (arith, length-take few (drop (k - held.base) held.bytes)) in
    let inside : k - held.base + i < length held.bytes = omega (arith, length-drop (k - held.base) held.bytes) in
    let is_byte : get_or (run_at held k most) i 0 ≡ get_or held.bytes (k - held.base + i) 0 =
    get_or-take few _ i 0 near ∙ get_or-drop (k - held.base) held.bytes i 0 in
    let seen : k - held.base + i < held.size = omega arith in
    let over : leb held.size (k - held.base + i) ≡ false = grind (arith, nat_tests) in
    rw (place, is_byte, over, lt-ltb _ _ inside) refl

-- no byte is seen where none is held, or it lies too far
no_byte : (over inside ended : Bool) (byte b : ℕ) → (over ≡ true) ⊎ (inside ≡ false)
    → cond over Over (cond inside (Byte byte) (cond ended End NotYet)) ≡ Byte b → ⊥
no_byte true inside ended byte b none seen = absurd (cc)
no_byte false true ended byte b (inl far) seen = absurd (cc)
no_byte false true ended byte b (inr none) seen = absurd (cc)
no_byte false false true byte b none seen = absurd (cc)
no_byte false false false byte b none seen = absurd (cc)

-- a place at which no byte is held unless it lies too far
past : (size place count : ℕ) → (place < size → count ≤ place) → (leb size place ≡ true) ⊎ (ltb place count ≡ false)
past size place count behind = by (leb size place) refl
  where
    by : (far : Bool) → leb size place ≡ far → (leb size place ≡ true) ⊎ (ltb place count ≡ false)
    by true is = inl is
    by false is =
        let near : place < size = grind (arith, nat_tests) in
        let none : count ≤ place = behind near in
        inr (grind (arith, nat_tests))

-- behind a run that is shorter than asked no byte is seen
pub run_ends : (held : Held) (k most b : ℕ) → held.base ≤ k → length (run_at held k most) < most
    → seen_at held (k + length (run_at held k most)) ≡ Byte b → ⊥
run_ends held k most b base short seen =
    let size = length-take (min most (held.size - (k - held.base))) (drop (k - held.base) held.bytes) in
    let left = length-drop (k - held.base) held.bytes in
    let place : ℕ = k + length (run_at held k most) - held.base in
    no_byte (leb held.size place) (ltb place (length held.bytes)) held.ended (get_or held.bytes place 0) b
    (past held.size place (length held.bytes) (λ near. omega (arith, near))) seen
