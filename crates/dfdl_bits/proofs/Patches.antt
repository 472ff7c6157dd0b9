-- A byte some of whose bits are replaced.
use Rattle.std.proofs.Common.{◌≡◌, ℕ, ◌+◌, ◌-◌, ◌*◌, ◌/◌, ◌%◌, ◌^◌, ◌<◌, ◌≤◌, bit_and, bit_or, ap, sym, ◌∙◌, arith}
use Rattle.std.specs.Int.{bit_at}
use Rattle.std.proofs.lemmas.Nat.{pow_pos, pow-add, mod_below, shr_below, shr_high, mod_low, shr_split, mul-add-lt}
use Rattle.std.proofs.lemmas.Nat.Bits.{bit_at_cat_low, bit_at_cat_high}
use Rattle.dfdl_bits.specs.Bits.{patched}
use Rattle.dfdl_bits.proofs.Shifts.{and_low, shl_or}

module _ (byte low len part : ℕ) (is_byte : byte < 2 ^ 8) (inside : low + len ≤ 8) (fits : part < 2 ^ len) where
  -- the bits from the place low on
  front : byte / 2 ^ (low + len) * 2 ^ len + part < 2 ^ (8 - low)
  front =
      let size : 8 - (low + len) + (low + len) ≡ 8 = omega arith in
      let high : byte / 2 ^ (low + len) < 2 ^ (8 - (low + len)) =
      shr_below byte (8 - (low + len)) (low + len) (rw size is_byte) in
      let all : 2 ^ len * 2 ^ (8 - (low + len)) ≡ 2 ^ (8 - low) =
      sym (pow-add 2 len (8 - (low + len))) ∙ ap (λ (e : ℕ). 2 ^ e) (omega arith) in
      rw (← all) (mul-add-lt (byte / 2 ^ (low + len)) (2 ^ len) part (2 ^ (8 - (low + len))) high fits)

  pub patched-lt : patched byte low len part < 2 ^ 8
  unfolding patched
  patched-lt =
      let size : low + (8 - low) ≡ 8 = omega arith in
      let all : 2 ^ low * 2 ^ (8 - low) ≡ 2 ^ 8 = sym (pow-add 2 low (8 - low)) ∙ ap (λ (e : ℕ). 2 ^ e) size in
      rw (← all)
      (mul-add-lt (byte / 2 ^ (low + len) * 2 ^ len + part) (2 ^ low) (byte % 2 ^ low) (2 ^ (8 - low)) front (mod_below byte (2 ^ low) (pow_pos low)))

  -- as it is computed
  pub patched_is : bit_or (bit_or (byte / 2 ^ (low + len) * 2 ^ len % 2 ^ 32) part * 2 ^ low % 2 ^ 32) (bit_and byte (1 * 2 ^ low % 2 ^ 32 - 1))
      ≡ patched byte low len part
  unfolding patched
  patched_is =
      let size : 8 - (low + len) + (low + len) ≡ 8 = omega arith in
      let high : byte / 2 ^ (low + len) < 2 ^ (8 - (low + len)) =
      shr_below byte (8 - (low + len)) (low + len) (rw size is_byte) in
      let inner : bit_or (byte / 2 ^ (low + len) * 2 ^ len % 2 ^ 32) part ≡ byte / 2 ^ (low + len) * 2 ^ len + part =
      shl_or 32 (byte / 2 ^ (low + len)) (8 - (low + len)) len part high (omega arith) fits in
      let mask : bit_and byte (1 * 2 ^ low % 2 ^ 32 - 1) ≡ byte % 2 ^ low = and_low 32 byte low (omega arith) in
      rw (inner, mask)
      (shl_or 32 (byte / 2 ^ (low + len) * 2 ^ len + part) (8 - low) low (byte % 2 ^ low) front (omega arith) (mod_below byte (2 ^ low) (pow_pos low)))

module _ (byte low len part : ℕ) (fits : part < 2 ^ len) where
  -- the bits that are replaced
  pub patched_part : patched byte low len part / 2 ^ low % 2 ^ len ≡ part
  unfolding patched
  patched_part =
      rw (shr_high (byte / 2 ^ (low + len) * 2 ^ len + part) low (byte % 2 ^ low) (mod_below byte (2 ^ low) (pow_pos low)))
      (mod_low (byte / 2 ^ (low + len)) len part fits)

  -- the other bits stay
  pub patched_below : (p : ℕ) → p < low → bit_at (patched byte low len part) p ≡ bit_at byte p
  unfolding patched
  patched_below p h =
      bit_at_cat_low (byte / 2 ^ (low + len) * 2 ^ len + part) low (byte % 2 ^ low) p h
      ∙ sym (ap (λ (n : ℕ). bit_at n p) (sym (shr_split byte low)) ∙ bit_at_cat_low (byte / 2 ^ low) low (byte % 2 ^ low) p h)

  pub patched_above : (p : ℕ) → low + len ≤ p → bit_at (patched byte low len part) p ≡ bit_at byte p
  unfolding patched
  patched_above p h =
      let apart : p - low - len ≡ p - (low + len) = omega arith in
      bit_at_cat_high (byte / 2 ^ (low + len) * 2 ^ len + part) low (byte % 2 ^ low) p (mod_below byte (2 ^ low) (pow_pos low)) (omega arith)
      ∙ bit_at_cat_high (byte / 2 ^ (low + len)) len part (p - low) fits (omega arith)
      ∙ rw apart
      (sym (ap (λ (n : ℕ). bit_at n p) (sym (shr_split byte (low + len)))
      ∙ bit_at_cat_high (byte / 2 ^ (low + len)) (low + len) (byte % 2 ^ (low + len)) p (mod_below byte (2 ^ (low + len)) (pow_pos (low + len))) h))
