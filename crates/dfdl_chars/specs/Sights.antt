-- Looks that see given bytes, and characters that stand one after the other.
use Rattle.std.specs.Prelude.{◌≡◌, ℕ, ◌+◌, ◌*◌, ◌<◌, ◌≤◌, List, [], ◌∷◌, length, slice_index}
use Rattle.dfdl_bits.specs.declared.window.Seen.TheVariants.{Byte}
use Rattle.dfdl_forms.specs.declared.encoding.Encoding.{Encoding}
use Rattle.dfdl_chars.specs.Decoding.{Boxed, Walk, char_of, decoded_at}

-- looks see these bytes from byte k on, and the box holds them; what stands behind them is open
pub record SeesBytes (box : Boxed) (k : ℕ) (bytes : List ℕ) : Type 0 where
  pub seen : (i : ℕ) → i < length bytes → box.look (k + i) ≡ Byte (slice_index bytes i)
  pub inside : 8 * (k + length bytes) ≤ box.stop

-- where a walk is behind so many bytes from byte k on, each of which was looked at once
abbrev pub walked : ℕ → ℕ → Walk → Walk
walked k count walk = record { far = k + count; looks = walk.looks + count }

-- the character of so many bytes stands at byte k: each of them is looked at, and none behind them
abbrev pub StandsAt : Encoding → Boxed → ℕ → ℕ → ℕ → Type 0
StandsAt enc box k c count =
    (walk : Walk) → decoded_at enc box k walk ≡ char_of c count (walked k count walk)

-- the characters stand one after the other from byte k on, and byte `end` is the one behind them
abbrev pub StandFrom : Encoding → Boxed → ℕ → ℕ → List ℕ → Type 0
StandFrom enc box k end [] = k ≡ end
StandFrom enc box k end (c ∷ cs) =
    (count : ℕ) × StandsAt enc box k c count × StandFrom enc box (k + count) end cs
