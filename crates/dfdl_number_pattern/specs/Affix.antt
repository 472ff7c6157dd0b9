-- The prefix or the suffix of a number pattern: what it means, and how it is spelled.
use Rattle.std.specs.Prelude.{◌≡◌, ℕ, ◌==◌, Bool, true, false, nat_le, ◌||◌, ◌&&◌, not, List, [], ◌∷◌, ◌++◌}
use Rattle.dfdl_number_pattern.specs.declared.quote.Quote.{Quote}
use Rattle.dfdl_number_pattern.specs.declared.quote.Quote.TheVariants.{Bare, AfterC2, AfterE2, AfterE280, Opened, Quoted, Closed}

-- a digit, or one of `#` `,` `.` `V` `P` `;` `E` `@` `*` `%`
abbrev pub is_special : ℕ → Bool
is_special b =
    (nat_le 48 b && nat_le b 57)
    || (b == 35 || (b == 44 || (b == 46 || (b == 86 || (b == 80 || (b == 59 || (b == 69 || (b == 64 || (b == 42 || b == 37)))))))))

-- the byte stands for itself outside of quotes
unfoldable pub is_plain : ℕ → Bool
is_plain b = not (is_special b)

-- a prefix or a suffix may end here
abbrev pub is_whole : Quote → Bool
is_whole Bare = true
is_whole Closed = true
is_whole _ = false

-- A front of an affix, which stands at this place, means the first list of bytes and is spelled as the second.
-- Outside of quoted text each character stands for itself, but for the special ones, U+00A4 (C2 A4) and U+2030
-- (E2 80 B0). Between apostrophes any text stands for itself. Two apostrophes are one, in quoted text and outside.
pub data IsAffix : Quote → List ℕ → List ℕ → Type 0 where
  Nothing : IsAffix Bare [] []
  Plain : (q : Quote) (w t : List ℕ) (b : ℕ) → IsAffix q w t → is_whole q ≡ true → (b == 39) ≡ false → (b == 194) ≡ false → (b == 226) ≡ false → is_plain b ≡ true → IsAffix Bare (w ++ b ∷ []) (t ++ b ∷ [])
  LeadC2 : (q : Quote) (w t : List ℕ) → IsAffix q w t → is_whole q ≡ true → IsAffix AfterC2 (w ++ 194 ∷ []) (t ++ 194 ∷ [])
  LeadE2 : (q : Quote) (w t : List ℕ) → IsAffix q w t → is_whole q ≡ true → IsAffix AfterE2 (w ++ 226 ∷ []) (t ++ 226 ∷ [])
  OtherC2 : (w t : List ℕ) (b : ℕ) → IsAffix AfterC2 w t → (b == 39) ≡ false → (b == 164) ≡ false → IsAffix Bare (w ++ b ∷ []) (t ++ b ∷ [])
  OtherE2 : (w t : List ℕ) (b : ℕ) → IsAffix AfterE2 w t → (b == 39) ≡ false → (b == 128) ≡ false → IsAffix Bare (w ++ b ∷ []) (t ++ b ∷ [])
  LeadE280 : (w t : List ℕ) → IsAffix AfterE2 w t → IsAffix AfterE280 (w ++ 128 ∷ []) (t ++ 128 ∷ [])
  OtherE280 : (w t : List ℕ) (b : ℕ) → IsAffix AfterE280 w t → (b == 39) ≡ false → (b == 176) ≡ false → IsAffix Bare (w ++ b ∷ []) (t ++ b ∷ [])
  Open : (w t : List ℕ) → IsAffix Bare w t → IsAffix Opened w (t ++ 39 ∷ [])
  Doubled : (w t : List ℕ) → IsAffix Opened w t → IsAffix Bare (w ++ 39 ∷ []) (t ++ 39 ∷ [])
  First : (w t : List ℕ) (b : ℕ) → IsAffix Opened w t → (b == 39) ≡ false → IsAffix Quoted (w ++ b ∷ []) (t ++ b ∷ [])
  More : (w t : List ℕ) (b : ℕ) → IsAffix Quoted w t → (b == 39) ≡ false → IsAffix Quoted (w ++ b ∷ []) (t ++ b ∷ [])
  Close : (w t : List ℕ) → IsAffix Quoted w t → IsAffix Closed w (t ++ 39 ∷ [])
  Again : (w t : List ℕ) → IsAffix Closed w t → IsAffix Quoted (w ++ 39 ∷ []) (t ++ 39 ∷ [])
