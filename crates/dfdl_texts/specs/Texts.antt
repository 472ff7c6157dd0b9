-- The characters of a text in the data, as a program over looks.
use Rattle.std.specs.Prelude.{◌≡◌, ℕ, zero, suc, ◌+◌, ◌-◌, ◌/◌, ◌≤◌, Bool, if◌then◌else◌, List, [], ◌∷◌, ◌++◌, length, max}
use Rattle.dfdl_forms.specs.declared.encoding.Encoding.{Encoding}
use Rattle.dfdl_looks.specs.Asks.{Ask, Answer, and_then}
use Rattle.dfdl_texts.specs.declared.extent.Extent.{Extent}
use Rattle.dfdl_texts.specs.declared.extent.Extent.TheVariants.{Box, Characters, Front}
use Rattle.dfdl_texts.specs.Units.{Piece, Holds, Broken, NoMore, lies_in, unit_at}

-- what a text comes to: its characters and the byte behind it; a bad unit, where bad units aren't replaced; the data end before
-- its end; the box ends before its last character
pub data Text : Type 0 where
  Reads : List ℕ → ℕ → Text
  HasBad : Text
  IsCut : Text
  IsBoxed : Text

-- at most so many characters has a text that begins at byte k: as many as the box has bytes, or as are counted
abbrev pub most_of : Extent → ℕ → ℕ → ℕ
most_of Box stop k = stop / 8 - k
most_of (Characters count) stop k = count
most_of Front stop k = stop / 8 - k

-- what a text comes to behind these characters, where its box ends at byte k
abbrev pub past_box : Extent → List ℕ → ℕ → Text
past_box Box chars k = Reads chars k
past_box (Characters count) chars k = IsBoxed
past_box Front chars k = Reads chars k

-- what it comes to behind these characters, where the data end at byte k
abbrev pub past_data : Extent → List ℕ → ℕ → Text
past_data Box chars k = IsCut
past_data (Characters count) chars k = IsCut
past_data Front chars k = Reads chars k

-- what it comes to where nothing stands at byte k: the box or the data end there
abbrev pub at_end : Extent → ℕ → List ℕ → ℕ → Text
at_end extent stop chars k = if lies_in stop k then past_data extent chars k else past_box extent chars k

-- what it comes to behind these characters, where a bad unit that isn't replaced stands at byte k
abbrev pub at_bad : Extent → List ℕ → ℕ → Text
at_bad Box chars k = HasBad
at_bad (Characters count) chars k = HasBad
at_bad Front chars k = Reads chars k

-- goes on by a character and its bytes, where a bad unit is U+FFFD if it is replaced, and else the first of these ends; the second
-- one is the end where nothing stands
abbrev pub after_piece : Bool → Text → Text → (ℕ → ℕ → Ask Text) → Piece → Ask Text
after_piece replaces bad ends go (Holds c bytes) = go c bytes
after_piece replaces bad ends go (Broken bytes) = if replaces then go 0xFFFD bytes else Answer bad
after_piece replaces bad ends go NoMore = Answer ends

-- a text from byte k on, behind these characters and with so many more at most
abbrev pub text_from : Encoding → Bool → Extent → ℕ → ℕ → List ℕ → ℕ → Ask Text
text_from enc replaces extent stop zero chars k = Answer (Reads chars k)
text_from enc replaces extent stop (suc more) chars k =
    and_then (unit_at enc stop k) (after_piece replaces (at_bad extent chars k) (at_end extent stop chars k)
    (λ c bytes. text_from enc replaces extent stop more (chars ++ c ∷ []) (k + bytes)))

-- the text of an extent that begins at byte k, in a box that ends at bit stop
abbrev pub text_at : Encoding → Bool → Extent → ℕ → ℕ → Ask Text
text_at enc replaces extent stop k = text_from enc replaces extent stop (most_of extent stop k) [] k

-- These are the characters of a text from byte k on that ends before byte end, in a box that ends at bit stop and in data of
-- which the bytes before byte last have come.
pub record IsRead (extent : Extent) (stop last k : ℕ) (chars : List ℕ) (end : ℕ) : Type 0 where
  pub behind : k ≤ end
  pub come : end ≤ max k last
  pub inside : end ≤ max k (stop / 8)
  pub whole : extent ≡ Box → stop / 8 ≤ end
  pub count : (n : ℕ) → extent ≡ Characters n → length chars ≡ n
