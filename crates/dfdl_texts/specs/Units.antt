-- What stands at a place of the data in an encoding, as a program over looks: the same as is decoded there.
use Rattle.std.specs.Prelude.{◌≡◌, ℕ, zero, suc, ◌+◌, ◌-◌, ◌*◌, ◌/◌, Bool, nat_lt, nat_le, if◌then◌else◌, List, [], ◌∷◌, ◌++◌, length, max, Option, Some, None}
use Rattle.dfdl_forms.specs.declared.encoding.Encoding.{Encoding}
use Rattle.dfdl_forms.specs.declared.encoding.Encoding.TheVariants.{Utf8, UsAscii, Iso88591, Utf16Be, Utf16Le}
use Rattle.dfdl_looks.specs.Asks.{Ask, Answer, Look, Reached, Told, TooFar, Missing, Reading}
use Rattle.dfdl_looks.specs.Tallies.{Tally}
use Rattle.dfdl_chars.specs.declared.decode.Chars.{Chars}
use Rattle.dfdl_chars.specs.declared.decode.Chars.TheVariants.{Char, Bad, End, NotYet, Over}
use Rattle.dfdl_chars.specs.Sequences.{is_sequence, is_begun, code_of}
use Rattle.dfdl_chars.specs.Decoding.{is_high, is_low, pair_code, big_unit, little_unit}

-- what stands at a place: a character and how many bytes it has, a bad unit of so many bytes, or nothing, since the box or the
-- data ends there
pub data Piece : Type 0 where
  Holds : ℕ → ℕ → Piece
  Broken : ℕ → Piece
  NoMore : Piece

-- byte k lies in a box that ends at bit stop
abbrev pub lies_in : ℕ → ℕ → Bool
lies_in stop k = nat_le (8 * k + 8) stop

-- goes on by a byte, and answers where the data end before it
abbrev pub on_byte : Piece → (ℕ → Ask Piece) → Option ℕ → Ask Piece
on_byte ends go None = Answer ends
on_byte ends go (Some byte) = go byte

-- looks at byte k; a byte with a bit at or past the end of the box is the end, without a look
abbrev pub at_byte : ℕ → ℕ → Piece → (ℕ → Ask Piece) → Ask Piece
at_byte stop k ends go = if lies_in stop k then Look k (λ o. on_byte ends go o) else Answer ends

-- an encoding of one byte a character, which has those below `limit`
abbrev pub narrow_unit : ℕ → ℕ → ℕ → Ask Piece
narrow_unit limit stop k = at_byte stop k NoMore (λ b. if nat_lt b limit then Answer (Holds b 1) else Answer (Broken 1))

-- what the end of the data is behind some bytes of a sequence
abbrev pub cut_after : List ℕ → Piece
cut_after [] = NoMore
cut_after (b ∷ bs) = Broken 1

-- UTF-8, where these bytes were seen at byte k: while they are the beginning of a sequence that is longer, one more is looked at.
-- A sequence has at most 4 bytes, so `more` of 4 is enough at none.
abbrev pub utf8_unit : ℕ → ℕ → ℕ → List ℕ → Ask Piece
utf8_unit zero stop k bytes = if is_sequence bytes then Answer (Holds (code_of bytes) (length bytes)) else Answer (Broken 1)
utf8_unit (suc more) stop k bytes =
    if is_sequence bytes then Answer (Holds (code_of bytes) (length bytes))
    else if is_begun bytes then at_byte stop (k + length bytes) (cut_after bytes) (λ b. utf8_unit more stop k (bytes ++ b ∷ []))
    else Answer (Broken 1)

-- The unit of UTF-16 at byte k, of which each order joins the bytes in its way. The data or the box may end before it or within it.
abbrev pub at_unit : (ℕ → ℕ → ℕ) → ℕ → ℕ → Piece × Piece → (ℕ → Ask Piece) → Ask Piece
at_unit join stop k ends go = at_byte stop k ends.0 (λ a. at_byte stop (k + 1) ends.1 (λ b. go (join a b)))

-- a second unit behind a high surrogate
abbrev pub utf16_second : ℕ → ℕ → Ask Piece
utf16_second high unit = if is_low unit then Answer (Holds (pair_code high unit) 4) else Answer (Broken 2)

-- the character whose first unit is this one
abbrev pub utf16_first : (ℕ → ℕ → ℕ) → ℕ → ℕ → ℕ → Ask Piece
utf16_first join stop k unit =
    if is_high unit then at_unit join stop (k + 2) (Broken 2, Broken 2) (λ second. utf16_second unit second)
    else if is_low unit then Answer (Broken 2)
    else Answer (Holds unit 2)

-- UTF-16, where two bytes make a unit so
abbrev pub utf16_unit : (ℕ → ℕ → ℕ) → ℕ → ℕ → Ask Piece
utf16_unit join stop k = at_unit join stop k (NoMore, Broken 1) (λ unit. utf16_first join stop k unit)

-- what stands at byte k of the data in a box that ends at bit stop
abbrev pub unit_at : Encoding → ℕ → ℕ → Ask Piece
unit_at Utf8 stop k = utf8_unit 4 stop k []
unit_at UsAscii stop k = narrow_unit 128 stop k
unit_at Iso88591 stop k = narrow_unit 256 stop k
unit_at Utf16Be stop k = utf16_unit big_unit stop k
unit_at Utf16Le stop k = utf16_unit little_unit stop k

-- what was decoded, as what the program comes to
abbrev pub reached_of : Chars → Reached Piece
reached_of (Char c bits) = Told (Holds c (bits / 8))
reached_of (Bad bits) = Told (Broken (bits / 8))
reached_of End = Told NoMore
reached_of NotYet = Missing
reached_of Over = TooFar

-- how far a run of so many bytes from byte k on has seen: the byte behind it, where there is any
abbrev pub far_of_run : ℕ → ℕ → ℕ
far_of_run k zero = 0
far_of_run k (suc count) = k + suc count

-- how far was seen where the looks of decoding have gone so far from byte k on: a byte that hasn't come isn't seen
abbrev pub far_seen : Chars → ℕ → ℕ → ℕ
far_seen NotYet k far = far_of_run k (far - (k + 1))
far_seen _ k far = far

-- The reading of a unit behind a tally comes to what was decoded, where its bytes were seen so far and the count of looks went
-- from one number to the other.
pub record IsUnit (chars : Chars) (seen from to : ℕ) (before : Tally) (reading : Reading Piece) : Type 0 where
  pub reached : reading.reached ≡ reached_of chars
  pub looks : reading.tally.looks + from ≡ before.looks + to
  pub far : reading.tally.far ≡ max before.far seen
