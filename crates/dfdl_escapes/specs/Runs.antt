-- Mirror for the prover: bytes of a content that are passed at once.
use Rattle.std.specs.Prelude.{◌≡◌, ℕ, zero, suc, ◌+◌, ◌<◌, ◌||◌, Bool, true, false, not, nat_lt, List, [], length, map, max, slice_index}
use Rattle.std.specs.List.{All}
use Rattle.dfdl_bits.specs.ByteSets.{has_byte}
use Rattle.dfdl_bits.specs.declared.byte_set.ByteSet.{ByteSet}
use Rattle.dfdl_bits.specs.declared.window.Seen.{Seen}
use Rattle.dfdl_bits.specs.declared.window.Seen.TheVariants.{Byte}
use Rattle.dfdl_forms.specs.declared.encoding.Encoding.{Encoding}
use Rattle.dfdl_forms.specs.declared.encoding.Encoding.TheVariants.{Utf8, UsAscii, Iso88591, Utf16Be, Utf16Le}
use Rattle.dfdl_delims.specs.declared.firsts.FirstBytes.{FirstBytes}
use Rattle.dfdl_delims.specs.Firsts.{BeginsNone}
use Rattle.dfdl_delims.specs.Lists.{Decides, Opened}
use Rattle.dfdl_escapes.specs.declared.character.Character.{Character}
use Rattle.dfdl_escapes.specs.declared.form.Form.{Form}
use Rattle.dfdl_escapes.specs.declared.form.Mode.{Mode}
use Rattle.dfdl_escapes.specs.declared.form.Mode.TheVariants.{Plain, Escaping, Before, Inside}
use Rattle.dfdl_escapes.specs.Steps.{is_mark}

-- these are the bytes with which texts of the lists begin, or more, and whether a search for a text looks at a byte
pub record FirstsAre (first : FirstBytes) (lists : List Opened) : Type 0 where
  pub none : (byte : ℕ) → byte < 256 → has_byte first.set byte ≡ false → BeginsNone lists byte
  pub looks_are : (test : List ℕ → Bool) → Decides lists test → first.looks ≡ test []

-- the byte alone is a character of the encoding, that of its number
abbrev pub is_single : Encoding → ℕ → Bool
is_single Utf8 byte = nat_lt byte 128
is_single UsAscii byte = nat_lt byte 128
is_single Iso88591 byte = nat_lt byte 256
is_single Utf16Be byte = false
is_single Utf16Le byte = false

-- the character is given as it is in the mode, where no terminating markup stands
abbrev pub is_given_in : Form → Mode → ℕ → Bool
is_given_in form Plain c = true
is_given_in form Escaping c = not (is_mark form.escape_escape c || is_mark form.escape c)
is_given_in form Before c = false
is_given_in form Inside c = not (is_mark form.escape_escape c || is_mark form.end c)

-- terminating markup is sought in the mode
abbrev pub seeks : Mode → Bool
seeks Plain = true
seeks Escaping = true
seeks Before = true
seeks Inside = false

-- The byte gives the character of its number in the mode, where a byte outside of the set begins no terminating markup.
pub record IsPassed (form : Form) (set : ByteSet) (mode : Mode) (byte : ℕ) : Type 0 where
  pub single : is_single form.enc byte ≡ true
  pub given : is_given_in form mode byte ≡ true
  pub outside : seeks mode ≡ true → has_byte set byte ≡ false

-- the characters that bytes give in the mode
abbrev pub given_by : Mode → List ℕ → List Character
given_by mode bytes = map (λ byte. record { c = byte; is_escaped = not (seeks mode) }) bytes

-- how far is seen behind so many bytes before byte k
abbrev pub far_behind : ℕ → ℕ → ℕ → ℕ
far_behind far k zero = far
far_behind far k (suc count) = max far k

-- the looks at so many bytes, where each is looked at twice or once
abbrev pub looks_of : Bool → ℕ → ℕ
looks_of true count = count + count
looks_of false count = count

-- bytes from byte k on are seen, and each is one of these
pub record AreSeen (look : ℕ → Seen) (k : ℕ) (is : ℕ → Type 0) (bytes : List ℕ) : Type 0 where
  pub seen : (i : ℕ) → i < length bytes → look (k + i) ≡ Byte (slice_index bytes i)
  pub are : All is bytes
