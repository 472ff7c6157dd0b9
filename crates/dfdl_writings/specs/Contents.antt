-- What the value of a simple element is written as in text. 'Simple Types' (text representation, escape schemes).
use Rattle.std.specs.Prelude.{ℕ, ◌*◌, List, length, Option, None, Some, Result, Ok, Err}
use Rattle.std.specs.Option.{ok_or}
use Rattle.dfdl_chars.specs.Encodings.{encoded_text}
use Rattle.dfdl_delims.specs.Lists.{Opened}
use Rattle.dfdl_escapes.specs.Written.{written}
use Rattle.dfdl_forms.specs.declared.encoding.Encoding.{Encoding}
use Rattle.dfdl_forms.specs.declared.text.EscapeScheme.{EscapeScheme}
use Rattle.dfdl_value.specs.declared.value.Value.{Value}
use Rattle.dfdl_terms.specs.declared.text.TextForm.{TextForm}
use Rattle.dfdl_writings.specs.declared.fault.Unwritten.{Unwritten}
use Rattle.dfdl_writings.specs.declared.fault.Unwritten.TheVariants.{NotInEncoding, Escape}
use Rattle.dfdl_writings.specs.declared.form.Room.{Room}
use Rattle.dfdl_writings.specs.declared.form.Room.TheVariants.{Bits, Characters, Open, Delimited}
use Rattle.dfdl_terms.specs.declared.writing.WritingForm.{WritingForm}
use Rattle.dfdl_writings.specs.declared.form.Written.{Written}
use Rattle.dfdl_writings.specs.Characters.{characters}
use Rattle.dfdl_writings.specs.Cuts.{kept}
use Rattle.dfdl_writings.specs.Paddings.{padded}

-- the characters of delimited text, escaped by the scheme, where the lists are the terminating markup; no other text is escaped
abbrev pub escaped : EscapeScheme → Encoding → Room → List Opened → List ℕ → Result (List ℕ) Unwritten
escaped scheme encoding (Bits n) opened cs = Ok cs
escaped scheme encoding (Characters n) opened cs = Ok cs
escaped scheme encoding Open opened cs = Ok cs
escaped scheme encoding Delimited opened cs = ok_or (written scheme encoding opened cs) Escape

-- so many characters with these bytes, if they have bytes, padded and filled
abbrev pub laid_bytes : WritingForm → TextForm → Room → ℕ → Option (List ℕ) → Result Written Unwritten
laid_bytes writing form room count None = Err NotInEncoding
laid_bytes writing form room count (Some bytes) = Ok (padded form.encoding form.pad room writing.least count bytes)

-- what is kept of characters, padded and filled
abbrev pub laid : WritingForm → TextForm → Room → Result (List ℕ) Unwritten → Result Written Unwritten
laid writing form room (Err cause) = Err cause
laid writing form room (Ok cs) = laid_bytes writing form room (length cs) (encoded_text form.encoding cs)

-- characters that are escaped, cut to their room, padded and filled
abbrev pub fitted : WritingForm → TextForm → Room → Result (List ℕ) Unwritten → Result Written Unwritten
fitted writing form room (Err cause) = Err cause
fitted writing form room (Ok cs) = laid writing form room (kept form room cs)

-- characters of which the encoding has each, escaped and fitted
abbrev pub held : WritingForm → TextForm → Room → List Opened → List ℕ → Option (List ℕ) → Result Written Unwritten
held writing form room opened cs None = Err NotInEncoding
held writing form room opened cs (Some bytes) =
    fitted writing form room (escaped writing.scheme form.encoding room opened cs)

-- what characters are written as, if there are any
abbrev pub content_of : WritingForm → TextForm → Room → List Opened → Result (List ℕ) Unwritten → Result Written Unwritten
content_of writing form room opened (Err cause) = Err cause
content_of writing form room opened (Ok cs) = held writing form room opened cs (encoded_text form.encoding cs)

-- What a value is written as: its characters, each of which its encoding has, escaped, cut to its room, and with pad characters and fill.
abbrev pub content : WritingForm → TextForm → Room → List Opened → Value → Result Written Unwritten
content writing form room opened value =
    content_of writing form room opened (characters form.encoding room form.content value)

-- how many bits bytes have, if they are there
abbrev pub bits_of : Option (List ℕ) → Result ℕ Unwritten
bits_of None = Err NotInEncoding
bits_of (Some bytes) = Ok (8 * length bytes)

-- how many bits characters have, if there are any
abbrev pub bits_of_characters : Encoding → Result (List ℕ) Unwritten → Result ℕ Unwritten
bits_of_characters encoding (Err cause) = Err cause
bits_of_characters encoding (Ok cs) = bits_of (encoded_text encoding cs)

-- The length of a value: how many bits its characters have before they are escaped, cut and padded. The zeros in front of a zoned number
-- are characters of it.
abbrev pub value_bits : TextForm → Room → Value → Result ℕ Unwritten
value_bits form room value = bits_of_characters form.encoding (characters form.encoding room form.content value)
