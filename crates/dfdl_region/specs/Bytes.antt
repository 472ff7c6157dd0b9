-- The bytes of the texts and hexBinary values of a document, one value after the other. 'The DFDL Information Set'.
use Rattle.std.specs.Prelude.{ℕ, List, ◌++◌, take, drop, encode_utf8}
use Rattle.std.specs.List.{flat_map}

-- the bytes so far, and how many there may be
pub record Bytes : Type 0 where
  pub bytes : List ℕ
  pub most : ℕ

-- with more behind the others
abbrev pub with_bytes : Bytes → List ℕ → Bytes
with_bytes region bytes = record region { bytes = region.bytes ++ bytes }

-- the bytes of characters, as UTF-8
abbrev pub utf8_of : List ℕ → List ℕ
utf8_of characters = flat_map encode_utf8 characters

-- so many bytes of a list from one on
abbrev pub bytes_at : List ℕ → ℕ → ℕ → List ℕ
bytes_at bytes from len = take len (drop from bytes)
