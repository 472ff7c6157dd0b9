-- The characters of XML documents, as tables of intervals.
use Rattle.std.specs.Prelude.{◌++◌, ℕ, ◌&&◌, ◌||◌, Bool, nat_le, List, [], ◌∷◌}
use Rattle.std.specs.List.{list_any, list_all}
use Rattle.dfdl_xml_chars.specs.Utf8.{low_of, high_of}

-- the code points from the first to the second
abbrev pub Row : Type 0
Row = ℕ × ℕ

-- the code point lies in one of the rows
abbrev pub is_in : List Row → ℕ → Bool
is_in rows c = list_any (λ row. nat_le row.0 c && nat_le c row.1) rows

-- the production Char of 'Extensible Markup Language (XML) 1.0'
unfoldable pub char_rows : List Row
char_rows = (0x9, 0xA) ∷ (0xD, 0xD) ∷ (0x20, 0xD7FF) ∷ (0xE000, 0xFFFD) ∷ (0x1_0000, 0x10_FFFF) ∷ []

-- XML allows the character in a document
unfoldable pub is_allowed : ℕ → Bool
is_allowed c = is_in char_rows c

-- the rows past ASCII of the production NameStartChar
unfoldable pub high_start_rows : List Row
high_start_rows =
    (0xC0, 0xD6) ∷ (0xD8, 0xF6) ∷ (0xF8, 0x2FF) ∷ (0x370, 0x37D) ∷ (0x37F, 0x1FFF)
    ∷ (0x200C, 0x200D) ∷ (0x2070, 0x218F)
    ∷ (0x2C00, 0x2FEF) ∷ (0x3001, 0xD7FF) ∷ (0xF900, 0xFDCF) ∷ (0xFDF0, 0xFFFD)
    ∷ (0x1_0000, 0xE_FFFF) ∷ []

-- the rows past ASCII that the production NameChar has besides
unfoldable pub high_mark_rows : List Row
high_mark_rows = (0xB7, 0xB7) ∷ (0x300, 0x36F) ∷ (0x203F, 0x2040) ∷ []

-- the rows past ASCII of the production NameChar
unfoldable pub high_name_rows : List Row
high_name_rows = high_mark_rows ++ high_start_rows

-- the ASCII rows of both, without the colon
unfoldable pub low_start_rows : List Row
low_start_rows = (0x41, 0x5A) ∷ (0x5F, 0x5F) ∷ (0x61, 0x7A) ∷ []

unfoldable pub low_name_rows : List Row
low_name_rows = (0x2D, 0x2E) ∷ (0x30, 0x39) ∷ low_start_rows

-- the production NameStartChar without the colon: what a part of a name (NCName of 'Namespaces in
-- XML 1.0') begins with
unfoldable pub is_name_start : ℕ → Bool
is_name_start c = is_in low_start_rows c || is_in high_start_rows c

-- the production NameChar without the colon: what a part of a name is made of
unfoldable pub is_name_char : ℕ → Bool
is_name_char c = is_in low_name_rows c || is_in high_name_rows c

-- some character of the rows begins with these bytes of one that is not whole
abbrev pub meets : List Row → List ℕ → Bool
meets rows bytes =
    list_any (λ row. nat_le row.0 (high_of bytes) && nat_le (low_of bytes) row.1) rows

-- this character begins with them
abbrev pub begins : List ℕ → ℕ → Bool
begins bytes c = nat_le (low_of bytes) c && nat_le c (high_of bytes)

-- no row is empty
abbrev pub are_proper : List Row → Bool
are_proper rows = list_all (λ row. nat_le row.0 row.1) rows

-- each of the rows lies in one of the others
abbrev pub are_inside : List Row → List Row → Bool
are_inside rows others =
    list_all (λ row. list_any (λ other. nat_le other.0 row.0 && nat_le row.1 other.1) others) rows
