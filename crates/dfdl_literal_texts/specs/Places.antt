-- Mirror for the prover: the places of a text at which the rest of a literal may begin.
use Rattle.std.specs.Prelude.{ℕ, zero, suc, ◌+◌, List, [], ◌∷◌, length, drop, Option, Some, None, Bool, false, ◌&&◌, ◌||◌, nat_lt, if◌then◌else◌}
use Rattle.std.specs.List.{list_any, starts_with}
use Rattle.std.proofs.Common.{eqb}
use Rattle.dfdl_forms.specs.declared.encoding.Encoding.{Encoding}
use Rattle.dfdl_forms.specs.declared.literals.Piece.{Piece}
use Rattle.dfdl_forms.specs.declared.literals.Piece.TheVariants.{Char, Byte, NewLine, Space, Spaces, MaybeSpaces, Nothing}
use Rattle.dfdl_chars.specs.Encodings.{encoded_text}
use Rattle.dfdl_literal_texts.specs.Texts.{cases_of, line_breaks, spaces}

-- how many bytes a text is that stands at the front of the bytes
abbrev pub front_of : Option (List ℕ) → List ℕ → Option ℕ
front_of None bytes = None
front_of (Some front) bytes = if starts_with eqb bytes front then Some (length front) else None

-- the end of a text at the front passes
abbrev pub at_front : Option ℕ → (ℕ → Bool) → Bool
at_front None passes = false
at_front (Some n) passes = passes n

-- the end of one of these texts at the front passes
abbrev pub some_front : Encoding → List (List ℕ) → List ℕ → (ℕ → Bool) → Bool
some_front encoding texts bytes passes = list_any (λ text. at_front (front_of (encoded_text encoding text) bytes) passes) texts

-- the end of a text of the piece at the front passes; of any number of white space characters one is taken
unfoldable pub piece_front : Encoding → Bool → Piece → List ℕ → (ℕ → Bool) → Bool
piece_front encoding fold (Char c) bytes passes = some_front encoding (cases_of fold c) bytes passes
piece_front encoding fold (Byte b) bytes passes = at_front (front_of (Some (b ∷ [])) bytes) passes
piece_front encoding fold NewLine bytes passes = some_front encoding line_breaks bytes passes
piece_front encoding fold Space bytes passes = some_front encoding spaces bytes passes
piece_front encoding fold Spaces bytes passes = some_front encoding spaces bytes passes
piece_front encoding fold MaybeSpaces bytes passes = some_front encoding spaces bytes passes
piece_front encoding fold Nothing bytes passes = false

-- some marked place passes
unfoldable pub some_marked : List Bool → (ℕ → Bool) → Bool
some_marked [] passes = false
some_marked (mark ∷ marks) passes = (mark && passes zero) || some_marked marks (λ k. passes (suc k))

-- at the place stand bytes of the rest
unfoldable pub rest_at : (List ℕ → Bool) → List ℕ → ℕ → Bool
rest_at is_rest bytes k = is_rest (drop k bytes)

-- at some marked place stand bytes of the rest
abbrev pub goes : List Bool → (List ℕ → Bool) → List ℕ → Bool
goes places is_rest bytes = some_marked places (rest_at is_rest bytes)

-- the first test before a place, the second from there on
unfoldable pub split : ℕ → (ℕ → Bool) → (ℕ → Bool) → ℕ → Bool
split at first second k = if nat_lt k at then first k else second k

-- a text of the piece stands at the place, and behind it bytes of the rest
unfoldable pub taken_at : Encoding → Bool → Piece → (List ℕ → Bool) → List ℕ → ℕ → Bool
taken_at encoding fold piece is_rest bytes k =
    piece_front encoding fold piece (drop k bytes) (λ n. rest_at is_rest bytes (k + n))
