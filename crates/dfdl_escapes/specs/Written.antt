-- What a text is written as with an escape scheme. 'Simple Types' (escape schemes).
use Rattle.std.specs.Prelude.{ℕ, Bool, true, false, ◌&&◌, ◌||◌, not, nat_eq, if◌then◌else◌, List, [], ◌∷◌, ◌++◌, Option, Some, None}
use Rattle.std.specs.List.{list_any}
use Rattle.dfdl_forms.specs.declared.encoding.Encoding.{Encoding}
use Rattle.dfdl_forms.specs.declared.text.EscapeKind.{EscapeKind}
use Rattle.dfdl_forms.specs.declared.text.EscapeKind.TheVariants.{Absent, Character, Block}
use Rattle.dfdl_forms.specs.declared.text.EscapeScheme.{EscapeScheme}
use Rattle.dfdl_chars.specs.Encodings.{encoded_text}
use Rattle.dfdl_delims.specs.Lists.{Opened, innermost}
use Rattle.dfdl_escapes.specs.declared.placed.Placed.{Placed}
use Rattle.dfdl_escapes.specs.Steps.{is_mark}

-- there is such a mark
abbrev pub is_given : Option ℕ → Bool
is_given None = false
is_given (Some mark) = true

-- a text of some list begins with the bytes that were seen, has at least one byte more, and ends before the rest does
abbrev pub begins_with_text : List Opened → List ℕ → List ℕ → Bool
begins_with_text lists seen [] = false
begins_with_text lists seen (byte ∷ rest) =
    is_given (innermost lists (seen ++ byte ∷ [])) || begins_with_text lists (seen ++ byte ∷ []) rest

-- terminating markup of at least one byte matches the text whose bytes these are
abbrev pub is_matched : List Opened → Option (List ℕ) → Bool
is_matched lists None = false
is_matched lists (Some bytes) = begins_with_text lists [] bytes

-- each character of a text, and whether terminating markup matches the text from there on
abbrev pub placed : Encoding → List Opened → List ℕ → List Placed
placed enc lists [] = []
placed enc lists (c ∷ cs) = record { c = c; is_markup = is_matched lists (encoded_text enc (c ∷ cs)) } ∷ placed enc lists cs

-- a character behind a mark, if there is such a mark
abbrev pub marked : Option ℕ → ℕ → List ℕ
marked None c = c ∷ []
marked (Some mark) c = mark ∷ c ∷ []

-- an extra escaped character
abbrev pub is_extra : EscapeScheme → ℕ → Bool
is_extra scheme c = list_any (λ other. nat_eq other c) scheme.extra

-- With an escape character: an escape character in the text is preceded by the escape-escape character, and this rule alone counts for
-- it. The escape character is written before terminating markup, an extra escaped character and another escape-escape character.
abbrev pub escaped_character : EscapeScheme → Placed → List ℕ
escaped_character scheme place =
    if is_mark scheme.escape place.c then marked scheme.escape_escape place.c
    else if place.is_markup || (is_extra scheme place.c || is_mark scheme.escape_escape place.c) then marked scheme.escape place.c
    else place.c ∷ []

-- the characters of a text, each escaped
abbrev pub escaped_text : EscapeScheme → List Placed → List ℕ
escaped_text scheme [] = []
escaped_text scheme (place ∷ places) = escaped_character scheme place ++ escaped_text scheme places

-- the characters of a text as they are
abbrev pub plain_text : List Placed → List ℕ
plain_text [] = []
plain_text (place ∷ places) = place.c ∷ plain_text places

-- in a block, each block end is preceded by the escape-escape character
abbrev pub block_text : EscapeScheme → List Placed → List ℕ
block_text scheme [] = []
block_text scheme (place ∷ places) =
    (if is_mark scheme.end place.c then marked scheme.escape_escape place.c else place.c ∷ []) ++ block_text scheme places

-- the text begins with the block start
abbrev pub begins_block : EscapeScheme → List Placed → Bool
begins_block scheme [] = false
begins_block scheme (place ∷ places) = is_mark scheme.start place.c

-- a block is written always, if the scheme says so, and else where terminating markup matches at some place of the text, where the
-- text begins with the block start, or where it has an extra escaped character
abbrev pub needs_block : EscapeScheme → List Placed → Bool
needs_block scheme places =
    scheme.always || (begins_block scheme places || list_any (λ place. place.is_markup || is_extra scheme place.c) places)

-- the last character, or this one where there is none
abbrev pub last_of : Option ℕ → List Placed → Option ℕ
last_of last [] = last
last_of last (place ∷ places) = last_of (Some place.c) places

-- the character is an escape-escape character that isn't the block end
abbrev pub is_lone_escape : EscapeScheme → Option ℕ → Bool
is_lone_escape scheme None = false
is_lone_escape scheme (Some c) = is_mark scheme.escape_escape c && not (is_mark scheme.end c)

-- no block can hold the text: a block end is inside and no escape-escape character is given, or the text ends with an escape-escape
-- character that isn't the block end
abbrev pub is_impossible : EscapeScheme → List Placed → Bool
is_impossible scheme places =
    (not (is_given scheme.escape_escape) && list_any (λ place. is_mark scheme.end place.c) places) || is_lone_escape scheme (last_of None places)

-- the mark, if there is such a mark
abbrev pub mark_text : Option ℕ → List ℕ
mark_text None = []
mark_text (Some mark) = mark ∷ []

-- the text as a block
abbrev pub block_of : EscapeScheme → List Placed → List ℕ
block_of scheme places = mark_text scheme.start ++ (block_text scheme places ++ mark_text scheme.end)

-- what a text is written as by a kind of scheme, if it can be
abbrev pub written_by : EscapeKind → EscapeScheme → List Placed → Option (List ℕ)
written_by Absent scheme places = Some (plain_text places)
written_by Character scheme places = Some (escaped_text scheme places)
written_by Block scheme places =
    if needs_block scheme places then (if is_impossible scheme places then None else Some (block_of scheme places))
    else Some (plain_text places)

-- what the text is written as, if it can be
abbrev pub written : EscapeScheme → Encoding → List Opened → List ℕ → Option (List ℕ)
written scheme enc lists text = written_by scheme.kind scheme (placed enc lists text)
