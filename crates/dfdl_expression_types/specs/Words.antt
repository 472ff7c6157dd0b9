-- The names in an expression's text.
use Rattle.std.specs.Prelude.{ℕ, ◌+◌, ◌==◌, Bool, Option, Some, None, List, length, min, position}
use Rattle.std.specs.List.{slice_range}
use Rattle.dfdl_expression_tree.specs.declared.token.Span.{Span}

-- the bytes of a text from one place up to another, as far as there are any
abbrev pub word : List ℕ → Span → List ℕ
word text span = slice_range text (min span.from (min span.to (length text))) (min span.to (length text))

abbrev pub is_colon : ℕ → Bool
is_colon b = b == 58

-- the place of the first colon
abbrev pub colon_of : List ℕ → Option ℕ
colon_of word = position is_colon word

abbrev pub local_by : Option ℕ → List ℕ → List ℕ
local_by None word = word
local_by (Some colon) word = slice_range word (colon + 1) (length word)

-- the local name: what is behind the colon, where there is one
abbrev pub local_of : List ℕ → List ℕ
local_of word = local_by (colon_of word) word

abbrev pub prefix_by : Option ℕ → List ℕ → Option (List ℕ)
prefix_by None word = None
prefix_by (Some colon) word = Some (slice_range word 0 colon)

-- the prefix, if there is one
abbrev pub prefix_of : List ℕ → Option (List ℕ)
prefix_of word = prefix_by (colon_of word) word
