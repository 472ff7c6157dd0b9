-- Mirror for the prover: how the characters of a literal in quotes are told one after the other.
use Rattle.std.specs.Prelude.{ℕ, ◌==◌, if◌then◌else◌, Option, Some, None, List, [], ◌∷◌, encode_utf8}
use Rattle.dfdl_expression_tree.specs.declared.quoting.Quoting.{Quoting}
use Rattle.dfdl_expression_tree.specs.declared.quoting.Quoting.TheVariants.{Unopened, Inside, Behind}
use Rattle.dfdl_expression_tree.specs.Quotes.{unquoted, unquoted_by}

-- where a character leads
abbrev pub quoted_next : Quoting → ℕ → Quoting
quoted_next Unopened c = Inside c
quoted_next (Inside quote) c = if c == quote then Behind quote else Inside quote
quoted_next (Behind quote) c = Inside quote

-- the character that is told then
abbrev pub quoted_tells : Quoting → ℕ → Option ℕ
quoted_tells Unopened c = None
quoted_tells (Inside quote) c = if c == quote then None else Some c
quoted_tells (Behind quote) c = Some quote

-- what the characters that still come tell
abbrev pub quoted_rest : Quoting → List ℕ → List ℕ
quoted_rest Unopened cs = unquoted cs
quoted_rest (Inside quote) cs = unquoted_by quote cs
quoted_rest (Behind quote) [] = []
quoted_rest (Behind quote) (c ∷ cs) = quote ∷ unquoted_by quote cs

abbrev pub told_bytes : Option ℕ → List ℕ
told_bytes None = []
told_bytes (Some c) = encode_utf8 c
