-- What a pattern of a length matches.
use Rattle.std.specs.Prelude.{ℕ, List, ◌++◌, Option, option_map, option_and_then, chars, codes}
use Rattle.regex.specs.Patterns.{Re, default_config, find_str, span}
use Rattle.regex_syntax.specs.Grammar.{read}

-- the text that is built of a pattern: the pattern as a group, at the begin of what is searched
unfoldable pub anchored : List ℕ → List ℕ
anchored pattern = codes "\\A(?:" ++ pattern ++ codes ")"

-- the pattern that the grammar of `regex` reads in a text with its default options, if it reads one
unfoldable pub pattern_read : List ℕ → Option Re
pattern_read source = option_map (λ (found, _). found.value) (read default_config (chars source))

-- by the text that was built and the text that is searched: the bytes at which the leftmost match
-- begins and ends, if the text that was built is a pattern and one is there
unfoldable pub match_in : List ℕ → List ℕ → Option (ℕ × ℕ)
match_in source text = option_and_then (λ pattern. option_map span (find_str pattern text 0)) (pattern_read source)
