-- What is built of a text finds what the text means.
use Rattle.std.proofs.Common.{◌≡◌, ℕ, ◌<◌, List, Option, None, Some, IsSomeAnd, true, option_map, option_and_then, get_or, chars}
use Rattle.regex.specs.Patterns.{Re, SameCaptures, default_config, find_str, span, Reads}
use Rattle.regex.specs.Strings.{regex_pattern}
use Rattle.regex.specs.declared.string.regex.Regex.{Regex}
use Rattle.regex.proofs.ForCallers.{alike_as_written, span_alike}
use Rattle.regex_syntax.specs.Brackets.{Nested}
use Rattle.regex_syntax.specs.Grammar.{Names, read}
use Rattle.regex_syntax.specs.Same.{SameTree}
use Rattle.regex.proofs.OnLiterals.{same_refl}
use Rattle.dfdl_edge.specs.Patterns.{IsPatternOf}
use Rattle.dfdl_length_patterns.specs.Patterns.{match_in, pattern_read}
use Rattle.dfdl_length_patterns.specs.Finding.{Finds}

-- what is read of a text is searched for by what is alike to each tree that is read of it
module _ (built : Re) (text : List ℕ) (bytes : (k : ℕ) → get_or text k 0 < 256) where
  as_read : (o : Option (Nested Re × Names)) (P : Nested Re × Names → Type 0) → IsSomeAnd o P →
      ((re : Re) → IsSomeAnd o (λ (found, _). SameTree found.value re) → SameCaptures built re) →
      option_map span (find_str built text 0)
      ≡ option_and_then (λ re. option_map span (find_str re text 0)) (option_map (λ (found, _). found.value) o)
  as_read None P is_one alike = absurd is_one
  as_read (Some x) P is_one alike = span_alike (alike x.0.value (same_refl _)) text bytes true 0

-- a pattern that is read from a text finds what the text means
pub finds_as_read : (built : Regex) (source : List ℕ) → IsPatternOf source built → Finds source (regex_pattern built)
unfolding match_in pattern_read Reads
finds_as_read built source is text bytes =
    as_read (regex_pattern built) text bytes (read default_config (chars source)) _ (rw (is.source, is.options) at is.read)
    (alike_as_written built default_config source is.source is.options is.read)
