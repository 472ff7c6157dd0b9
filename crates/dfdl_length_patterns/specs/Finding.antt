-- Mirror for the prover: what is searched for, and the text that it was built of.
use Rattle.std.specs.Prelude.{◌≡◌, ℕ, ◌<◌, List, get_or, option_map}
use Rattle.regex.specs.Patterns.{Re, find_str, span}
use Rattle.dfdl_length_patterns.specs.Patterns.{match_in}

-- on every text of bytes, a search for the pattern finds what one by the source does
abbrev pub Finds : List ℕ → Re → Type 0
Finds source pattern = (text : List ℕ) → ((k : ℕ) → get_or text k 0 < 256) →
    option_map span (find_str pattern text 0) ≡ match_in source text
