-- The characters of literals, one after another.
use Rattle.std.specs.Prelude.{ℕ, List, ◌++◌, Option, Some, None}

-- characters behind others, if they are told
abbrev pub behind : List ℕ → Option (List ℕ) → Option (List ℕ)
behind old None = None
behind old (Some cs) = Some (old ++ cs)
