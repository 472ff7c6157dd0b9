-- Mirror for the prover: what is made of the type of a length prefix, and which name is told of it.
use Rattle.std.specs.Prelude.{List, ℕ, Option, Some, None, codes, if◌then◌else◌}
use Rattle.dfdl_scope.specs.Expressions.{is_expression, literal}
use Rattle.dfdl_scope.specs.Scoping.{Element, Told, Value, Absent, Twice, told}
use Rattle.dfdl_scope.specs.Shown.{chain_of}
use Rattle.dfdl_checks.specs.Judged.{PrefixJudged}
use Rattle.dfdl_checks.specs.Subjects.{is_word}
use Rattle.dfdl_breaches.specs.declared.prefixes.Prefix.{Prefix}

-- the type with its chain
abbrev pub prefix_seen : Prefix → PrefixJudged
prefix_seen prefix = record { simple = prefix.simple; place = prefix.place; chain = chain_of prefix.chain; scheme = prefix.scheme }

-- the name that is told, by no expression
abbrev pub name_in : Told → Option (List ℕ)
name_in (Value written) = if is_expression written then None else Some (literal written)
name_in Absent = None
name_in (Twice place) = None

-- the name of the type of a prefix, where the length is prefixed
abbrev pub type_told : List Element → Option (List ℕ)
type_told chain = if is_word (codes "prefixed") (told chain (codes "lengthKind")) then name_in (told chain (codes "prefixLengthType")) else None
