-- Mirror for the prover: what is kept of names by the namespaces of a scope.
use Rattle.std.specs.Prelude.{◌≡◌, ℕ, List, Bool, false, ◌&&◌, Some}
use Rattle.std.specs.List.{list_any}
use Rattle.std.specs.Str.{bytes_eq, chars, IsUtf8}
use Rattle.dfdl_markup.specs.Grammar.{Name, Plain, Prefixed}
use Rattle.dfdl_markup.specs.Values.{Binding, found, same_found, same_expanded, have_same}
use Rattle.dfdl_xml_names.specs.Paired.{has_pair}
use Rattle.dfdl_xml_names.specs.declared.pairs.Pairs.{Pairs}
use Rattle.dfdl_xml_names.specs.Waiting.{IsWaiting}
use Rattle.dfdl_xml_names.specs.declared.resolved.Resolved.{Resolved}

-- the name has this local part, and a prefix that is found with this namespace
abbrev pub is_in : List Binding → List ℕ → List ℕ → Name → Bool
is_in scope namespace part (Plain name) = false
is_in scope namespace part (Prefixed prefix name) =
    bytes_eq name part && same_found (found scope prefix) (Some namespace)

-- the pairs are those of the names whose prefix is found
abbrev pub IsPaired : Pairs → List Binding → List Name → Type 0
IsPaired pairs scope names =
    (a b : List ℕ) → IsUtf8 a → IsUtf8 b
    → has_pair pairs a b ≡ list_any (is_in scope (chars a) (chars b)) names

-- they are, the other names wait, and it is known whether two are one
pub record IsResolved (resolved : Resolved) (scope : List Binding) (names : List Name) : Type 0 where
  pub pairs : IsPaired resolved.pairs scope names
  pub waiting : IsWaiting resolved.waiting scope names
  pub clash : resolved.clash ≡ have_same (same_expanded scope) names
