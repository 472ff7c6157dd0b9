-- What the texts of a tree are as bytes.
use Rattle.std.specs.Prelude.{ℕ, List, Option, Some, None, if◌then◌else◌}
use Rattle.std.specs.Str.{bytes_eq}
use Rattle.dfdl_markup.specs.Trees.{Node}
use Rattle.dfdl_markup.specs.Grammar.{Plain}
use Rattle.dfdl_markup.specs.Values.{Attribute, declares}
use Rattle.std.specs.Prelude.{get_or, [], ◌∷◌}

-- no attribute
abbrev pub no_attribute : Attribute
no_attribute = record { name = Plain []; value = [] }

-- the attribute of a number
abbrev pub attribute_at : Node → ℕ → Attribute
attribute_at node at = get_or node.attributes at no_attribute

-- the namespace, where the prefix that is declared is this one
abbrev pub if_declared : List ℕ → Option (List ℕ) → List ℕ → Option (List ℕ)
if_declared namespace None prefix = None
if_declared namespace (Some declared) prefix =
    if bytes_eq declared prefix then Some namespace else None

-- the namespace that an attribute declares for a prefix
abbrev pub declared_by : Attribute → List ℕ → Option (List ℕ)
declared_by attribute prefix = if_declared attribute.value (declares attribute.name) prefix

-- the namespace that the first of the attributes to declare a prefix gives it
abbrev pub or_else : Option (List ℕ) → Option (List ℕ) → Option (List ℕ)
or_else (Some namespace) others = Some namespace
or_else None others = others

abbrev pub declared_in : List Attribute → List ℕ → Option (List ℕ)
declared_in [] prefix = None
declared_in (attribute ∷ attributes) prefix =
    or_else (declared_by attribute prefix) (declared_in attributes prefix)
