-- Which constructs are outside the subset, or lack what they need ('DFDL Schema Component Model', and
-- the profile's subset of XML Schema).
use Rattle.std.specs.Prelude.{ℕ, ◌&&◌, ◌||◌, Bool, true, false, not, nat_lt, length, Option, Some, None, List, [], ◌∷◌, codes, is_some, if◌then◌else◌}
use Rattle.std.specs.List.{list_any}
use Rattle.dfdl_markup.specs.Trees.{Node, node_at}
use Rattle.dfdl_constructs.specs.declared.role.Role.{Role}
use Rattle.dfdl_constructs.specs.declared.role.Role.TheVariants as role
use Rattle.dfdl_constructs.specs.Elements.{has}
use Rattle.dfdl_constructs.specs.Parts.{Part, Many, Single}
use Rattle.dfdl_constructs.specs.Roles.{role_at, single_in, part_at}

-- the attributes that a construct needs
unfoldable pub needed : Role → List (List ℕ)
needed role.GlobalElement = codes "name" ∷ []
needed role.LocalElement = codes "name" ∷ []
needed role.GlobalComplexType = codes "name" ∷ []
needed role.GlobalSimpleType = codes "name" ∷ []
needed role.GlobalGroup = codes "name" ∷ []
needed role.DefineFormat = codes "name" ∷ []
needed role.DefineEscapeScheme = codes "name" ∷ []
needed role.DefineVariable = codes "name" ∷ []
needed role.Property = codes "name" ∷ []
needed role.GroupReference = codes "ref" ∷ []
needed role.SetVariable = codes "ref" ∷ []
needed role.NewVariableInstance = codes "ref" ∷ []
needed role.Restriction = codes "base" ∷ []
needed role.Include = codes "schemaLocation" ∷ []
needed role.MinLength = codes "value" ∷ []
needed role.MaxLength = codes "value" ∷ []
needed _ = []

-- the attributes that must not stand at a construct: a name beside a reference, and a type beside one
unfoldable pub excluded : Role → List (List ℕ)
excluded role.GlobalElement = codes "ref" ∷ []
excluded role.GlobalGroup = codes "ref" ∷ []
excluded role.ElementReference = codes "name" ∷ codes "type" ∷ []
excluded role.GroupReference = codes "name" ∷ []
excluded _ = []

-- the construct has a content besides annotations
abbrev pub needs_content : Role → Bool
needs_content role.GlobalSimpleType = true
needs_content role.LocalSimpleType = true
needs_content role.GlobalGroup = true
needs_content role.DefineFormat = true
needs_content role.DefineEscapeScheme = true
needs_content _ = false

-- the construct has one type, as an attribute or inside of it
abbrev pub has_type : Role → Bool
has_type role.GlobalElement = true
has_type role.LocalElement = true
has_type _ = false

-- the construct itself is not of the subset
abbrev pub is_outside : Role → Bool
is_outside role.OutsideSubset = true
is_outside _ = false

-- one of these attributes is missing
abbrev pub lacks_one : List Node → ℕ → List (List ℕ) → Bool
lacks_one nodes element names = list_any (λ name. not (has nodes element name)) names

-- one of these attributes is there
abbrev pub has_one : List Node → ℕ → List (List ℕ) → Bool
has_one nodes element names = list_any (has nodes element) names

-- the part may stand several times, as annotations may
abbrev pub is_repeatable : Option Part → Bool
is_repeatable None = false
is_repeatable (Some (Many name role)) = true
is_repeatable (Some (Single name role)) = false

-- the child is the part that stands once, or what stands in its place
abbrev pub is_content : List Node → Role → ℕ → Bool
is_content nodes role child =
    nat_lt child (length nodes) && not (is_repeatable (part_at nodes role child))

-- the element has such a child
abbrev pub has_content : List Node → Role → ℕ → Bool
has_content nodes role element = list_any (is_content nodes role) (node_at nodes element).children

-- it needs a content, and has none; where something else stands in its place, that is refused itself
abbrev pub lacks_content : List Node → Role → ℕ → Bool
lacks_content nodes role element = needs_content role && not (has_content nodes role element)

-- it needs a type, and has both an attribute `type` and a type inside of it, or neither
abbrev pub has_not_one_type : List Node → Role → ℕ → Bool
has_not_one_type nodes role element =
    has_type role
    && (if has nodes element (codes "type") then is_some (single_in nodes role element)
    else not (is_some (single_in nodes role element)))

-- an element of this role is outside the subset, or lacks what it needs, or has what excludes another
abbrev pub is_outside_by : List Node → ℕ → Role → Bool
is_outside_by nodes element role =
    is_outside role
    || (lacks_one nodes element (needed role)
    || (has_one nodes element (excluded role)
    || (lacks_content nodes role element || has_not_one_type nodes role element)))

-- the element of this number is outside the subset, by its role
abbrev pub is_outside_subset : List Node → ℕ → Bool
is_outside_subset nodes element = is_outside_by nodes element (role_at nodes element)
