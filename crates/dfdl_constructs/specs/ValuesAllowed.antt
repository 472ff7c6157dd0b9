-- Which values the attributes of a construct can have ('DFDL Schema Component Model', and the profile).
use Rattle.std.specs.Prelude.{ℕ, ◌&&◌, ◌||◌, Bool, true, false, not, nat_lt, List, [], ◌∷◌, ◌++◌, codes}
use Rattle.std.specs.Prelude.{Option, Some, None}
use Rattle.std.specs.List.{list_any}
use Rattle.dfdl_markup.specs.Trees.{Node}
use Rattle.dfdl_constructs.specs.declared.role.Role.{Role}
use Rattle.dfdl_constructs.specs.declared.role.Role.TheVariants as role
use Rattle.dfdl_constructs.specs.declared.value.ValueForm.{ValueForm}
use Rattle.dfdl_constructs.specs.declared.value.ValueForm.TheVariants.{NcName, QName, Digits}
use Rattle.dfdl_constructs.specs.declared.value.ValueForm.TheVariants.{DigitsOrUnbounded, One, Boolean}
use Rattle.dfdl_constructs.specs.Elements.{plain_of, dfdl_of}
use Rattle.dfdl_constructs.specs.Values.{is_value, is_number, number}
use Rattle.dfdl_constructs.specs.Roles.{role_at}

-- an attribute that is looked at: one of no namespace with values of this form, or the reference to a
-- format in short form
pub data Known : Type 0 where
  Plain : List ℕ → ValueForm → Known
  FormatReference : Known

-- how often an element occurs
abbrev pub occurrences : List Known
occurrences =
    Plain (codes "minOccurs") Digits ∷ Plain (codes "maxOccurs") DigitsOrUnbounded ∷ []

-- a group occurs once
abbrev pub group_occurrences : List Known
group_occurrences = Plain (codes "minOccurs") One ∷ Plain (codes "maxOccurs") One ∷ []

-- what global and local elements have
abbrev pub element_attributes : List Known
element_attributes =
    Plain (codes "name") NcName
    ∷ Plain (codes "type") QName
    ∷ Plain (codes "nillable") Boolean
    ∷ FormatReference
    ∷ []

-- the attributes of a construct that are looked at
unfoldable pub attributes_of : Role → List Known
attributes_of role.GlobalElement = element_attributes
attributes_of role.LocalElement = occurrences ++ element_attributes
attributes_of role.ElementReference = occurrences ++ Plain (codes "ref") QName ∷ FormatReference ∷ []
attributes_of role.GlobalComplexType = Plain (codes "name") NcName ∷ []
attributes_of role.GlobalSimpleType = Plain (codes "name") NcName ∷ FormatReference ∷ []
attributes_of role.LocalSimpleType = FormatReference ∷ []
attributes_of role.Restriction = Plain (codes "base") QName ∷ []
attributes_of role.MinLength = Plain (codes "value") Digits ∷ []
attributes_of role.MaxLength = Plain (codes "value") Digits ∷ []
attributes_of role.GlobalGroup = Plain (codes "name") NcName ∷ []
attributes_of role.GroupReference =
    group_occurrences ++ Plain (codes "ref") QName ∷ FormatReference ∷ []
attributes_of role.Sequence = group_occurrences ++ FormatReference ∷ []
attributes_of role.Choice = group_occurrences ++ FormatReference ∷ []
attributes_of role.DefaultFormat = Plain (codes "ref") QName ∷ []
attributes_of role.DefinedFormat = Plain (codes "ref") QName ∷ []
attributes_of role.ComponentProperties = Plain (codes "ref") QName ∷ []
attributes_of role.DefineFormat = Plain (codes "name") NcName ∷ []
attributes_of role.DefineEscapeScheme = Plain (codes "name") NcName ∷ []
attributes_of role.DefineVariable = Plain (codes "name") NcName ∷ Plain (codes "type") QName ∷ []
attributes_of role.Property = Plain (codes "name") NcName ∷ []
attributes_of role.SetVariable = Plain (codes "ref") QName ∷ []
attributes_of role.NewVariableInstance = Plain (codes "ref") QName ∷ []
attributes_of _ = []

-- a value that is there and not of the form
abbrev pub is_other : ValueForm → Option (List ℕ) → Bool
is_other form None = false
is_other form (Some value) = not (is_value form value)

-- the element has the attribute with a value that it can't have
abbrev pub is_refused : List Node → ℕ → Known → Bool
is_refused nodes element (Plain name form) = is_other form (plain_of nodes element name)
is_refused nodes element FormatReference = is_other QName (dfdl_of nodes element (codes "ref"))

-- the construct occurs as often as its bounds say
abbrev pub is_occurring : Role → Bool
is_occurring role.LocalElement = true
is_occurring role.ElementReference = true
is_occurring _ = false

-- a bound, 1 where it is absent
abbrev pub or_one : Option (List ℕ) → List ℕ
or_one None = codes "1"
or_one (Some value) = value

-- both are numbers, and the first is above the second
abbrev pub is_above : List ℕ → List ℕ → Bool
is_above least most = is_number least && (is_number most && nat_lt (number most) (number least))

-- the least number of occurrences is above the greatest
abbrev pub are_bounds_turned : List Node → ℕ → Bool
are_bounds_turned nodes element =
    is_above (or_one (plain_of nodes element (codes "minOccurs")))
    (or_one (plain_of nodes element (codes "maxOccurs")))

-- an element of this role has an attribute with a value that it can't have, or turned bounds
abbrev pub is_not_allowed_by : List Node → ℕ → Role → Bool
is_not_allowed_by nodes element role =
    list_any (is_refused nodes element) (attributes_of role)
    || (is_occurring role && are_bounds_turned nodes element)

-- the element of this number has one, by its role
abbrev pub is_value_not_allowed : List Node → ℕ → Bool
is_value_not_allowed nodes element = is_not_allowed_by nodes element (role_at nodes element)
