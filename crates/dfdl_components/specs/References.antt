-- Which attributes refer to a global component, and to which kind ('DFDL Schema Component Model',
-- 'Syntax of DFDL Annotation Elements').
use Rattle.std.specs.Prelude.{ℕ, List, [], ◌∷◌, Option, codes}
use Rattle.dfdl_markup.specs.Trees.{Node}
use Rattle.dfdl_constructs.specs.declared.role.Role.{Role}
use Rattle.dfdl_constructs.specs.declared.role.Role.TheVariants as role
use Rattle.dfdl_constructs.specs.Elements.{plain_of, dfdl_of}
use Rattle.dfdl_components.specs.declared.kind.ComponentKind.{ComponentKind}
use Rattle.dfdl_components.specs.declared.kind.ComponentKind.TheVariants as kind

-- an attribute that refers to a component of a kind: one of no namespace, or one of DFDL's
pub data Referring : Type 0 where
  Plain : List ℕ → ComponentKind → Referring
  Short : List ℕ → ComponentKind → Referring

-- the reference to a format in short form
abbrev pub format_reference : List Referring
format_reference = Short (codes "ref") kind.Format ∷ []

-- THE table: the attributes of a construct that refer to components
unfoldable pub referring : Role → List Referring
referring role.GlobalElement = Plain (codes "type") kind.Type ∷ format_reference
referring role.LocalElement = Plain (codes "type") kind.Type ∷ format_reference
referring role.ElementReference = Plain (codes "ref") kind.Element ∷ format_reference
referring role.GroupReference = Plain (codes "ref") kind.Group ∷ format_reference
referring role.GlobalSimpleType = format_reference
referring role.LocalSimpleType = format_reference
referring role.Sequence = format_reference
referring role.Choice = format_reference
referring role.Restriction = Plain (codes "base") kind.Type ∷ []
referring role.DefaultFormat = Plain (codes "ref") kind.Format ∷ []
referring role.DefinedFormat = Plain (codes "ref") kind.Format ∷ []
referring role.ComponentProperties = Plain (codes "ref") kind.Format ∷ []
referring role.SetVariable = Plain (codes "ref") kind.Variable ∷ []
referring role.NewVariableInstance = Plain (codes "ref") kind.Variable ∷ []
referring _ = []

-- the kind of component that it refers to
abbrev pub kind_referred : Referring → ComponentKind
kind_referred (Plain name kind) = kind
kind_referred (Short name kind) = kind

-- the name that it gives at an element
abbrev pub name_given : List Node → ℕ → Referring → Option (List ℕ)
name_given nodes element (Plain name kind) = plain_of nodes element name
name_given nodes element (Short name kind) = dfdl_of nodes element name
