-- What kind of component an element of the documents is ('DFDL Schema Component Model').
use Rattle.std.specs.Prelude.{List, Option, Some, None}
use Rattle.dfdl_constructs.specs.declared.role.Role.{Role}
use Rattle.dfdl_constructs.specs.declared.role.Role.TheVariants as role
use Rattle.dfdl_documents.specs.Documents.{SchemaDocument}
use Rattle.dfdl_components.specs.declared.site.Site.{Site}
use Rattle.dfdl_components.specs.Sites.{role_of}
use Rattle.dfdl_checks.specs.declared.subject.Kind.{Kind}
use Rattle.dfdl_checks.specs.declared.subject.Kind.TheVariants.{ComplexElement, SimpleElement, UncarriedElement, Sequence, Choice}
use Rattle.dfdl_chains.specs.declared.typed.Typed.{Typed}
use Rattle.dfdl_chains.specs.declared.typed.Typed.TheVariants.{Carried, NotCarried, Defined}
use Rattle.dfdl_chains.specs.Derivation.{type_of}
use Rattle.dfdl_chains.specs.Chains.{group_content}

-- an element of a type
abbrev pub kind_of_type : Typed → Kind
kind_of_type (Carried simple) = SimpleElement simple
kind_of_type NotCarried = UncarriedElement
kind_of_type (Defined own) = ComplexElement

-- a group of a role
abbrev pub kind_of_group : Role → Kind
kind_of_group role.Choice = Choice
kind_of_group _ = Sequence

-- the group that a reference stands for
abbrev pub kind_of_content : List SchemaDocument → Option Site → Kind
kind_of_content documents None = Sequence
kind_of_content documents (Some own) = kind_of_group (role_of documents own)

-- the kind of a component, by its role
abbrev pub kind_by : List SchemaDocument → Site → Role → Kind
kind_by documents own role.GlobalElement = kind_of_type (type_of documents own)
kind_by documents own role.LocalElement = kind_of_type (type_of documents own)
kind_by documents own role.ElementReference = kind_of_type (type_of documents own)
kind_by documents own role.GroupReference = kind_of_content documents (group_content documents own)
kind_by documents own role = kind_of_group role

-- the kind of a component; what is no component counts as a sequence
unfoldable pub kind_at : List SchemaDocument → Site → Kind
kind_at documents own = kind_by documents own (role_of documents own)
