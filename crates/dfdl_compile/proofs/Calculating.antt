-- The elements whose values are calculated.
use Rattle.std.proofs.Common.{◌≡◌, ℕ, List, [], Bool, true, false, Option, Some, None, IsSome, refl}
use Rattle.dfdl_constructs.specs.declared.role.Role.{Role}
use Rattle.dfdl_constructs.specs.declared.role.Role.TheVariants as role
use Rattle.dfdl_documents.specs.Documents.{SchemaDocument}
use Rattle.dfdl_components.specs.declared.site.Site.{Site}
use Rattle.dfdl_components.specs.Sites.{role_of}
use Rattle.dfdl_checks.specs.Subjects.{simple_of}
use Rattle.dfdl_checks.specs.declared.purpose.Purpose.{Purpose}
use Rattle.dfdl_checks.specs.declared.purpose.Purpose.TheVariants.{Unparsing}
use Rattle.dfdl_chains.specs.Chains.{group_content}
use Rattle.dfdl_chains.specs.Derivation.{type_of}
use Rattle.dfdl_chains.specs.Kinds.{kind_at, kind_by, kind_of_content, kind_of_group, kind_of_type}
use Rattle.dfdl_chains.specs.Parts.{contents, is_component, parts_at, parts_by}
use Rattle.dfdl_chains.specs.declared.typed.Typed.{Typed}
use Rattle.dfdl_chains.specs.declared.typed.Typed.TheVariants.{Carried, NotCarried, Defined}
use Rattle.dfdl_breaches.specs.Judging.{calculation_at, judgement_at}
use Rattle.dfdl_compile.proofs.Hiding.{judgement_if}

-- the value of a component that is told to be calculated is calculated
told_if : (purpose : Purpose) (refused : Site → Bool) (documents : List SchemaDocument) (own : Site) (text : List ℕ) (b : Bool)
    → (judgement_if purpose refused documents own b).calculation ≡ Some text → calculation_at purpose refused documents own ≡ Some text
unfolding judgement_if
told_if purpose refused documents own text true is = is
told_if purpose refused documents own text false is = absurd (cc)

told_calculated : (purpose : Purpose) (refused : Site → Bool) (documents : List SchemaDocument) (own : Site) (text : List ℕ)
    → (judgement_at purpose refused documents own).calculation ≡ Some text → calculation_at purpose refused documents own ≡ Some text
unfolding judgement_at judgement_if
told_calculated purpose refused documents own text is = told_if purpose refused documents own text (is_component (role_of documents own)) is

-- none is for unparsing
pub none_calculated : (refused : Site → Bool) (documents : List SchemaDocument) (own : Site) (text : List ℕ)
    → calculation_at Unparsing refused documents own ≡ None → (judgement_at Unparsing refused documents own).calculation ≡ Some text → ⊥
none_calculated refused documents own text none is =
    let some : calculation_at Unparsing refused documents own ≡ Some text = told_calculated Unparsing refused documents own text is in
    cc

-- an element of a simple type has no parts
typed_alone : (documents : List SchemaDocument) (t : Typed) → IsSome (simple_of (kind_of_type t)) → contents documents t ≡ []
typed_alone documents (Carried simple) is = refl
typed_alone documents NotCarried is = refl
typed_alone documents (Defined own) is = absurd (cc)

group_typeless : (r : Role) → IsSome (simple_of (kind_of_group r)) → ⊥
group_typeless role.Choice is = cc
group_typeless _ is = cc

content_typeless : (documents : List SchemaDocument) (o : Option Site) → IsSome (simple_of (kind_of_content documents o)) → ⊥
content_typeless documents None is = cc
content_typeless documents (Some own) is = group_typeless (role_of documents own) is

role_alone : (documents : List SchemaDocument) (own : Site) (r : Role) → IsSome (simple_of (kind_by documents own r)) → parts_by documents own r ≡ []
role_alone documents own role.GlobalElement is = typed_alone documents (type_of documents own) is
role_alone documents own role.LocalElement is = typed_alone documents (type_of documents own) is
role_alone documents own role.ElementReference is = typed_alone documents (type_of documents own) is
role_alone documents own role.GroupReference is = absurd (content_typeless documents (group_content documents own) is)
role_alone documents own role.Choice is = absurd (cc)
role_alone documents own _ is = absurd (cc)

-- components whose values are calculated are of simple types
abbrev pub AreCalculatedSimple : Purpose → (Site → Bool) → List SchemaDocument → Type 0
AreCalculatedSimple purpose refused documents = (own : Site) (text : List ℕ) → calculation_at purpose refused documents own ≡ Some text
    → IsSome (simple_of (kind_at documents own))

-- such a component has no parts either
pub calculated_alone : (purpose : Purpose) (refused : Site → Bool) (documents : List SchemaDocument) (own : Site) (text : List ℕ)
    → AreCalculatedSimple purpose refused documents → (judgement_at purpose refused documents own).calculation ≡ Some text → parts_at documents own ≡ []
unfolding kind_at parts_at
calculated_alone purpose refused documents own text law is =
    role_alone documents own (role_of documents own) (law own text (told_calculated purpose refused documents own text is))
