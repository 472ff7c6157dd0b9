-- The last row is the root's.
use Rattle.std.proofs.Common.{◌≡◌, ℕ, Bool, true, false, List, Option, None, Some, ap, sym, subst, ◌∙◌, refl}
use Rattle.dfdl_constructs.specs.declared.role.Role.{Role}
use Rattle.dfdl_constructs.specs.declared.role.Role.TheVariants as role
use Rattle.dfdl_documents.specs.Documents.{SchemaDocument}
use Rattle.dfdl_components.specs.declared.site.Site.{Site}
use Rattle.dfdl_components.specs.Sites.{IsSite, role_of}
use Rattle.dfdl_components.specs.Recursion.{number_of}
use Rattle.dfdl_checks.specs.Subjects.{is_sequence}
use Rattle.dfdl_checks.specs.declared.purpose.Purpose.{Purpose}
use Rattle.dfdl_chains.specs.declared.typed.Typed.{Typed}
use Rattle.dfdl_chains.specs.declared.typed.Typed.TheVariants.{Carried, NotCarried, Defined}
use Rattle.dfdl_chains.specs.Derivation.{type_of as element_type}
use Rattle.dfdl_chains.specs.Kinds.{kind_at, kind_by, kind_of_type}
use Rattle.dfdl_breaches.specs.Judging.{judgement_at}
use Rattle.dfdl_breaches.proofs.Numbering.{value-at}
use Rattle.dfdl_terms.specs.Framing.{no_fill}
use Rattle.dfdl_terms.specs.Rows.{IsElementRow}
use Rattle.dfdl_terms.specs.declared.row.Row.{Row}
use Rattle.dfdl_rows.specs.Answers.{EndsWith}
use Rattle.dfdl_rows.specs.Components.{Schema, component_at as part_at}
use Rattle.dfdl_rows.specs.declared.component.Component.{Component}
use Rattle.dfdl_rows.specs.declared.component.Component.TheVariants.{Sequence}
use Rattle.dfdl_breaches.specs.Roots.{is_global_element}
use Rattle.dfdl_rows.specs.declared.component.Dispatch.{Dispatch}
use Rattle.dfdl_compile.specs.Components.{component_at, components_of, dispatch_at, hiding_by, keyed_by}
use Rattle.dfdl_compile.specs.Shown.{EndsWithElement}
use Rattle.dfdl_compile.proofs.Fitting.{made, made_is, of_kind, calculation_or}
use Rattle.dfdl_compile.proofs.Hiding.{none_hidden}

-- the row of an element of a type is an element
typed_last : (made : List Row) (purpose : Purpose) (refused : Site → Bool) (documents : List SchemaDocument) (own : Site) (typed : Typed)
    → EndsWith (of_kind purpose refused documents own (kind_of_type typed)) made → EndsWithElement made
typed_last made purpose refused documents own (Carried simple) ends = subst IsElementRow (sym ends) tt
typed_last made purpose refused documents own NotCarried ends = subst IsElementRow (sym ends) tt
typed_last made purpose refused documents own (Defined type) ends = subst IsElementRow (sym ends) tt

-- so is that of a calculated one
valued_last : (made : List Row) (purpose : Purpose) (refused : Site → Bool) (documents : List SchemaDocument) (own : Site) (typed : Typed) (o : Option (List ℕ))
    → EndsWith (calculation_or purpose refused documents own o (of_kind purpose refused documents own (kind_of_type typed))) made → EndsWithElement made
valued_last made purpose refused documents own typed None ends = typed_last made purpose refused documents own typed ends
valued_last made purpose refused documents own typed (Some text) ends = subst IsElementRow (sym ends) tt

global_role : (r : Role) → is_global_element r ≡ true → r ≡ role.GlobalElement
global_role role.GlobalElement is = refl
global_role _ is = absurd (cc)

-- an element of a type is no sequence
no_sequence : (typed : Typed) → is_sequence (kind_of_type typed) ≡ false
no_sequence (Carried simple) = refl
no_sequence NotCarried = refl
no_sequence (Defined type) = refl

-- an element of a type is no choice
no_choice : (purpose : Purpose) (refused : Site → Bool) (documents : List SchemaDocument) (own : Site) (o : Option Dispatch) (calculation : Option (List ℕ)) (typed : Typed)
    → keyed_by o (calculation_or purpose refused documents own calculation (of_kind purpose refused documents own (kind_of_type typed)))
    ≡ calculation_or purpose refused documents own calculation (of_kind purpose refused documents own (kind_of_type typed))
no_choice purpose refused documents own None calculation typed = refl
no_choice purpose refused documents own (Some dispatch) (Some text) typed = refl
no_choice purpose refused documents own (Some dispatch) None (Carried simple) = refl
no_choice purpose refused documents own (Some dispatch) None NotCarried = refl
no_choice purpose refused documents own (Some dispatch) None (Defined type) = refl

-- a global element is that of its type
global_is : (purpose : Purpose) (refused : Site → Bool) (documents : List SchemaDocument) (own : Site) → is_global_element (role_of documents own) ≡ true
    → component_at purpose refused documents own
    ≡ calculation_or purpose refused documents own (judgement_at purpose refused documents own).calculation
    (of_kind purpose refused documents own (kind_of_type (element_type documents own)))
unfolding kind_at
global_is purpose refused documents own global =
    let is : role_of documents own ≡ role.GlobalElement = global_role (role_of documents own) global in
    let kind_is : kind_by documents own (role_of documents own) ≡ kind_of_type (element_type documents own) = ap (kind_by documents own) is in
    let other : is_sequence (kind_at documents own) ≡ false = ap is_sequence kind_is ∙ no_sequence (element_type documents own) in
    made_is purpose refused documents own
    ∙ (ap (λ (hidden : Option Site). keyed_by (dispatch_at purpose refused documents own) (hiding_by hidden (calculation_or purpose refused documents own
    (judgement_at purpose refused documents own).calculation (made purpose refused documents own (role_of documents own)))))
    (none_hidden purpose refused documents own other)
    ∙ (ap (λ (r : Role). keyed_by (dispatch_at purpose refused documents own) (calculation_or purpose refused documents own
    (judgement_at purpose refused documents own).calculation (made purpose refused documents own r))) is
    ∙ no_choice purpose refused documents own (dispatch_at purpose refused documents own) (judgement_at purpose refused documents own).calculation
    (element_type documents own)))

-- the component of a root's number
at_root : (purpose : Purpose) (refused : Site → Bool) (documents : List SchemaDocument) (root : Site) → IsSite documents root
    → part_at (components_of purpose refused documents).components (number_of documents root) ≡ component_at purpose refused documents root
unfolding components_of
at_root purpose refused documents root within = value-at documents (component_at purpose refused documents) root (Sequence no_fill None false) within

-- the last row is an element, where the root is one
pub root_element : (purpose : Purpose) (refused : Site → Bool) (documents : List SchemaDocument) (root : Site) (schema : Schema) (number : ℕ) (made : List Row)
    → schema ≡ components_of purpose refused documents
    → number ≡ number_of documents root → IsSite documents root → is_global_element (role_of documents root) ≡ true
    → EndsWith (part_at schema.components number) made → EndsWithElement made
root_element purpose refused documents root schema number made schema_is number_is within global ends =
    valued_last made purpose refused documents root (element_type documents root) (judgement_at purpose refused documents root).calculation
    (subst (λ (k : Component). EndsWith k made)
    (ap (λ (s : Schema). part_at s.components number) schema_is
    ∙ (ap (λ (n : ℕ). part_at (components_of purpose refused documents).components n) number_is
    ∙ (at_root purpose refused documents root within ∙ global_is purpose refused documents root global))) ends)
