-- Steps from types to their bases.
use Rattle.std.proofs.Common.{◌≡◌, ℕ, zero, suc, ◌+◌, ◌<◌, ◌-◌, List, [], ◌∷◌, ◌++◌, Option, Some, None, ap, sym, ◌∙◌, refl, arith, append_assoc}
use Rattle.std.proofs.lemmas.List.{append-nil}
use Rattle.dfdl_documents.specs.Documents.{SchemaDocument}
use Rattle.dfdl_components.specs.declared.site.Site.{Site}
use Rattle.dfdl_chains.specs.declared.typed.Typed.{Typed}
use Rattle.dfdl_chains.specs.Derivation.{simple_type, base_type, with_bases, derived_within, or_base, primitive_within}

-- no step more
pub primitive_all : (documents : List SchemaDocument) (n : ℕ) (typed : Typed) → n ≡ 0 → primitive_within n documents typed ≡ typed
unfolding primitive_within
primitive_all documents zero typed none = refl
primitive_all documents (suc n) typed none = absurd (omega (arith, none))

pub primitive_none : (documents : List SchemaDocument) (n : ℕ) (typed : Typed) → simple_type documents typed ≡ None → primitive_within n documents typed ≡ typed
unfolding primitive_within
primitive_none documents zero typed none = refl
primitive_none documents (suc n) typed none = ap (or_base documents (primitive_within n documents) typed) none

-- one step
primitive_suc : (documents : List SchemaDocument) (n : ℕ) (typed : Typed) (own : Site) → simple_type documents typed ≡ Some own
    → primitive_within (suc n) documents typed ≡ primitive_within n documents (base_type documents own)
unfolding primitive_within
primitive_suc documents n typed own is = ap (or_base documents (primitive_within n documents) typed) is

pub primitive_step : (documents : List SchemaDocument) (most step : ℕ) (typed last first : Typed) (own : Site) → step < most → simple_type documents last ≡ Some own
    → primitive_within (most - step) documents last ≡ first → typed ≡ base_type documents own
    → primitive_within (most - (step + 1)) documents typed ≡ first
primitive_step documents most step typed last first own less is before based =
    let same : most - step ≡ suc (most - (step + 1)) = omega (arith, less) in
    ap (primitive_within (most - (step + 1)) documents) based
    ∙ (sym (primitive_suc documents (most - (step + 1)) last own is)
    ∙ (ap (λ (n : ℕ). primitive_within n documents last) (sym same) ∙ before))

pub derived_all : (documents : List SchemaDocument) (n : ℕ) (typed : Typed) (xs : List Site) → n ≡ 0 → xs ++ derived_within n documents typed ≡ xs
unfolding derived_within
derived_all documents zero typed xs none = append-nil xs
derived_all documents (suc n) typed xs none = absurd (omega (arith, none))

pub derived_none : (documents : List SchemaDocument) (n : ℕ) (typed : Typed) (xs : List Site) → simple_type documents typed ≡ None → xs ++ derived_within n documents typed ≡ xs
unfolding derived_within
derived_none documents zero typed xs none = append-nil xs
derived_none documents (suc n) typed xs none = ap (λ (o : Option Site). xs ++ with_bases documents (derived_within n documents) o) none ∙ append-nil xs

derived_suc : (documents : List SchemaDocument) (n : ℕ) (typed : Typed) (own : Site) → simple_type documents typed ≡ Some own
    → derived_within (suc n) documents typed ≡ own ∷ derived_within n documents (base_type documents own)
unfolding derived_within
derived_suc documents n typed own is = ap (with_bases documents (derived_within n documents)) is

pub derived_step : (documents : List SchemaDocument) (most step : ℕ) (typed last : Typed) (own : Site) (old new whole : List Site) → step < most → simple_type documents last ≡ Some own
    → old ++ derived_within (most - step) documents last ≡ whole → typed ≡ base_type documents own → new ≡ old ++ own ∷ []
    → new ++ derived_within (most - (step + 1)) documents typed ≡ whole
derived_step documents most step typed last own old new whole less is before based pushed =
    let same : most - step ≡ suc (most - (step + 1)) = omega (arith, less) in
    ap (λ (xs : List Site). xs ++ derived_within (most - (step + 1)) documents typed) pushed
    ∙ (append_assoc old (own ∷ []) (derived_within (most - (step + 1)) documents typed)
    ∙ (ap (λ (t : Typed). old ++ own ∷ derived_within (most - (step + 1)) documents t) based
    ∙ (ap (λ (xs : List Site). old ++ xs) (sym (derived_suc documents (most - (step + 1)) last own is))
    ∙ (ap (λ (n : ℕ). old ++ derived_within n documents last) (sym same) ∙ before))))
