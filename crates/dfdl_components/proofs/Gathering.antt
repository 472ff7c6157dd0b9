-- How the names of a document are gathered.
use Rattle.std.proofs.Common.{◌≡◌, ℕ, ◌+◌, ◌&&◌, List, Option, Some, None, Bool, true, false, if◌then◌else◌, is_some, bytes_eq, BTreeMap, String, ap, sym, ◌∙◌, refl, inl, inr, subst}
use Rattle.std.proofs.lemmas.Bool.{cases_Bool}
use Rattle.std.proofs.lemmas.Slice.Eq.{bytes_eq-Decides}
use Rattle.std.specs.BTreeMap.{IsEmpty, get_by_text}
use Rattle.dfdl_components.specs.Searching.{or_else, first_below}
use Rattle.dfdl_markup.specs.Trees.{Node}
use Rattle.dfdl_constructs.specs.Roles.{role_at}
use Rattle.dfdl_components.specs.declared.kind.ComponentKind.{ComponentKind}
use Rattle.dfdl_components.specs.Globals.{is_kind, is_text, kind_of, name_at, named_at}
use Rattle.dfdl_components.proofs.Searching.{first_more}

pub or_none : {X : Type 0} (o : Option X) → or_else o None ≡ o
or_none None = refl
or_none (Some x) = refl

pub is_absent : {X : Type 0} (o : Option X) → is_some o ≡ false → o ≡ None
is_absent None e = refl
is_absent (Some x) e = let never : true ≡ false = e in cc

-- a text that is there, if a test holds
pub text_if : (test : Bool) (q : List ℕ) (name : Option (List ℕ)) → is_text q (if test then name else None) ≡ (test && is_text q name)
text_if true q name = refl
text_if false q name = refl

-- one element more
pub gathered : (nodes : List Node) (kind : ComponentKind) (q : List ℕ) (e : ℕ) (old new : Option ℕ) (name : Option (List ℕ))
    → new ≡ or_else old (if is_text q name then Some e else None)
    → name ≡ (if is_kind kind (kind_of (role_at nodes e)) then name_at nodes e else None)
    → old ≡ first_below (named_at nodes kind q) e
    → new ≡ first_below (named_at nodes kind q) (e + 1)
gathered nodes kind q e old new name step is before =
    step
    ∙ (ap (λ (o : Option ℕ). or_else o (if is_text q name then Some e else None)) before
    ∙ (ap (λ (b : Bool). or_else (first_below (named_at nodes kind q) e) (if b then Some e else None))
    (ap (is_text q) is ∙ text_if (is_kind kind (kind_of (role_at nodes e))) q (name_at nodes e))
    ∙ sym (first_more (named_at nodes kind q) e)))

-- one name more, unless there is one
pub put_new : (old new : List ℕ → Option ℕ) (name q : List ℕ) (e : ℕ) → new q ≡ (if bytes_eq name q then Some e else old q) → is_some (old name) ≡ false
    → new q ≡ or_else (old q) (if bytes_eq name q then Some e else None)
put_new old new name q e step absent = elim (cases_Bool (bytes_eq name q)) [
  | inl same ↦
      let none : old q ≡ None = subst (λ (t : List ℕ). old t ≡ None) ((bytes_eq-Decides name q).0 same) (is_absent (old name) absent) in
      step
      ∙ (ap (λ (b : Bool). if b then Some e else old q) same
      ∙ sym (ap (λ (b : Bool). or_else (old q) (if b then Some e else None)) same ∙ ap (λ (o : Option ℕ). or_else o (Some e)) none))
  | inr other ↦
      step
      ∙ (ap (λ (b : Bool). if b then Some e else old q) other
      ∙ sym (ap (λ (b : Bool). or_else (old q) (if b then Some e else None)) other ∙ or_none (old q)))
]

-- no name more, where there is one
pub put_old : (old : List ℕ → Option ℕ) (name q : List ℕ) (e : ℕ) → is_some (old name) ≡ true → old q ≡ or_else (old q) (if bytes_eq name q then Some e else None)
put_old old name q e there = elim (cases_Bool (bytes_eq name q)) [
  | inl same ↦ sym (kept (old q) (Some e) (subst (λ (t : List ℕ). is_some (old t) ≡ true) ((bytes_eq-Decides name q).0 same) there)
      ∙ refl) ∙ ap (λ (b : Bool). or_else (old q) (if b then Some e else None)) (sym same)
  | inr other ↦ sym (ap (λ (b : Bool). or_else (old q) (if b then Some e else None)) other ∙ or_none (old q))
]
  where
    kept : (o other : Option ℕ) → is_some o ≡ true → or_else o other ≡ o
    kept None other e = let never : false ≡ true = e in cc
    kept (Some x) other e = refl

-- no names
pub none_at : {Y : Type 0} (names : BTreeMap (String Y) ℕ) → IsEmpty names → (q : List ℕ) → get_by_text names q ≡ None
none_at names empty q = rw empty refl
