-- How the names of elements are gathered.
use Rattle.std.proofs.Common.{◌≡◌, ℕ, ◌+◌, List, Option, Some, None, Bool, true, false, if◌then◌else◌, is_some, bytes_eq, slice_get, BTreeMap, String, ap, sym, ◌∙◌, refl, inl, inr, subst, add-one}
use Rattle.std.proofs.lemmas.Bool.{cases_Bool}
use Rattle.std.proofs.lemmas.Slice.Eq.{bytes_eq-Decides}
use Rattle.std.specs.BTreeMap.{IsEmpty, get_by_text}
use Rattle.dfdl_terms.specs.declared.row.Row.{Row}
use Rattle.dfdl_statements.specs.Children.{name_in}
use Rattle.dfdl_statements.specs.Elements.{is_text, named_in, or_else}

pub or_none : {X : Type 0} (o : Option X) → or_else o None ≡ o
or_none None = refl
or_none (Some x) = refl

pub is_absent : {X : Type 0} (o : Option X) → is_some o ≡ false → o ≡ None
is_absent None e = refl
is_absent (Some x) e = let never : true ≡ false = e in cc

-- one row more
pub gathered : (rows : List Row) (q : List ℕ) (n : ℕ) (old new : Option ℕ) (name : Option (List ℕ)) (row : Row)
    → new ≡ or_else old (if is_text q name then Some n else None) → name ≡ name_in (Some row) → slice_get rows n ≡ Some row
    → old ≡ named_in rows q n → new ≡ named_in rows q (n + 1)
gathered rows q n old new name row step is there before =
    rw add-one
    (step
    ∙ (ap (λ (o : Option ℕ). or_else o (if is_text q name then Some n else None)) before
    ∙ (ap (λ (t : Option (List ℕ)). or_else (named_in rows q n) (if is_text q t then Some n else None)) is
    ∙ ap (λ (r : Option Row). or_else (named_in rows q n) (if is_text q (name_in r) then Some n else None)) (sym there))))

-- one name more, unless there is one
pub put_new : (old new : List ℕ → Option ℕ) (name q : List ℕ) (e : ℕ) → new q ≡ (if bytes_eq name q then Some e else old q) → is_some (old name) ≡ false
    → new q ≡ or_else (old q) (if bytes_eq name q then Some e else None)
put_new old new name q e step absent = elim (cases_Bool (bytes_eq name q)) [
  | inl same ↦
      let none : old q ≡ None = subst (λ (t : List ℕ). old t ≡ None) ((bytes_eq-Decides name q).0 same) (is_absent (old name) absent) in
      step
      ∙ (ap (λ (b : Bool). if b then Some e else old q) same
      ∙ sym (ap (λ (b : Bool). or_else (old q) (if b then Some e else None)) same ∙ ap (λ (o : Option ℕ). or_else o (Some e)) none))
  | inr other ↦
      step
      ∙ (ap (λ (b : Bool). if b then Some e else old q) other
      ∙ sym (ap (λ (b : Bool). or_else (old q) (if b then Some e else None)) other ∙ or_none (old q)))
]

-- no name more, where there is one
pub put_old : (old : List ℕ → Option ℕ) (name q : List ℕ) (e : ℕ) → is_some (old name) ≡ true → old q ≡ or_else (old q) (if bytes_eq name q then Some e else None)
put_old old name q e there = elim (cases_Bool (bytes_eq name q)) [
  | inl same ↦ sym (kept (old q) (Some e) (subst (λ (t : List ℕ). is_some (old t) ≡ true) ((bytes_eq-Decides name q).0 same) there)
      ∙ refl) ∙ ap (λ (b : Bool). or_else (old q) (if b then Some e else None)) (sym same)
  | inr other ↦ sym (ap (λ (b : Bool). or_else (old q) (if b then Some e else None)) other ∙ or_none (old q))
]
  where
    kept : (o other : Option ℕ) → is_some o ≡ true → or_else o other ≡ o
    kept None other e = let never : false ≡ true = e in cc
    kept (Some x) other e = refl

-- no names
pub none_at : {Y : Type 0} (names : BTreeMap (String Y) ℕ) → IsEmpty names → (q : List ℕ) → get_by_text names q ≡ None
none_at names empty q = rw empty refl
