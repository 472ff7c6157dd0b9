-- What is kept of one document more.
use Rattle.std.proofs.Common.{◌≡◌, ℕ, ◌+◌, ◌<◌, List, [], ◌∷◌, ◌++◌, length, get_or, ap, sym, subst, ◌∙◌, arith, inl, inr}
use Rattle.std.proofs.Math.ListN.{get_or-append}
use Rattle.std.proofs.Math.Seq.{get_or-append_seam}
use Rattle.std.proofs.lemmas.Bool.{cases_eq}
use Rattle.dfdl_documents.specs.Documents.{SchemaDocument}
use Rattle.dfdl_components.specs.declared.schema.Index.{Index}
use Rattle.dfdl_components.specs.Shown.{IsIndex}

pub one_more : (documents : List SchemaDocument) (xs : List Index) (x : Index) (n : ℕ) → length xs ≡ n
    → ((i : ℕ) (other : Index) → i < n → IsIndex documents i (get_or xs i other)) → IsIndex documents n x
    → (i : ℕ) (other : Index) → i < n + 1 → IsIndex documents i (get_or (xs ++ x ∷ []) i other)
one_more documents xs x n long each is i other small = elim (cases_eq i n) [
  | inl last ↦
      let at : get_or (xs ++ x ∷ []) i other ≡ x
      = ap (λ (k : ℕ). get_or (xs ++ x ∷ []) k other) (last ∙ sym long) ∙ get_or-append_seam xs x [] other in
      subst (λ (y : Index). IsIndex documents i y) (sym at) (subst (λ (k : ℕ). IsIndex documents k x) (sym last) is)
  | inr before ↦
      let low : i < length xs = omega (arith, small, before, long) in
      subst (λ (y : Index). IsIndex documents i y) (sym (get_or-append xs (x ∷ []) other i low)) (each i other (omega (arith, small, before)))
]
