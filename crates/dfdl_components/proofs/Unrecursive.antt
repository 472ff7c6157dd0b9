-- Schemas that keep the rules have an order.
use Rattle.std.proofs.Common.{◌≡◌, refl, sym, ap, subst, ◌∙◌, ℕ, zero, suc, ◌+◌, ◌<◌, ◌≤◌, ◌-◌, List, [], ◌∷◌, length, slice_get, Option, Some, None, Bool, true, false, if◌then◌else◌, ◌⊎◌, inl, inr, arith}
use Rattle.dfdl_report.specs.declared.cause.SchemaCause.TheVariants as cause
use Rattle.dfdl_order.specs.Cycles.{IsFirstRecursive, reaches_itself}
use Rattle.dfdl_documents.specs.Documents.{SchemaDocument}
use Rattle.dfdl_components.specs.declared.site.Site.{Site}
use Rattle.dfdl_components.specs.Globals.{site}
use Rattle.dfdl_components.specs.Recursion.{all_uses, count_of, is_recursive, number_of, start_of}
use Rattle.dfdl_components.specs.Rules.{AllKeep, Rule, first_at, loading_rules}
use Rattle.dfdl_components.specs.Sites.{IsSite, nodes_of}
use Rattle.dfdl_components.proofs.Consisting.{length_all}

-- a number is below another, or is not
either : (i k : ℕ) → (i < k) ⊎ (k ≤ i)
either i zero = inr (omega arith)
either zero (suc k) = inl (omega arith)
either (suc i) (suc k) = elim (either i k) [
  | inl less ↦ inl (omega (arith, less))
  | inr past ↦ inr (omega (arith, past))
]

-- an element of a number
record IsNumbered (documents : List SchemaDocument) (i : ℕ) : Type 0 where
  own : Site
  is : IsSite documents own
  number : number_of documents own ≡ i

numbered_before : (documents : List SchemaDocument) (n i : ℕ) → n ≤ length documents → i < start_of documents n → IsNumbered documents i
numbered_before documents zero i most low = absurd (omega (arith, low))
numbered_before documents (suc n) i most low = elim (either i (start_of documents n)) [
  | inl less ↦ numbered_before documents n i (omega (arith, most)) less
  | inr past ↦ record {
    own = site n (i - start_of documents n);
    is = (omega (arith, most), omega (arith, past, low));
    number = omega (arith, past);
  }
]

-- an element that breaks none of some rules does not break one of them
kept : (rules : List Rule) (own : Site) → first_at rules own ≡ None → (i : ℕ) (rule : Rule) → slice_get rules i ≡ Some rule → rule.breaks own ≡ false
kept [] own none i rule there = absurd (grind (arith, there))
kept (first ∷ rules) own none zero rule there = by (first.breaks own) refl none
  where
    or-first : Option Rule → Rule
    or-first None = first
    or-first (Some other) = other

    by : (b : Bool) → first.breaks own ≡ b → (if b then Some first.cause else first_at rules own) ≡ None → rule.breaks own ≡ false
    by true broken at = absurd (grind (arith, at))
    by false passed at = subst (λ (r : Rule). r.breaks own ≡ false) (ap or-first there) passed
kept (first ∷ rules) own none (suc i) rule there = by (first.breaks own) none (λ rest. kept rules own rest i rule there)
  where
    by : (b : Bool) → (if b then Some first.cause else first_at rules own) ≡ None → (first_at rules own ≡ None → rule.breaks own ≡ false)
        → rule.breaks own ≡ false
    by true at go = absurd (grind (arith, at))
    by false at go = go at

-- an element that keeps the rules does not reach itself
not_recursive : (documents : List SchemaDocument) (own : Site) → first_at (loading_rules documents) own ≡ None → is_recursive documents own ≡ false
unfolding loading_rules
not_recursive documents own none =
    kept (loading_rules documents) own none 4 (record { cause = cause.Recursive; breaks = is_recursive documents }) refl

-- no element of a schema that keeps the rules reaches itself
pub none_recursive : (documents : List SchemaDocument) (uses : List (List ℕ)) (c : ℕ) → uses ≡ all_uses documents
    → AllKeep (loading_rules documents) documents → IsFirstRecursive uses c → ⊥
none_recursive documents uses c same keep is =
    let recursive : reaches_itself (all_uses documents) c ≡ true = subst (λ (u : List (List ℕ)). reaches_itself u c ≡ true) same is.recursive in
    let low : c < length (all_uses documents) = subst (λ (u : List (List ℕ)). c < length u) same is.within in
    let long : length (all_uses documents) ≡ count_of documents = length_all documents in
    let there : IsNumbered documents c = numbered_before documents (length documents) c (omega arith) (omega (arith, low, long)) in
    let not : reaches_itself (all_uses documents) (number_of documents there.own) ≡ false = not_recursive documents there.own (keep there.own there.is) in
    let broken : true ≡ false = sym recursive ∙ subst (λ (k : ℕ). reaches_itself (all_uses documents) k ≡ false) there.number not in
    grind (arith, broken)
