-- Tables with an entry for each element.
use Rattle.std.proofs.Common.{◌≡◌, refl, sym, subst, ◌∙◌, ℕ, zero, suc, ◌+◌, ◌<◌, List, [], ◌∷◌, ◌++◌, length, get_or, inl, inr, arith, length-append}
use Rattle.std.proofs.lemmas.List.{get_or_append_left, get_or_at}
use Rattle.dfdl_components.specs.declared.site.Site.{Site}
use Rattle.dfdl_breaches.proofs.Numbering.{below-or}
use Rattle.dfdl_breaches.specs.Tabled.{AreTabled}

-- nothing is in a table of no elements
pub none_tabled : {X : Type 0} (relation : Site → X → Type 0) (sites : List Site) → AreTabled relation sites 0 []
none_tabled relation sites = record { count = refl; each = λ i own other low. absurd (omega (arith, low)) }

-- a table with the next element
pub one_tabled : {X : Type 0} (relation : Site → X → Type 0) (sites : List Site) (n : ℕ) (table new : List X) (own d : Site) (x : X)
    → n < length sites → AreTabled relation sites n table → own ≡ get_or sites n d → relation own x → new ≡ table ++ x ∷ []
    → AreTabled relation sites (n + 1) new
one_tabled {X} relation sites n table new own d x within tabled is holds pushed =
    subst (AreTabled relation sites (n + 1)) (sym pushed)
    record {
      count = let added = length-append table (x ∷ []) in let long = tabled.count in omega (arith, added, long);
      each = λ i site other low. elim (below-or i n (omega (arith, low))) [
        | inl less ↦
            let long = tabled.count in
            subst (relation (get_or sites i site)) (sym (get_or_append_left table (x ∷ []) other i (omega (arith, less, long)))) (tabled.each i site other less)
        | inr same ↦
            subst (λ (k : ℕ). relation (get_or sites k site) (get_or (table ++ x ∷ []) k other)) (sym same)
            (subst (relation (get_or sites n site)) (sym (get_or_at table x [] other n tabled.count))
            (subst (λ (s : Site). relation s x) (is ∙ same-default sites n d site within) holds))
      ];
    }
  where
    same-default : {Y : Type 0} (xs : List Y) (k : ℕ) (d e : Y) → k < length xs → get_or xs k d ≡ get_or xs k e
    same-default [] k d e low = absurd (omega (arith, low))
    same-default (y ∷ ys) zero d e low = refl
    same-default (y ∷ ys) (suc k) d e low = same-default ys k d e (omega (arith, low))
