-- The value of a name in an ordered map, and among the entries of one.
use Rattle.std.proofs.Common.{◌≡◌, refl, sym, ap, subst, ◌∙◌, ℕ, List, ◌∷◌, Option, Some, None, Bool, true, false, ◌||◌, cond, if◌then◌else◌, ◌⊎◌, inl, inr}
use Rattle.std.specs.BTreeMap.{is_at}
use Rattle.std.specs.BTreeSet.{BTreeSet, UpdatesBy}
use Rattle.std.specs.Set.{KeepsOthers}
use Rattle.std.specs.Map.{lookup}
use Rattle.std.specs.Option.{option_or}
use Rattle.std.specs.Str.{bytes_eq}
use Rattle.std.specs.Cmp.Lexicographic.{slice_cmp, bytes_decides, nat_list_cmp_total}
use Rattle.std.specs.Cmp.{eq_by_cmp_equiv}
use Rattle.std.specs.Ordering.{nat_cmp, is_eq, eq_by_cmp}
use Rattle.std.proofs.lemmas.Bool.{cases_Bool}
use Rattle.std.proofs.lemmas.Cmp.{nat_list_eq_equiv}
use Rattle.std.proofs.lemmas.Map.Text.{is_eq-slice_cmp}
use denote.Ref.{Bor}
use Rattle.dfdl_scope.specs.Shown.{lent_text, is_in}

-- a text is seen alike behind a choice and before it
pub lent-cond : (b : Bool) (x y : Option (Bor (List ℕ))) → lent_text (cond b x y) ≡ cond b (lent_text x) (lent_text y)
lent-cond true x y = refl
lent-cond false x y = refl

-- the value of a name among the entries of an ordered map
abbrev pub among : List (Bor (List ℕ) × Bor (List ℕ)) → List ℕ → Option (List ℕ)
among entries name = lent_text (lookup (is_at (λ k. slice_cmp nat_cmp name k.now)) entries)

-- one entry, and those that follow
pub among-first : (k v : Bor (List ℕ)) (entries : List (Bor (List ℕ) × Bor (List ℕ))) (q : List ℕ)
    → among ((k, v) ∷ entries) q ≡ option_or (if bytes_eq k.now q then Some v.now else None) (among entries q)
among-first k v entries q =
    ap (λ b. lent_text (cond b (Some v) (lookup (is_at (λ j. slice_cmp nat_cmp q j.now)) entries)))
    (is_eq-slice_cmp q k.now ∙ nat_list_eq_equiv.symm q k.now)
    ∙ by (bytes_eq k.now q)
  where
    by : (b : Bool) → lent_text (cond b (Some v) (lookup (is_at (λ j. slice_cmp nat_cmp q j.now)) entries))
        ≡ option_or (if b then Some v.now else None) (among entries q)
    by true = refl
    by false = refl

-- of three values that may be lacking, the first one that is there
pub or-or : (x y z : Option (List ℕ)) → option_or (option_or x y) z ≡ option_or x (option_or y z)
or-or None y z = refl
or-or (Some x) y z = refl

-- nothing behind a value
pub or-None : (x : Option (List ℕ)) → option_or x None ≡ x
or-None None = refl
or-None (Some x) = refl

-- names that are in a set beside one that is put into it
kept-keys : (names new : BTreeSet (Bor (List ℕ))) (name q : List ℕ)
    → KeepsOthers (eq_by_cmp (λ (x : Bor (List ℕ)) (y : Bor (List ℕ)). slice_cmp nat_cmp x.now y.now)) (λ (k : Bor (List ℕ)). is_eq (slice_cmp nat_cmp name k.now)) names.keys new.keys
    → bytes_eq name q ≡ false → is_in new q ≡ is_in names q
unfolding KeepsOthers
kept-keys names new name q keeps apart = keeps (λ (k : Bor (List ℕ)). is_eq (slice_cmp nat_cmp q k.now)) (λ x y. (eq_by_cmp_equiv nat_list_cmp_total).congr q x.now y.now) (λ k at. other k.now at)
  where
    other : (k : List ℕ) → is_eq (slice_cmp nat_cmp name k) ≡ true → is_eq (slice_cmp nat_cmp q k) ≡ false
    other k at =
        is_eq-slice_cmp q k ∙ (nat_list_eq_equiv.symm q k ∙ (sym (nat_list_eq_equiv.congr name k q (sym (is_eq-slice_cmp name k) ∙ at)) ∙ apart))

-- the names of a set with one more
pub in-more : (name : List ℕ) (names new : BTreeSet (Bor (List ℕ)))
    → UpdatesBy (λ (x : Bor (List ℕ)) (y : Bor (List ℕ)). slice_cmp nat_cmp x.now y.now) (λ (k : Bor (List ℕ)). slice_cmp nat_cmp name k.now) names new true
    → (q : List ℕ) → is_in new q ≡ (is_in names q || bytes_eq name q)
in-more name names new updates q = by (cases_Bool (bytes_eq name q))
  where
    true-last : (b : Bool) → true ≡ (b || true)
    true-last true = refl
    true-last false = refl

    false-last : (b : Bool) → b ≡ (b || false)
    false-last true = refl
    false-last false = refl

    by : (bytes_eq name q ≡ true) ⊎ (bytes_eq name q ≡ false) → is_in new q ≡ (is_in names q || bytes_eq name q)
    by (inl same) =
        subst (λ n. is_in new n ≡ true) ((bytes_decides name q).0 same) updates.1
        ∙ (true-last (is_in names q) ∙ ap (λ b. is_in names q || b) (sym same))
    by (inr apart) = kept-keys names new name q updates.3 apart ∙ (false-last (is_in names q) ∙ ap (λ b. is_in names q || b) (sym apart))
