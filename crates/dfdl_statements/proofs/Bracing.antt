-- What the calls that take off a character say of braces.
use Rattle.std.proofs.Common.{◌≡◌, ◌≢◌, ℕ, ◌==◌, if◌then◌else◌, true, false, List, [], ◌∷◌, ◌++◌, Option, Some, None, MatchOption, option_copied, option_map, refl, sym, ap, subst, ◌∙◌}
use Rattle.std.specs.Borrow.{Bor}
use Rattle.std.proofs.lemmas.Bool.Decides.{Decides-eqb}
use Rattle.dfdl_statements.specs.Braces.{opened, closed}

if_not : (c d : ℕ) (x y : Option (List ℕ)) → (c ≡ d → ⊥) → (if c == d then x else y) ≡ y
if_not c d x y differs = elim (c == d) as (λ b. (b ≡ true → c ≡ d) → (if b then x else y) ≡ y) [ true ↦ λ same. absurd (differs (same refl)) | false ↦ λ same. refl ]
    (Decides-eqb c d).0

pub is_opened : (text : List ℕ) (r : Option (Bor (List ℕ)))
    → MatchOption r ((rest : List ℕ) → text ≢ 123 ∷ rest) (λ x. text ≡ 123 ∷ x.now) → option_copied r ≡ opened text
is_opened text (Some x) is = sym (ap opened is)
is_opened [] None differs = refl
is_opened (c ∷ rest) None differs = sym (if_not c 123 (Some rest) None (λ same. differs rest (ap (λ d. d ∷ rest) same)))

ended : (front : List ℕ) → closed (front ++ (125 ∷ [])) ≡ Some front
ended [] = refl
ended (c ∷ []) = refl
ended (c ∷ d ∷ front) = ap (option_map (λ text. c ∷ text)) (ended (d ∷ front))

if_some : (c : ℕ) (x : List ℕ) → (if c == 125 then Some [] else None) ≡ Some x → (c ≡ 125) × (x ≡ [])
if_some c x is =
    elim (c == 125) as (λ b. (b ≡ true → c ≡ 125) → (if b then Some [] else None) ≡ Some x → (c ≡ 125) × (x ≡ []))
    [ true ↦ λ same h. (same refl, cc) | false ↦ λ same h. let never : ⊥ = cc in absurd never ]
    (Decides-eqb c 125).0 is

mapped : (c : ℕ) (o : Option (List ℕ)) (x : List ℕ) → option_map (λ text. c ∷ text) o ≡ Some x → (y : List ℕ) × (o ≡ Some y) × (x ≡ c ∷ y)
mapped c None x is = let never : ⊥ = cc in absurd never
mapped c (Some y) x is = (y, refl, cc)

ends : (text x : List ℕ) → closed text ≡ Some x → text ≡ x ++ (125 ∷ [])
ends [] x is = let never : ⊥ = cc in absurd never
ends (c ∷ []) x is =
    let both = if_some c x is in
    subst (λ xs. c ∷ [] ≡ xs ++ (125 ∷ [])) (sym both.1) (ap (λ d. d ∷ []) both.0)
ends (c ∷ d ∷ rest) x is =
    let parts = mapped c (closed (d ∷ rest)) x is in
    subst (λ xs. c ∷ d ∷ rest ≡ xs ++ (125 ∷ [])) (sym parts.2) (ap (λ xs. c ∷ xs) (ends (d ∷ rest) parts.0 parts.1))

none_by : (text : List ℕ) (o : Option (List ℕ)) → ((x : List ℕ) → o ≡ Some x → text ≡ x ++ (125 ∷ [])) → ((front : List ℕ) → text ≢ front ++ (125 ∷ [])) → None ≡ o
none_by text None all differs = refl
none_by text (Some x) all differs = absurd (differs x (all x refl))

pub is_closed : (text : List ℕ) (r : Option (Bor (List ℕ)))
    → MatchOption r ((front : List ℕ) → text ≢ front ++ (125 ∷ [])) (λ x. text ≡ x.now ++ (125 ∷ [])) → option_copied r ≡ closed text
is_closed text (Some x) is = sym (ap closed is ∙ ended x.now)
is_closed text None differs = none_by text (closed text) (ends text) differs
