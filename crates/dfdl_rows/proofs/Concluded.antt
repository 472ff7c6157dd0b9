-- The row around all others behind which statements are done: how many it is, and what holds of it and of the rows that are in it.
use Rattle.std.proofs.Common.{◌≡◌, ℕ, ◌+◌, ◌-◌, ◌<◌, Bool, true, false, nat_lt, if◌then◌else◌, List, [], ◌∷◌, ◌++◌, length, All, ap, ◌∙◌, refl, arith, append_assoc, length-append}
use Rattle.std.proofs.lemmas.List.{append-nil}
use Rattle.std.proofs.lemmas.List.Elements.{All-nil, All-cons, All-append}
use Rattle.dfdl_terms.specs.declared.row.Row.{Row}
use Rattle.dfdl_terms.specs.declared.row.Row.TheVariants.{Concluded}
use Rattle.dfdl_terms.specs.declared.statement.Statements.{Statements}
use Rattle.dfdl_rows.specs.Framing.{conclusion, conclusion_size, concluded}
use Rattle.dfdl_rows.proofs.Nests.{NestsFrom, nests_none, nests_cons, nests_append}

-- with statements behind and without
conclusion_cases : (behind : Statements) (body : ℕ) (P : List Row → ℕ → Type 0) → (nat_lt 0 behind.count ≡ false → P [] 0)
    → (nat_lt 0 behind.count ≡ true → P (Concluded behind body ∷ []) 1) → P (conclusion behind body) (conclusion_size behind)
conclusion_cases behind body P none some =
    (elim (nat_lt 0 behind.count) as (λ (b : Bool). nat_lt 0 behind.count ≡ b → P (if b then Concluded behind body ∷ [] else []) (if b then 1 else 0)) [
      | true ↦ some
      | false ↦ none
    ]) refl

length_conclusion : (behind : Statements) (body : ℕ) → length (conclusion behind body) ≡ conclusion_size behind
length_conclusion behind body = conclusion_cases behind body (λ rows size. length rows ≡ size) (λ none. refl) (λ some. refl)

pub length_concluded : (behind : Statements) (rows : List Row) (first : ℕ) → length (concluded behind rows first) ≡ length rows + conclusion_size behind
length_concluded behind rows first =
    omega (
      arith,
      length-append rows (conclusion behind (first + length rows - 1)),
      length_conclusion behind (first + length rows - 1),
    )

-- what holds of it, where there is one, and of the rows that are in it
pub concluded_all : (P : Row → Type 0) (behind : Statements) (rows : List Row) (first : ℕ) → All P rows
    → ((body : ℕ) → nat_lt 0 behind.count ≡ true → P (Concluded behind body)) → All P (concluded behind rows first)
concluded_all P behind rows first all own =
    All-append P rows (conclusion behind (first + length rows - 1)) all
    (conclusion_cases behind (first + length rows - 1) (λ others size. All P others) (λ none. All-nil P)
    (λ some. All-cons P (Concluded behind (first + length rows - 1)) [] (own (first + length rows - 1) some) (All-nil P)))

-- they nest
pub concluded_nests : (behind : Statements) (rows : List Row) (first : ℕ) → 0 < length rows → NestsFrom first rows → NestsFrom first (concluded behind rows first)
concluded_nests behind rows first some nest =
    nests_append rows (conclusion behind (first + length rows - 1)) first nest
    (conclusion_cases behind (first + length rows - 1) (λ others size. NestsFrom (first + length rows) others) (λ none. nests_none (first + length rows))
    (λ there. nests_cons (first + length rows) (Concluded behind (first + length rows - 1)) [] (omega (arith, some)) (nests_none (first + length rows + 1))))

-- no statements are done behind the rows
pub unconcluded : (behind : Statements) (rows : List Row) (first : ℕ) → behind.count ≡ 0 → concluded behind rows first ≡ rows
unconcluded behind rows first none =
    ap (λ (n : ℕ). rows ++ (if nat_lt 0 n then Concluded behind (first + length rows - 1) ∷ [] else [])) none ∙ append-nil rows

-- rows are added, and that around them
pub concluded_whole : (behind : Statements) (rows own next all : List Row) → 0 < length own → next ≡ rows ++ own
    → all ≡ next ++ conclusion behind (length next - 1) → all ≡ rows ++ concluded behind own (length rows)
concluded_whole behind rows own next all some next_is all_is =
    let long : length next ≡ length rows + length own = ap (λ (rs : List Row). length rs) next_is ∙ length-append rows own in
    all_is
    ∙ (ap (λ (n : ℕ). next ++ conclusion behind (n - 1)) long
    ∙ (ap (λ (rs : List Row). rs ++ conclusion behind (length rows + length own - 1)) next_is
    ∙ append_assoc rows own (conclusion behind (length rows + length own - 1))))
