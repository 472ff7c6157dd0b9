-- Where a refusal stands among the rows of a root: its row is counted exactly, since the rows up to it are some of the root's.
use Rattle.std.proofs.Common.{◌≡◌, ℕ, ◌+◌, ◌-◌, ◌<◌, ◌≤◌, ◌^◌, List, [], ◌∷◌, length, map, get_or, drop, min, All, Bool, true, false, if◌then◌else◌, Option, None, Some, option_map, sym, ap, subst, ◌∙◌, refl, arith}
use Rattle.std.proofs.lemmas.List.{drop_more}
use Rattle.std.proofs.lemmas.List.Elements.{All-tail}
use Rattle.dfdl_report.specs.declared.place.Place.{Place}
use Rattle.dfdl_order.specs.Parts.{uses_of}
use Rattle.dfdl_order.proofs.Over.{value_step}
use Rattle.dfdl_rows.specs.Components.{Schema, component_at, slots_at, HasOrder}
use Rattle.dfdl_rows.specs.Positions.{is_of, first_end, end_from, end_of, row_before}
use Rattle.dfdl_rows.specs.Saturated.{saturated, saturated_end, saturated_end_from, saturated_first_end}
use Rattle.dfdl_rows.specs.Sizes.{own_size, size_of, total}
use Rattle.dfdl_rows.proofs.Parts.{by_parts}
use Rattle.dfdl_rows.proofs.RowsOf.{size_step}

-- an end is no further than that
abbrev pub IsUpTo : Option ℕ → ℕ → Type 0
IsUpTo None size = Unit {0}
IsUpTo (Some end) size = end ≤ size

up_to_more : (o : Option ℕ) (n m : ℕ) → n ≤ m → IsUpTo o n → IsUpTo o m
up_to_more None n m less up = tt
up_to_more (Some end) n m less up = omega (arith, less, up)

shifted : (n rest : ℕ) (o : Option ℕ) → IsUpTo o rest → IsUpTo (option_map (λ m. n + m) o) (n + rest)
shifted n rest None up = tt
shifted n rest (Some end) up = omega (arith, up)

part_up_to : (n rest : ℕ) (ns : List ℕ) (own : Option ℕ) (ends : List (Option ℕ)) → IsUpTo own n → IsUpTo (first_end ns ends) rest
    → IsUpTo (first_end (n ∷ ns) (own ∷ ends)) (n + rest)
part_up_to n rest ns (Some end) ends here others = omega (arith, here)
part_up_to n rest ns None ends here others = shifted n rest (first_end ns ends) others

parts_up_to : (size : ℕ → ℕ) (end : ℕ → Option ℕ) (ps : List ℕ) → All (λ p. IsUpTo (end p) (size p)) ps
    → IsUpTo (first_end (map size ps) (map end ps)) (total (map size ps))
parts_up_to size end [] all = tt
parts_up_to size end (p ∷ ps) all =
    part_up_to (size p) (total (map size ps)) (map size ps) (end p) (map end ps) (all 0 p (omega arith))
    (parts_up_to size end ps (All-tail (λ (q : ℕ). IsUpTo (end q) (size q)) p ps all))

own_up_to : (b : Bool) (size : ℕ) (o : Option ℕ) → IsUpTo o size → IsUpTo (if b then Some size else o) size
own_up_to true size o up = omega arith
own_up_to false size o up = up

ends_up_to : (s : Schema) → HasOrder s.uses → (place : Place) (c : ℕ) → c < length s.uses → IsUpTo (end_of s place c) (size_of s c)
ends_up_to s ordered place = by_parts s.uses ordered.0 ordered.1 (λ c. IsUpTo (end_of s place c) (size_of s c))
    (λ c within all.
    let step : end_of s place c ≡ end_from s place c (map (end_of s place) (uses_of s.uses c))
    = value_step s.uses ordered.0 (end_from s place) None ordered.1 c within in
    let sum : size_of s c ≡ own_size (component_at s.components c) (slots_at s c) + total (map (size_of s) (uses_of s.uses c)) = size_step s ordered c within in
    subst (λ (o : Option ℕ). IsUpTo o (size_of s c)) (sym step)
    (own_up_to (is_of s place c) (size_of s c) (first_end (map (size_of s) (uses_of s.uses c)) (map (end_of s place) (uses_of s.uses c)))
    (up_to_more (first_end (map (size_of s) (uses_of s.uses c)) (map (end_of s place) (uses_of s.uses c)))
    (total (map (size_of s) (uses_of s.uses c))) (size_of s c) (omega (arith, sum)) (parts_up_to (size_of s) (end_of s place) (uses_of s.uses c) all))))

-- with the end as a variable, so that no arithmetic computes with it
exact_row : (most size : ℕ) (o : Option ℕ) → size ≤ most → IsUpTo o size → row_before (min size most) (option_map (λ n. min n most) o) ≡ row_before size o
exact_row most size None few up = omega (arith, few)
exact_row most size (Some end) few up = omega (arith, few, up)

pub row_is : (s : Schema) → HasOrder s.uses → (place : Place) (root : ℕ) → root < length s.uses → size_of s root < 2 ^ 32 → (size : ℕ) (end : Option ℕ)
    → size ≡ saturated (size_of s root) → end ≡ option_map saturated (end_of s place root)
    → row_before size end ≡ row_before (size_of s root) (end_of s place root)
row_is s ordered place root within few size end size_is end_is =
    ap (λ (n : ℕ). row_before n end) size_is
    ∙ (ap (row_before (saturated (size_of s root))) end_is
    ∙ exact_row (2 ^ 64 - 1) (size_of s root) (end_of s place root) (omega (arith, few)) (ends_up_to s ordered place root within))

-- a component that is told of itself
pub own_end : (s : Schema) (place : Place) (c size : ℕ) (ends : List (Option ℕ)) → is_of s place c ≡ true → size ≡ saturated (size_of s c)
    → Some size ≡ saturated_end_from s place c ends
own_end s place c size ends is same =
    ap Some same
    ∙ sym (ap (λ (b : Bool). if b then Some (saturated (size_of s c))
    else saturated_first_end (map (λ p. saturated (size_of s p)) (uses_of s.uses c)) ends) is)

same_sizes : (s : Schema) (sizes ps : List ℕ) → All (λ p. p < length s.uses) ps
    → ((c : ℕ) → c < length s.uses → get_or sizes c 0 ≡ saturated (size_of s c)) → map (λ p. get_or sizes p 0) ps ≡ map (λ p. saturated (size_of s p)) ps
same_sizes s sizes [] within known = refl
same_sizes s sizes (p ∷ ps) within known =
    ap (λ (n : ℕ). n ∷ map (λ q. get_or sizes q 0) ps) (known p (within 0 p (omega arith)))
    ∙ ap (λ (ns : List ℕ). saturated (size_of s p) ∷ ns) (same_sizes s sizes ps (All-tail (λ (q : ℕ). q < length s.uses) p ps within) known)

-- and one that is told of by a part
pub parts_end : (s : Schema) (place : Place) (c : ℕ) (sizes ps : List ℕ) (table : List (Option ℕ)) (found : Option ℕ) → is_of s place c ≡ false
    → ps ≡ uses_of s.uses c → All (λ p. p < length s.uses) ps → ((n : ℕ) → n < length s.uses → get_or sizes n 0 ≡ saturated (size_of s n))
    → found ≡ saturated_first_end (map (λ p. get_or sizes p 0) ps) (map (λ p. get_or table p None) ps)
    → found ≡ saturated_end_from s place c (map (λ p. get_or table p None) (uses_of s.uses c))
parts_end s place c sizes ps table found is parts within known found_is =
    found_is
    ∙ (ap (λ (ns : List ℕ). saturated_first_end ns (map (λ p. get_or table p None) ps)) (same_sizes s sizes ps within known)
    ∙ (ap (λ (qs : List ℕ). saturated_first_end (map (λ p. saturated (size_of s p)) qs) (map (λ p. get_or table p None) qs)) parts
    ∙ sym (ap (λ (b : Bool). if b then Some (saturated (size_of s c))
    else saturated_first_end (map (λ p. saturated (size_of s p)) (uses_of s.uses c)) (map (λ p. get_or table p None) (uses_of s.uses c))) is)))

-- the parts from one before on
pub part_before : (sizes : List ℕ) (known : List (Option ℕ)) (parts : List ℕ) (at d : ℕ) (end found : Option ℕ) → 0 < at → at ≤ length parts
    → end ≡ saturated_first_end (map (λ p. get_or sizes p 0) (drop at parts)) (map (λ p. get_or known p None) (drop at parts))
    → found ≡ saturated_end (get_or sizes (get_or parts (at - 1) d) 0) (get_or known (get_or parts (at - 1) d) None) end
    → found ≡ saturated_first_end (map (λ p. get_or sizes p 0) (drop (at - 1) parts)) (map (λ p. get_or known p None) (drop (at - 1) parts))
part_before sizes known parts at d end found some within same is =
    let next : at - 1 + 1 ≡ at = omega (arith, some) in
    let front : drop (at - 1) parts ≡ get_or parts (at - 1) d ∷ drop at parts
    = drop_more parts (at - 1) d (omega (arith, some, within)) ∙ ap (λ (n : ℕ). get_or parts (at - 1) d ∷ drop n parts) next in
    is
    ∙ (ap (saturated_end (get_or sizes (get_or parts (at - 1) d) 0) (get_or known (get_or parts (at - 1) d) None)) same
    ∙ sym (ap (λ (ps : List ℕ). saturated_first_end (map (λ p. get_or sizes p 0) ps) (map (λ p. get_or known p None) ps)) front))
