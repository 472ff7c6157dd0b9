-- Counts that stand still at the end of 64 bits are the counts, as far as 64 bits go.
use Rattle.std.proofs.Common.{◌≡◌, ℕ, ◌+◌, ◌-◌, ◌^◌, List, [], ◌∷◌, length, map, min, Bool, true, false, if◌then◌else◌, Option, None, Some, option_map, sym, ap, ◌∙◌, refl, arith}
use Rattle.dfdl_report.specs.declared.place.Place.{Place}
use Rattle.dfdl_order.specs.Parts.{uses_of}
use Rattle.dfdl_order.specs.Folds.{value_by}
use Rattle.dfdl_rows.specs.Components.{Schema, component_at, slots_at}
use Rattle.dfdl_rows.specs.Depths.{greatest, own_depth, depth_from, depth_of}
use Rattle.dfdl_rows.specs.Sizes.{total, own_size, size_from, size_of}
use Rattle.dfdl_rows.specs.Positions.{is_of, first_end, end_from, end_of}
use Rattle.dfdl_rows.specs.Saturated.{saturated, saturated_depth_from, saturated_end, saturated_end_from, saturated_first_end, saturated_size_from}
use Rattle.dfdl_rows.proofs.Parts.{over_image}

-- with the end as a variable, so that no arithmetic computes with it
capped_greatest : (most own : ℕ) (ns : List ℕ) → min (own + greatest ns) most ≡ min (own + greatest (map (λ n. min n most) ns)) most
capped_greatest most own [] = refl
capped_greatest most own (n ∷ ns) =
    let others : min (0 + greatest ns) most ≡ min (0 + greatest (map (λ n. min n most) ns)) most = capped_greatest most 0 ns in
    omega (arith, others)

capped_total : (most own : ℕ) (ns : List ℕ) → min (own + total ns) most ≡ min (own + total (map (λ n. min n most) ns)) most
capped_total most own [] = refl
capped_total most own (n ∷ ns) =
    let others : min (0 + total ns) most ≡ min (0 + total (map (λ n. min n most) ns)) most = capped_total most 0 ns in
    omega (arith, others)

pub depth_is : (s : Schema) (c : ℕ) → value_by s.uses (saturated_depth_from s.components) 0 c ≡ saturated (depth_of s c)
depth_is s c = sym (over_image (uses_of s.uses) (depth_from s.components) 0 (saturated_depth_from s.components) 0 saturated
    (λ c vs. capped_greatest (2 ^ 64 - 1) (own_depth (component_at s.components c)) vs) refl (length s.uses) c)

pub size_is : (s : Schema) (c : ℕ) → value_by s.uses (saturated_size_from s) 0 c ≡ saturated (size_of s c)
size_is s c = sym (over_image (uses_of s.uses) (size_from s) 0 (saturated_size_from s) 0 saturated
    (λ c vs. capped_total (2 ^ 64 - 1) (own_size (component_at s.components c) (slots_at s c)) vs) refl (length s.uses) c)

capped_sum : (most n m : ℕ) → min (n + m) most ≡ min (min n most + min m most) most
capped_sum most n m = omega arith

one_more : (n : ℕ) (r t : Option ℕ) → option_map saturated r ≡ t → option_map saturated (option_map (λ m. n + m) r) ≡ saturated_end (saturated n) None t
one_more n None t is = ap (saturated_end (saturated n) None) is
one_more n (Some m) t is = ap Some (capped_sum (2 ^ 64 - 1) n m) ∙ ap (saturated_end (saturated n) None) is

capped_first : (size : ℕ → ℕ) (ps : List ℕ) (ends : List (Option ℕ))
    → option_map saturated (first_end (map size ps) ends) ≡ saturated_first_end (map (λ p. saturated (size p)) ps) (map (option_map saturated) ends)
capped_first size [] ends = refl
capped_first size (p ∷ ps) [] = refl
capped_first size (p ∷ ps) (Some end ∷ ends) = refl
capped_first size (p ∷ ps) (None ∷ ends) = one_more (size p) (first_end (map size ps) ends) _ (capped_first size ps ends)

capped_where : (b : Bool) (n : ℕ) (r t : Option ℕ) → option_map saturated r ≡ t
    → option_map saturated (if b then Some n else r) ≡ (if b then Some (saturated n) else t)
capped_where true n r t is = refl
capped_where false n r t is = is

pub end_is : (s : Schema) (place : Place) (c : ℕ) → value_by s.uses (saturated_end_from s place) None c ≡ option_map saturated (end_of s place c)
end_is s place c = sym (over_image (uses_of s.uses) (end_from s place) None (saturated_end_from s place) None (option_map saturated)
    (λ c vs. capped_where (is_of s place c) (size_of s c) (first_end (map (size_of s) (uses_of s.uses c)) vs) _ (capped_first (size_of s) (uses_of s.uses c) vs))
    refl (length s.uses) c)
