-- The same bytes, put behind others again and again.
use Rattle.std.proofs.Common.{◌≡◌, ℕ, suc, ◌+◌, List, ◌++◌, refl, sym, ap, ◌∙◌, append_assoc, arith}
use Rattle.std.proofs.lemmas.List.{append-nil}
use Rattle.dfdl_writings.specs.Paddings.{repeated}

-- not once
pub begun : (old bytes : List ℕ) → old ≡ old ++ repeated 0 bytes
unfolding repeated
begun old bytes = sym (append-nil old)

more : (n : ℕ) (bytes : List ℕ) → repeated (suc n) bytes ≡ repeated n bytes ++ bytes
unfolding repeated
more n bytes = refl

-- once more
pub once_more : (n : ℕ) (old now new bytes : List ℕ) → now ≡ old ++ repeated n bytes → new ≡ now ++ bytes
    → new ≡ old ++ repeated (n + 1) bytes
once_more n old now new bytes so_far put =
    let next : n + 1 ≡ suc n = omega arith in
    put ∙ (ap (λ xs. xs ++ bytes) so_far ∙ (append_assoc old (repeated n bytes) bytes
    ∙ ap (λ xs. old ++ xs) (sym (ap (λ k. repeated k bytes) next ∙ more n bytes))))
