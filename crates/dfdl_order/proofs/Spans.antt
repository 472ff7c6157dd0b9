-- Parts that are added behind the others are in no span of before.
use Rattle.std.proofs.Common.{◌≡◌, ℕ, ◌-◌, ◌≤◌, List, [], ◌∷◌, ◌++◌, length, take, drop, ap, ◌∙◌, refl, arith, length-append}
use Rattle.std.proofs.lemmas.List.{drop-append-le, take-append-le, length-drop, map-append}
use Rattle.std.proofs.Math.Seq.{drop-append_seam, take-length}
use Rattle.std.proofs.lemmas.List.Elements.{All-tail}
use Rattle.dfdl_order.specs.declared.uses.Span.{Span}
use Rattle.dfdl_order.specs.UsesShown.{parts_in, lists_in, AreWithin}

one_same : (parts more : List ℕ) (s : Span) → s.begin ≤ s.end → s.end ≤ length parts → parts_in (parts ++ more) s ≡ parts_in parts s
one_same parts more s low high =
    ap (take (s.end - s.begin)) (drop-append-le s.begin parts more (omega (arith, low, high)))
    ∙ take-append-le (s.end - s.begin) (drop s.begin parts) more (omega (arith, low, high, length-drop s.begin parts))

pub lists_same : (parts more : List ℕ) (spans : List Span) → AreWithin parts spans → lists_in (parts ++ more) spans ≡ lists_in parts spans
lists_same parts more [] all = refl
lists_same parts more (s ∷ spans) all =
    let first : (s.begin ≤ s.end) × (s.end ≤ length parts) = all 0 s (omega arith) in
    ap (λ (xs : List ℕ). xs ∷ lists_in (parts ++ more) spans) (one_same parts more s first.0 first.1)
    ∙ ap (λ (xss : List (List ℕ)). parts_in parts s ∷ xss)
    (lists_same parts more spans (All-tail (λ (t : Span). (t.begin ≤ t.end) × (t.end ≤ length parts)) s spans all))

-- the span behind all parts has those that are added
last_is : (parts more : List ℕ) → take (length (parts ++ more) - length parts) (drop (length parts) (parts ++ more)) ≡ more
last_is parts more =
    let count : length (parts ++ more) - length parts ≡ length more = omega (arith, length-append parts more) in
    ap (take (length (parts ++ more) - length parts)) (drop-append_seam parts more)
    ∙ (ap (λ (k : ℕ). take k more) count ∙ take-length more)

pub pushed : (parts more : List ℕ) (spans : List Span) (s : Span) → s.begin ≡ length parts → s.end ≡ length (parts ++ more) → AreWithin parts spans
    → lists_in (parts ++ more) (spans ++ s ∷ []) ≡ lists_in parts spans ++ more ∷ []
pushed parts more spans s begin end all =
    let last : parts_in (parts ++ more) s ≡ more
    = ap (λ (k : ℕ). take (s.end - k) (drop k (parts ++ more))) begin
    ∙ (ap (λ (k : ℕ). take (k - length parts) (drop (length parts) (parts ++ more))) end ∙ last_is parts more) in
    map-append (parts_in (parts ++ more)) spans (s ∷ [])
    ∙ (ap (λ (xss : List (List ℕ)). xss ++ parts_in (parts ++ more) s ∷ []) (lists_same parts more spans all)
    ∙ ap (λ (xs : List ℕ). lists_in parts spans ++ xs ∷ []) last)
