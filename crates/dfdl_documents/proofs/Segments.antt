-- Segments that follow others, one after the other.
use Rattle.std.proofs.Common.{◌≡◌, ℕ, ◌+◌, ◌-◌, take, ◌<◌, List, [], ◌∷◌, length, get_or, drop, sym, ap, ◌∙◌, arith, suc, add-one, drop-cons}
use Rattle.std.specs.Borrow.{Bor}
use Rattle.std.proofs.lemmas.List.{drop_all, length-map, take-map}
use Rattle.dfdl_documents.specs.Locations.{followed, resolved, segments_of, folder_of}
use Rattle.dfdl_documents.specs.Shown.{texts}

-- the segments that are left, where one more has followed
pub one_followed : (all a b start : List (List ℕ)) (n m : ℕ) (x : List ℕ) → n < length all
    → x ≡ get_or all n x → m ≡ n + 1 → b ≡ followed a x → resolved a (drop n all) ≡ start
    → resolved b (drop m all) ≡ start
one_followed all a b start n m x within is more step left =
    let rest : drop n all ≡ x ∷ drop (n + 1) all =
    drop-cons all n x within ∙ (ap (λ y. y ∷ drop (suc n) all) (sym is) ∙ ap (λ k. x ∷ drop k all) (sym (add-one n))) in
    ap (λ k. resolved b (drop k all)) more
    ∙ (ap (λ l. resolved l (drop (n + 1) all)) step ∙ (sym (ap (resolved a) rest) ∙ left))

-- nothing is left
pub all_followed : (all a start : List (List ℕ)) (n : ℕ) → n ≡ length all
    → resolved a (drop n all) ≡ start → a ≡ start
all_followed all a start n is left =
    let none : drop n all ≡ [] = drop_all n all (omega arith) in
    sym (ap (resolved a) none) ∙ left

-- the segments of the folder of a name
pub folder_followed : (all : List (Bor (List ℕ))) (name : List ℕ) (folder : List (List ℕ)) (n : ℕ)
    → texts all ≡ segments_of name → n ≡ length all - 1 → folder ≡ resolved [] (texts (take n all))
    → folder ≡ resolved [] (folder_of name)
folder_followed all name folder n are is made =
    let same : length all ≡ length (segments_of name) = sym (length-map all (λ (t : Bor (List ℕ)). t.now)) ∙ ap length are in
    made
    ∙ (ap (resolved []) (sym (take-map (λ (t : Bor (List ℕ)). t.now) n all))
    ∙ (ap (λ l. resolved [] (take n l)) are
    ∙ ap (λ k. resolved [] (take k (segments_of name))) (is ∙ ap (λ k. k - 1) same)))
