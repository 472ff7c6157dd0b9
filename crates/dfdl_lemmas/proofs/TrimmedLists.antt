-- Lists without the elements at their end that pass a test.
use Rattle.std.proofs.Common.{◌≡◌, ℕ, ◌-◌, ◌+◌, ◌<◌, ◌≤◌, Bool, true, false, List, [], ◌∷◌, ◌++◌, length, get_or, take, refl, sym, ap, ◌∙◌, arith}
use Rattle.std.proofs.Math.Seq.{take-length}
use Rattle.std.proofs.lemmas.List.{take_more}
use Rattle.dfdl_lemmas.specs.Trimmed.{before_rest, without_trailing}

without_trailing-passes : (p : ℕ → Bool) (xs : List ℕ) (x : ℕ) → p x ≡ true → without_trailing p (xs ++ x ∷ []) ≡ without_trailing p xs
without_trailing-passes p [] x h = rw h
without_trailing-passes p (y ∷ ys) x h = ap (before_rest p y) (without_trailing-passes p ys x h)

before_rest-push : (p : ℕ → Bool) (y : ℕ) (ys : List ℕ) (x : ℕ) → before_rest p y (ys ++ x ∷ []) ≡ y ∷ (ys ++ x ∷ [])
before_rest-push p y [] x = refl
before_rest-push p y (z ∷ zs) x = refl

without_trailing-stops : (p : ℕ → Bool) (xs : List ℕ) (x : ℕ) → p x ≡ false → without_trailing p (xs ++ x ∷ []) ≡ xs ++ x ∷ []
without_trailing-stops p [] x h = rw h
without_trailing-stops p (y ∷ ys) x h = ap (before_rest p y) (without_trailing-stops p ys x h) ∙ before_rest-push p y ys x

-- the front of a list is a shorter front, and the element behind that
pub front_split : (xs : List ℕ) (end d : ℕ) → 0 < end → end ≤ length xs → take end xs ≡ take (end - 1) xs ++ get_or xs (end - 1) d ∷ []
front_split xs end d some within =
    let e : end ≡ end - 1 + 1 = omega arith in
    ap (λ n. take n xs) e ∙ take_more xs (end - 1) d (omega arith)

-- the last element of a front passes
pub without_trailing-last_passes : (p : ℕ → Bool) (xs : List ℕ) (end d : ℕ) → 0 < end → end ≤ length xs → p (get_or xs (end - 1) d) ≡ true
    → without_trailing p (take (end - 1) xs) ≡ without_trailing p (take end xs)
without_trailing-last_passes p xs end d some within h =
    sym (ap (without_trailing p) (front_split xs end d some within) ∙ without_trailing-passes p (take (end - 1) xs) _ h)

-- it doesn't
pub without_trailing-last_stops : (p : ℕ → Bool) (xs : List ℕ) (end d : ℕ) → 0 < end → end ≤ length xs → p (get_or xs (end - 1) d) ≡ false
    → without_trailing p (take end xs) ≡ take end xs
without_trailing-last_stops p xs end d some within h =
    ap (without_trailing p) (front_split xs end d some within) ∙ without_trailing-stops p (take (end - 1) xs) _ h ∙ sym (front_split xs end d some within)

-- the last element of a list passes
pub without_trailing-end_passes : (p : ℕ → Bool) (xs : List ℕ) → 0 < length xs → p (get_or xs (length xs - 1) 0) ≡ true → without_trailing p (take (length xs - 1) xs) ≡ without_trailing p xs
without_trailing-end_passes p xs some h = without_trailing-last_passes p xs (length xs) 0 some (omega arith) h ∙ ap (without_trailing p) (take-length xs)

-- it doesn't
pub without_trailing-end_stops : (p : ℕ → Bool) (xs : List ℕ) → 0 < length xs → p (get_or xs (length xs - 1) 0) ≡ false → without_trailing p xs ≡ xs
without_trailing-end_stops p xs some h =
    ap (without_trailing p) (sym (take-length xs)) ∙ without_trailing-last_stops p xs (length xs) 0 some (omega arith) h ∙ take-length xs
