-- Properties with more of them written behind, piece by piece.
use Rattle.std.proofs.Common.{◌≡◌, refl, sym, subst, ap, ◌∙◌, ℕ, List, [], ◌∷◌, ◌++◌, Option, Some, None, is_some, Bool, true, false, ◌||◌, ◌&&◌, if◌then◌else◌}
use Rattle.std.specs.Option.{option_or}
use Rattle.std.specs.Str.{bytes_eq}
use Rattle.dfdl_scope.specs.Shown.{given, given_twice}
use Rattle.dfdl_scope.specs.declared.properties.Properties.{Properties}
use Rattle.dfdl_properties.specs.Written.{Written, first_of, has_second}
use Rattle.dfdl_properties.specs.Shown.{IsWith}

-- nothing behind a value
or-none : (x : Option (List ℕ)) → x ≡ option_or x None
or-none None = refl
or-none (Some x) = refl

-- of three values that may be lacking, the first one that is there
or-or : (x y z : Option (List ℕ)) → option_or (option_or x y) z ≡ option_or x (option_or y z)
or-or None y z = refl
or-or (Some x) y z = refl

-- the first value of a name in one list behind another
first-both : (xs ys : List Written) (q : List ℕ) → first_of (xs ++ ys) q ≡ option_or (first_of xs q) (first_of ys q)
first-both [] ys q = refl
first-both (x ∷ xs) ys q = by (first-both xs ys q) (bytes_eq x.name q)
  where
    by : first_of (xs ++ ys) q ≡ option_or (first_of xs q) (first_of ys q)
        → (b : Bool) → (if b then Some x.value else first_of (xs ++ ys) q) ≡ option_or (if b then Some x.value else first_of xs q) (first_of ys q)
    by others true = refl
    by others false = others

-- whether something is there behind what may be there
some-or : (x y : Option (List ℕ)) → is_some (option_or x y) ≡ (is_some x || is_some y)
some-or None y = refl
some-or (Some x) y = refl

-- whether a name has a second value in one list behind another
second-both : (xs ys : List Written) (q : List ℕ)
    → has_second (xs ++ ys) q ≡ (has_second xs q || (if is_some (first_of xs q) then is_some (first_of ys q) else has_second ys q))
second-both [] ys q = refl
second-both (x ∷ xs) ys q = by (second-both xs ys q) (bytes_eq x.name q)
  where
    by : has_second (xs ++ ys) q ≡ (has_second xs q || (if is_some (first_of xs q) then is_some (first_of ys q) else has_second ys q))
        → (b : Bool)
        → (if b then is_some (first_of (xs ++ ys) q) else has_second (xs ++ ys) q)
        ≡ ((if b then is_some (first_of xs q) else has_second xs q)
        || (if is_some (if b then Some x.value else first_of xs q) then is_some (first_of ys q) else has_second ys q))
    by others true = ap is_some (first-both xs ys q) ∙ some-or (first_of xs q) (first_of ys q)
    by others false = others

-- no properties behind
pub with-none : (p : Properties) → IsWith p [] p
with-none p = record {
  values = λ q. or-none (given p q);
  twice = λ q. by (given_twice p q) (is_some (given p q));
}
  where
    by : (t s : Bool) → t ≡ (t || (if s then false else false))
    by true s = refl
    by false true = refl
    by false false = refl

-- one property behind
pub with-one : (old new : Properties) (name value : List ℕ)
    → ((q : List ℕ) → given new q ≡ option_or (given old q) (if bytes_eq name q then Some value else None))
    → ((q : List ℕ) → given_twice new q ≡ (given_twice old q || (bytes_eq name q && is_some (given old q))))
    → IsWith old (record { name = name; value = value } ∷ []) new
with-one old new name value added twice = record {
  values = added;
  twice = λ q. twice q ∙ ap (λ b. given_twice old q || b) (by (bytes_eq name q) (given old q));
}
  where
    by : (b : Bool) (held : Option (List ℕ))
        → (b && is_some held) ≡ (if is_some held then is_some (if b then Some value else None) else (if b then false else false))
    by true None = refl
    by true (Some v) = refl
    by false None = refl
    by false (Some v) = refl

-- some properties behind, and then others
pub with-both : (first middle last : Properties) (xs ys : List Written) → IsWith first xs middle → IsWith middle ys last → IsWith first (xs ++ ys) last
with-both first middle last xs ys one other = record {
  values = λ q.
      other.values q
      ∙ (ap (λ v. option_or v (first_of ys q)) (one.values q)
      ∙ (or-or (given first q) (first_of xs q) (first_of ys q) ∙ ap (option_or (given first q)) (sym (first-both xs ys q))));
  twice = λ q.
      other.twice q
      ∙ (ap (λ t. t || (if is_some (given middle q) then is_some (first_of ys q) else has_second ys q)) (one.twice q)
      ∙ (ap (λ v. (given_twice first q || (if is_some (given first q) then is_some (first_of xs q) else has_second xs q))
      || (if is_some v then is_some (first_of ys q) else has_second ys q)) (one.values q)
      ∙ (by (given_twice first q) (given first q) (first_of xs q) (is_some (first_of ys q)) (has_second xs q) (has_second ys q)
      ∙ ap (λ b. given_twice first q || b)
      (ap (λ v. if is_some (given first q) then v else (has_second xs q || (if is_some (first_of xs q) then is_some (first_of ys q) else has_second ys q)))
      (sym (some-or (first_of xs q) (first_of ys q)) ∙ ap is_some (sym (first-both xs ys q)))
      ∙ ap (λ v. if is_some (given first q) then is_some (first_of (xs ++ ys) q) else v) (sym (second-both xs ys q))))));
}
  where
    assoc : (a b c : Bool) → ((a || b) || c) ≡ (a || (b || c))
    assoc true b c = refl
    assoc false b c = refl

    by : (t : Bool) (held behind : Option (List ℕ)) (found second more : Bool)
        → ((t || (if is_some held then is_some behind else second)) || (if is_some (option_or held behind) then found else more))
        ≡ (t || (if is_some held then (is_some behind || found) else (second || (if is_some behind then found else more))))
    by t None behind found second more = assoc t second (if is_some behind then found else more)
    by t (Some v) behind found second more = assoc t (is_some behind) found

-- one property, and then others
pub with-first : (first middle last : Properties) (x : Written) (ys : List Written)
    → IsWith first (x ∷ []) middle → IsWith middle ys last → IsWith first (x ∷ ys) last
with-first first middle last x ys = with-both first middle last (x ∷ []) ys

-- one property behind, whose name and value are these
pub with-that : (old new : Properties) (name value n v : List ℕ) → n ≡ name → v ≡ value
    → ((q : List ℕ) → given new q ≡ option_or (given old q) (if bytes_eq n q then Some v else None))
    → ((q : List ℕ) → given_twice new q ≡ (given_twice old q || (bytes_eq n q && is_some (given old q))))
    → IsWith old (record { name = name; value = value } ∷ []) new
with-that old new name value n v same-name same-value added twice =
    subst (λ (m : List ℕ). IsWith old (record { name = m; value = value } ∷ []) new) same-name
    (subst (λ (w : List ℕ). IsWith old (record { name = n; value = w } ∷ []) new) same-value (with-one old new n v added twice))

-- what properties give that are all written
pub all-values : (none new : Properties) (written : List Written) → ((q : List ℕ) → given none q ≡ None) → IsWith none written new
    → (q : List ℕ) → given new q ≡ first_of written q
all-values none new written empty is q = is.values q ∙ ap (λ (v : Option (List ℕ)). option_or v (first_of written q)) (empty q)

-- and which of them twice
pub all-twice : (none new : Properties) (written : List Written) → ((q : List ℕ) → given none q ≡ None) → ((q : List ℕ) → given_twice none q ≡ false)
    → IsWith none written new → (q : List ℕ) → given_twice new q ≡ has_second written q
all-twice none new written empty once is q =
    is.twice q
    ∙ (ap (λ (t : Bool). t || (if is_some (given none q) then is_some (first_of written q) else has_second written q)) (once q)
    ∙ ap (λ (v : Option (List ℕ)). if is_some v then is_some (first_of written q) else has_second written q) (empty q))
