-- Texts at the front of bytes.
use Rattle.std.proofs.Common.{◌≡◌, ℕ, ◌+◌, List, [], ◌∷◌, ◌++◌, length, drop, Option, Some, None, Bool, true, false, cond, ◌&&◌, ◌||◌, refl, sym, ap, ◌∙◌, eqb, length-append}
use Rattle.std.proofs.lemmas.Bool.{cond-false}
use Rattle.std.proofs.lemmas.List.{append-nil}
use Rattle.std.specs.List.{starts_with}
use Rattle.dfdl_forms.specs.declared.encoding.Encoding.{Encoding}
use Rattle.dfdl_chars.specs.Encodings.{encoded_text, joined}
use Rattle.dfdl_literal_texts.specs.Texts.{after_bytes, after_encoded, after_one}
use Rattle.dfdl_literal_texts.specs.Places.{at_front, front_of, some_front}

begins_both : (xs ys bytes : List ℕ) → starts_with eqb bytes (xs ++ ys) ≡ (starts_with eqb bytes xs && starts_with eqb (drop (length xs) bytes) ys)
begins_both [] ys bytes = refl
begins_both (x ∷ xs) ys [] = refl
begins_both (x ∷ xs) ys (b ∷ bytes) =
    ap (λ t. eqb x b && t) (begins_both xs ys bytes) ∙ assoc (eqb x b) (starts_with eqb bytes xs) (starts_with eqb (drop (length xs) bytes) ys)
  where
    assoc : (a b c : Bool) → (a && (b && c)) ≡ ((a && b) && c)
    assoc true b c = refl
    assoc false b c = refl

-- the front of one character
pub one_front : (a : Option (List ℕ)) (bytes : List ℕ) → front_of (joined a (Some [])) bytes ≡ front_of a bytes
one_front None bytes = refl
one_front (Some xs) bytes = ap (λ l. front_of (Some l) bytes) (append-nil xs)

-- the front of two

pair_cond : (a b c : Bool) (n m k : ℕ) → c ≡ (a && b) → a ≡ true → b ≡ true → k ≡ n + m → Some (n + m) ≡ cond c (Some k) None
pair_cond a b c n m k is first second sum = rw (is, first, second, sum) refl

some_same : (n m : ℕ) → Some n ≡ Some m → n ≡ m
some_same n m is = cc

pub cond_some : (t : Bool) (k n : ℕ) → Some n ≡ cond t (Some k) None → (t ≡ true) × (n ≡ k)
cond_some true k n is = (refl, some_same n k is)
cond_some false k n is = let no_it : ⊥ = cc in absurd no_it

cond_none : (t : Bool) (k : ℕ) → None ≡ cond t (Some k) None → t ≡ false
cond_none true k is = let no_it : ⊥ = cc in absurd no_it
cond_none false k is = refl

first_false : (a b c : Bool) (k : ℕ) → c ≡ (a && b) → a ≡ false → None ≡ cond c (Some k) None
first_false a b c k is none = rw (is, none) refl

and_false : (a : Bool) → (a && false) ≡ false
and_false true = refl
and_false false = refl

second_false : (a b c : Bool) (k : ℕ) → c ≡ (a && b) → b ≡ false → None ≡ cond c (Some k) None
second_false a b c k is none = sym (cond-false c (Some k) None (is ∙ ap (λ x. a && x) none ∙ and_false a))

pub first_lacks : (a b : Option (List ℕ)) (bytes : List ℕ) → None ≡ front_of a bytes → None ≡ front_of (joined a b) bytes
first_lacks None b bytes none = refl
first_lacks (Some xs) None bytes none = refl
first_lacks (Some xs) (Some ys) bytes none =
    first_false (starts_with eqb bytes xs) (starts_with eqb (drop (length xs) bytes) ys) (starts_with eqb bytes (xs ++ ys)) (length (xs ++ ys))
    (begins_both xs ys bytes) (cond_none (starts_with eqb bytes xs) (length xs) none)

pub second_lacks : (a b : Option (List ℕ)) (bytes : List ℕ) (n : ℕ) → Some n ≡ front_of a bytes → None ≡ front_of b (drop n bytes)
    → None ≡ front_of (joined a b) bytes
second_lacks None b bytes n some none = let no_it : ⊥ = cc in absurd no_it
second_lacks (Some xs) None bytes n some none = refl
second_lacks (Some xs) (Some ys) bytes n some none =
    let first = cond_some (starts_with eqb bytes xs) (length xs) n some in
    second_false (starts_with eqb bytes xs) (starts_with eqb (drop (length xs) bytes) ys) (starts_with eqb bytes (xs ++ ys)) (length (xs ++ ys))
    (begins_both xs ys bytes)
    (cond_none (starts_with eqb (drop (length xs) bytes) ys) (length ys) (none ∙ ap (λ k. front_of (Some ys) (drop k bytes)) first.1))

pub both_stand : (a b : Option (List ℕ)) (bytes : List ℕ) (n m : ℕ) → Some n ≡ front_of a bytes → Some m ≡ front_of b (drop n bytes)
    → Some (n + m) ≡ front_of (joined a b) bytes
both_stand None b bytes n m some more = let no_it : ⊥ = cc in absurd no_it
both_stand (Some xs) None bytes n m some more = let no_it : ⊥ = cc in absurd no_it
both_stand (Some xs) (Some ys) bytes n m some more =
    let first = cond_some (starts_with eqb bytes xs) (length xs) n some in
    let second = cond_some (starts_with eqb (drop (length xs) bytes) ys) (length ys) m (more ∙ ap (λ k. front_of (Some ys) (drop k bytes)) first.1) in
    pair_cond (starts_with eqb bytes xs) (starts_with eqb (drop (length xs) bytes) ys) (starts_with eqb bytes (xs ++ ys)) n m (length (xs ++ ys))
    (begins_both xs ys bytes) first.0 second.0 (length-append xs ys ∙ ap (λ k. k + length ys) (sym first.1) ∙ ap (λ k. n + k) (sym second.1))

-- bytes behind a text, by where it ends

after_begins : (front bytes : List ℕ) (go : List ℕ → Bool) → after_bytes front go bytes ≡ (starts_with eqb bytes front && go (drop (length front) bytes))
after_begins [] bytes go = refl
after_begins (x ∷ front) [] go = refl
after_begins (x ∷ front) (b ∷ bytes) go =
    ap (λ t. eqb x b && t) (after_begins front bytes go) ∙ assoc (eqb x b) (starts_with eqb bytes front) (go (drop (length front) bytes))
  where
    assoc : (a b c : Bool) → (a && (b && c)) ≡ ((a && b) && c)
    assoc true b c = refl
    assoc false b c = refl

at_cond : (t : Bool) (n : ℕ) (passes : ℕ → Bool) → (t && passes n) ≡ at_front (cond t (Some n) None) passes
at_cond true n passes = refl
at_cond false n passes = refl

pub after_front : (front : Option (List ℕ)) (bytes : List ℕ) (go : List ℕ → Bool)
    → after_encoded front go bytes ≡ at_front (front_of front bytes) (λ n. go (drop n bytes))
after_front None bytes go = refl
after_front (Some front) bytes go =
    after_begins front bytes go ∙ at_cond (starts_with eqb bytes front) (length front) (λ n. go (drop n bytes))

pub after_some : (encoding : Encoding) (texts : List (List ℕ)) (bytes : List ℕ) (go : List ℕ → Bool)
    → after_one encoding texts go bytes ≡ some_front encoding texts bytes (λ n. go (drop n bytes))
unfolding after_one
after_some encoding [] bytes go = refl
after_some encoding (text ∷ texts) bytes go =
    ap (λ b. b || after_one encoding texts go bytes) (after_front (encoded_text encoding text) bytes go)
    ∙ ap (λ b. at_front (front_of (encoded_text encoding text) bytes) (λ n. go (drop n bytes)) || b) (after_some encoding texts bytes go)
