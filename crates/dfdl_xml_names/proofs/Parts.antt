-- The parts of names of one prefix, and names with these behind all others.
use Rattle.std.specs.Prelude.{◌≡◌, ℕ, Bool, true, false, ◌||◌, if◌then◌else◌, List, ◌++◌, ◌∷◌, [], map, Option, Some, None}
use Rattle.std.specs.Prelude.{◌+◌, ◌<◌, String, Vec, chars, get_or, length, string_bytes, take}
use Rattle.std.specs.List.{list_any}
use Rattle.std.specs.Str.{bytes_eq}
use Rattle.std.proofs.Common.{refl, sym, ap, ◌∙◌, append-nil, append_assoc, inl, inr}
use Rattle.std.proofs.lemmas.List.{map-append, take_more}
use Rattle.std.proofs.lemmas.Bool.{cases_Bool}
use Rattle.std.proofs.lemmas.Slice.Eq.{bytes_eq-Decides}
use Rattle.dfdl_markup.specs.Grammar.{Name, Plain, Prefixed}
use Rattle.dfdl_markup.specs.Values.{have_same}
use Rattle.dfdl_xml_names.specs.Shown.{text_of}
use Rattle.dfdl_xml_names.specs.Waiting.{parts_in, parts_of, parts_left}

pub or_between : (a b c d : Bool) → ((a || b) || (c || d)) ≡ ((a || c) || (b || d))
or_between true b c d = refl
or_between false true true d = refl
or_between false true false d = refl
or_between false false c d = refl

pub or_turned : (a b c : Bool) → (a || (b || c)) ≡ (b || (a || c))
or_turned true true c = refl
or_turned true false c = refl
or_turned false b c = refl

if_append : (b : Bool) (x : List ℕ) (xs ys : List (List ℕ))
    → (if b then x ∷ (xs ++ ys) else xs ++ ys) ≡ (if b then x ∷ xs else xs) ++ ys
if_append true x xs ys = refl
if_append false x xs ys = refl

pub parts_append : (p : List ℕ) (xs ys : List Name) → parts_of p (xs ++ ys) ≡ parts_of p xs ++ parts_of p ys
parts_append p [] ys = refl
parts_append p (Plain x ∷ xs) ys = parts_append p xs ys
parts_append p (Prefixed q x ∷ xs) ys =
    ap (λ l. if bytes_eq q p then x ∷ l else l) (parts_append p xs ys) ∙ if_append (bytes_eq q p) x (parts_of p xs) (parts_of p ys)

-- one name more: without a prefix, of another prefix, of a prefix that is found, and of one that is not
pub left_plain : (o : Option (List ℕ)) (q : List ℕ) (names : List Name) (part : List ℕ)
    → parts_left o q names ≡ parts_left o q (names ++ Plain part ∷ [])
left_plain (Some n) q names part = refl
left_plain None q names part = sym (parts_append q names (Plain part ∷ []) ∙ append-nil (parts_of q names))

one_other : (p q : List ℕ) (names : List Name) (part : List ℕ) → bytes_eq p q ≡ false
    → parts_of q names ≡ parts_of q (names ++ Prefixed p part ∷ [])
one_other p q names part other =
    sym (parts_append q names (Prefixed p part ∷ [])
    ∙ (ap (λ b. parts_of q names ++ (if b then part ∷ [] else [])) other ∙ append-nil (parts_of q names)))

one_same : (p q : List ℕ) (names : List Name) (part : List ℕ) → bytes_eq p q ≡ true
    → parts_of q names ++ part ∷ [] ≡ parts_of q (names ++ Prefixed p part ∷ [])
one_same p q names part is =
    sym (parts_append q names (Prefixed p part ∷ []) ∙ ap (λ b. parts_of q names ++ (if b then part ∷ [] else [])) is)

pub left_found : (o : Option (List ℕ)) (p q : List ℕ) (names : List Name) (part : List ℕ) (n : List ℕ) (b : Bool)
    → bytes_eq p q ≡ b → (b ≡ true → o ≡ Some n)
    → parts_left o q names ≡ parts_left o q (names ++ Prefixed p part ∷ [])
left_found (Some m) p q names part n b is found = refl
left_found None p q names part n true is found = let apart = found refl in absurd cc
left_found None p q names part n false is found = one_other p q names part is

pub left_waits : (o : Option (List ℕ)) (p q : List ℕ) (names : List Name) (part : List ℕ) (b : Bool)
    → bytes_eq p q ≡ b → (b ≡ true → o ≡ None)
    → (if b then parts_left o q names ++ part ∷ [] else parts_left o q names) ≡ parts_left o q (names ++ Prefixed p part ∷ [])
left_waits None p q names part true is none = one_same p q names part is
left_waits None p q names part false is none = one_other p q names part is
left_waits (Some n) p q names part true is none = let apart = none refl in absurd cc
left_waits (Some n) p q names part false is none = refl

pub left_alike : (o : Option (List ℕ)) (q : List ℕ) (xs ys : List Name) → parts_of q xs ≡ parts_of q ys
    → parts_left o q xs ≡ parts_left o q ys
left_alike (Some n) q xs ys alike = refl
left_alike None q xs ys alike = alike

-- the names that have not this prefix
abbrev pub without : List ℕ → List Name → List Name
without p [] = []
without p (Plain x ∷ names) = Plain x ∷ without p names
without p (Prefixed q x ∷ names) = if bytes_eq q p then without p names else Prefixed q x ∷ without p names

-- the names with those of the prefix behind the others
abbrev pub put_back : List ℕ → List Name → List Name
put_back p names = without p names ++ map (Prefixed p) (parts_of p names)

module _ (p : List ℕ) where
  pub same_prefix : (q : List ℕ) → bytes_eq q p ≡ true → q ≡ p
  same_prefix q is = (bytes_eq-Decides q p).0 is

  back_same : (q x : List ℕ) (names : List Name) → bytes_eq q p ≡ true
      → put_back p (Prefixed q x ∷ names) ≡ without p names ++ Prefixed q x ∷ map (Prefixed p) (parts_of p names)
  back_same q x names is =
      ap (λ b. (if b then without p names else Prefixed q x ∷ without p names) ++ map (Prefixed p) (if b then x ∷ parts_of p names else parts_of p names)) is
      ∙ ap (λ r. without p names ++ Prefixed r x ∷ map (Prefixed p) (parts_of p names)) (sym (same_prefix q is))

  back_other : (q x : List ℕ) (names : List Name) → bytes_eq q p ≡ false
      → put_back p (Prefixed q x ∷ names) ≡ Prefixed q x ∷ put_back p names
  back_other q x names apart =
      ap (λ b. (if b then without p names else Prefixed q x ∷ without p names) ++ map (Prefixed p) (if b then x ∷ parts_of p names else parts_of p names)) apart

  any_between : (f : Name → Bool) (xs ys : List Name) (y : Name) → list_any f (xs ++ y ∷ ys) ≡ (f y || list_any f (xs ++ ys))
  any_between f [] ys y = refl
  any_between f (x ∷ xs) ys y =
      ap (λ b. f x || b) (any_between f xs ys y) ∙ or_turned (f x) (f y) (list_any f (xs ++ ys))

  pub any_back : (f : Name → Bool) (names : List Name) → list_any f (put_back p names) ≡ list_any f names
  any_back f [] = refl
  any_back f (Plain x ∷ names) = ap (λ b. f (Plain x) || b) (any_back f names)
  any_back f (Prefixed q x ∷ names) = elim (cases_Bool (bytes_eq q p)) [
    | inl is ↦ ap (list_any f) (back_same q x names is)
        ∙ (any_between f (without p names) (map (Prefixed p) (parts_of p names)) (Prefixed q x)
        ∙ ap (λ b. f (Prefixed q x) || b) (any_back f names))
    | inr apart ↦ ap (list_any f) (back_other q x names apart) ∙ ap (λ b. f (Prefixed q x) || b) (any_back f names)
  ]

  module _ (same : Name → Name → Bool) (turned : (x y : Name) → same x y ≡ same y x) where
    same_between : (xs ys : List Name) (y : Name)
        → have_same same (xs ++ y ∷ ys) ≡ (list_any (same y) (xs ++ ys) || have_same same (xs ++ ys))
    same_between [] ys y = refl
    same_between (x ∷ xs) ys y =
        ap (λ b. b || have_same same (xs ++ y ∷ ys)) (any_between (same x) xs ys y)
        ∙ (ap (λ b. (same x y || list_any (same x) (xs ++ ys)) || b) (same_between xs ys y)
        ∙ (ap (λ b. (b || list_any (same x) (xs ++ ys)) || (list_any (same y) (xs ++ ys) || have_same same (xs ++ ys))) (turned x y)
        ∙ or_between (same y x) (list_any (same x) (xs ++ ys)) (list_any (same y) (xs ++ ys)) (have_same same (xs ++ ys))))

    one_more : (x : Name) (names : List Name) → have_same same (put_back p names) ≡ have_same same names
        → (list_any (same x) (put_back p names) || have_same same (put_back p names)) ≡ have_same same (x ∷ names)
    one_more x names more =
        ap (λ b. b || have_same same (put_back p names)) (any_back (same x) names)
        ∙ ap (λ b. list_any (same x) names || b) more

    pub same_back : (names : List Name) → have_same same (put_back p names) ≡ have_same same names
    same_back [] = refl
    same_back (Plain x ∷ names) = one_more (Plain x) names (same_back names)
    same_back (Prefixed q x ∷ names) = elim (cases_Bool (bytes_eq q p)) [
      | inl is ↦ ap (have_same same) (back_same q x names is)
          ∙ (same_between (without p names) (map (Prefixed p) (parts_of p names)) (Prefixed q x)
          ∙ one_more (Prefixed q x) names (same_back names))
      | inr apart ↦ ap (have_same same) (back_other q x names apart) ∙ one_more (Prefixed q x) names (same_back names)
    ]

  module _ (q : List ℕ) (apart : bytes_eq p q ≡ false) where
    pub parts_without : (names : List Name) → parts_of q (without p names) ≡ parts_of q names
    parts_without [] = refl
    parts_without (Plain x ∷ names) = parts_without names
    parts_without (Prefixed r x ∷ names) = elim (cases_Bool (bytes_eq r p)) [
      | inl is ↦ ap (λ b. parts_of q (if b then without p names else Prefixed r x ∷ without p names)) is
          ∙ (parts_without names
          ∙ sym (ap (λ b. if b then x ∷ parts_of q names else parts_of q names) (ap (λ l. bytes_eq l q) (same_prefix r is) ∙ apart)))
      | inr apart ↦ ap (λ b. parts_of q (if b then without p names else Prefixed r x ∷ without p names)) apart
          ∙ ap (λ l. if bytes_eq r q then x ∷ l else l) (parts_without names)
    ]

    none_of : (parts : List (List ℕ)) → parts_of q (map (Prefixed p) parts) ≡ []
    none_of [] = refl
    none_of (x ∷ parts) = ap (λ b. if b then x ∷ parts_of q (map (Prefixed p) parts) else parts_of q (map (Prefixed p) parts)) apart ∙ none_of parts

    pub parts_back : (names : List Name) → parts_of q (put_back p names) ≡ parts_of q names
    parts_back names =
        parts_append q (without p names) (map (Prefixed p) (parts_of p names))
        ∙ (ap (λ l. parts_of q (without p names) ++ l) (none_of (parts_of p names))
        ∙ (append-nil (parts_of q (without p names)) ∙ parts_without names))

-- a test of some name, where those of the prefix fail it
pub any_left : (p : List ℕ) (f g : Name → Bool) → ((part : List ℕ) → f (Plain part) ≡ g (Plain part))
    → ((q part : List ℕ) → bytes_eq q p ≡ false → f (Prefixed q part) ≡ g (Prefixed q part))
    → ((q part : List ℕ) → bytes_eq q p ≡ true → f (Prefixed q part) ≡ false)
    → (names : List Name) → list_any f names ≡ list_any g (without p names)
any_left p f g plain other none [] = refl
any_left p f g plain other none (Plain x ∷ names) =
    ap (λ b. b || list_any f names) (plain x) ∙ ap (λ b. g (Plain x) || b) (any_left p f g plain other none names)
any_left p f g plain other none (Prefixed q x ∷ names) = elim (cases_Bool (bytes_eq q p)) [
  | inl is ↦ ap (λ b. b || list_any f names) (none q x is)
      ∙ (any_left p f g plain other none names
      ∙ sym (ap (λ b. list_any g (if b then without p names else Prefixed q x ∷ without p names)) is))
  | inr apart ↦ ap (λ b. b || list_any f names) (other q x apart)
      ∙ (ap (λ b. g (Prefixed q x) || b) (any_left p f g plain other none names)
      ∙ sym (ap (λ b. list_any g (if b then without p names else Prefixed q x ∷ without p names)) apart))
]

-- the parts that an update leaves
pub parts_if : {A B : Type 0} (b : Bool) (o : Option (Vec (String A) B)) → parts_in (if b then None else o) ≡ (if b then [] else parts_in o)
parts_if true o = refl
parts_if false o = refl

-- the names of the parts up to a place, and of the one at it
pub spelled_more : {A : Type 0} (names : List Name) (p : List ℕ) (xs : List (String A)) (i : ℕ) (x : String A) (text : List ℕ)
    → i < length xs → x ≡ get_or xs i x → text ≡ string_bytes x
    → (names ++ map (Prefixed p) (map text_of (take i xs))) ++ Prefixed p (chars text) ∷ []
    ≡ names ++ map (Prefixed p) (map text_of (take (i + 1) xs))
spelled_more names p xs i x text less is same =
    append_assoc names (map (Prefixed p) (map text_of (take i xs))) (Prefixed p (chars text) ∷ [])
    ∙ ap (λ l. names ++ l)
    (sym (ap (λ l. map (Prefixed p) (map text_of l)) (take_more xs i x less)
    ∙ (ap (map (Prefixed p)) (map-append text_of (take i xs) (get_or xs i x ∷ []))
    ∙ (map-append (Prefixed p) (map text_of (take i xs)) (text_of (get_or xs i x) ∷ [])
    ∙ (ap (λ s. map (Prefixed p) (map text_of (take i xs)) ++ Prefixed p (text_of s) ∷ []) (sym is)
    ∙ ap (λ t. map (Prefixed p) (map text_of (take i xs)) ++ Prefixed p (chars t) ∷ []) (sym same))))))
