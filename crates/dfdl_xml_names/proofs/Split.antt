-- The names whose prefix a scope finds, and the others, by a scope with more bindings behind.
use Rattle.std.specs.Prelude.{◌≡◌, ℕ, Bool, true, false, ◌||◌, ◌&&◌, if◌then◌else◌, List, ◌++◌, ◌∷◌, [], Option, Some, None}
use Rattle.std.specs.Prelude.{◌+◌, ◌<◌, suc, zero, get_or, length, map, take}
use Rattle.std.specs.List.{list_any}
use Rattle.std.specs.Option.{option_or}
use Rattle.std.specs.Str.{bytes_eq, chars}
use Rattle.std.proofs.Common.{refl, sym, ap, ◌∙◌, inl, inr}
use Rattle.std.proofs.lemmas.Bool.{cases_Bool}
use Rattle.dfdl_markup.specs.Grammar.{Name, Plain, Prefixed}
use Rattle.std.proofs.lemmas.List.{map-append}
use Rattle.std.proofs.lemmas.List.Folds.{list_any-append}
use Rattle.dfdl_markup.specs.Values as values
use Rattle.dfdl_markup.specs.Values.{Binding, found, same_found, same_expanded, have_same, is_found, is_some_text, names_of}
use Rattle.dfdl_xml_names.specs.Shown.{attribute_of, name_of}
use Rattle.dfdl_xml_names.specs.Beyond.{picked, others}
use Rattle.dfdl_xml_names.specs.Expanded.{IsPaired, IsResolved, is_in}
use Rattle.dfdl_xml_names.specs.declared.name.Attribute.{Attribute}
use Rattle.dfdl_xml_names.specs.declared.resolved.Resolved.{Resolved}
use Rattle.dfdl_xml_names.proofs.Lists.{shown_more}
use Rattle.dfdl_xml_names.proofs.Kept.{found_append}
use Rattle.dfdl_xml_names.proofs.Expanded.{or_apart, and_none, any_alike, any_none, none_found}
use Rattle.dfdl_xml_names.proofs.Parts.{or_between, or_turned}
use Rattle.dfdl_xml_names.proofs.Bound.{same_turned, unfound_first}

mix_picked : (a p b c l : Bool) → (((a || p) || (b || c)) || l) ≡ ((a || b) || ((p || c) || l))
mix_picked true p b c l = refl
mix_picked false true true c l = refl
mix_picked false true false c l = refl
mix_picked false false true c l = refl
mix_picked false false false c l = refl

mix_other : (a p b c l : Bool) → ((p || (a || c)) || (b || l)) ≡ ((a || b) || ((p || c) || l))
mix_other true true b c l = refl
mix_other false true true c l = refl
mix_other false true false c l = refl
mix_other true false b c l = refl
mix_other false false true true l = refl
mix_other false false false true l = refl
mix_other false false b false l = refl

any_or : (f g : Name → Bool) (names : List Name) → list_any (λ u. f u || g u) names ≡ (list_any f names || list_any g names)
any_or f g [] = refl
any_or f g (x ∷ names) = ap (λ b. (f x || g x) || b) (any_or f g names) ∙ or_between (f x) (g x) (list_any f names) (list_any g names)

module _ (test : Name → Bool) where
  any_split : (f : Name → Bool) (names : List Name) → list_any f names ≡ (list_any f (picked test names) || list_any f (others test names))
  any_split f [] = refl
  any_split f (x ∷ names) = elim (cases_Bool (test x)) [
    | inl is ↦ ap (λ b. f x || b) (any_split f names)
        ∙ (or_apart (f x) (list_any f (picked test names)) (list_any f (others test names))
        ∙ sym (ap (λ b. list_any f (if b then x ∷ picked test names else picked test names) || list_any f (if b then others test names else x ∷ others test names)) is))
    | inr apart ↦ ap (λ b. f x || b) (any_split f names)
        ∙ (or_turned (f x) (list_any f (picked test names)) (list_any f (others test names))
        ∙ sym (ap (λ b. list_any f (if b then x ∷ picked test names else picked test names) || list_any f (if b then others test names else x ∷ others test names)) apart))
  ]

  module _ (same : Name → Name → Bool) (turned : (x y : Name) → same x y ≡ same y x) where
    abbrev crossed : List Name → List Name → Bool
    crossed firsts seconds = list_any (λ u. list_any (λ o. same o u) firsts) seconds

    abbrev told : List Name → List Name → Bool
    told firsts seconds = (have_same same firsts || crossed firsts seconds) || have_same same seconds

    -- two names are the same: two of those that pass, two of the others, or one of each
    pub same_split : (names : List Name) → told (picked test names) (others test names) ≡ have_same same names
    same_split [] = refl
    same_split (x ∷ names) =
        let p = picked test names in
        let l = others test names in
        let more : (list_any (same x) names || have_same same names) ≡ ((list_any (same x) p || list_any (same x) l) || told p l) =
        ap (λ b. b || have_same same names) (any_split (same x) names)
        ∙ ap (λ b. (list_any (same x) p || list_any (same x) l) || b) (sym (same_split names)) in
        elim (cases_Bool (test x)) [
          | inl is ↦ ap (λ b. told (if b then x ∷ p else p) (if b then l else x ∷ l)) is
              ∙ (ap (λ b. ((list_any (same x) p || have_same same p) || b) || have_same same l) (any_or (same x) (λ u. list_any (λ o. same o u) p) l)
              ∙ (mix_picked (list_any (same x) p) (have_same same p) (list_any (same x) l) (crossed p l) (have_same same l)
              ∙ sym more))
          | inr apart ↦ ap (λ b. told (if b then x ∷ p else p) (if b then l else x ∷ l)) apart
              ∙ (ap (λ b. (have_same same p || (b || crossed p l)) || (list_any (same x) l || have_same same l)) (any_alike (λ o. same o x) (same x) (λ o. turned o x) p)
              ∙ (mix_other (list_any (same x) p) (have_same same p) (list_any (same x) l) (crossed p l) (have_same same l)
              ∙ sym more))
        ]

-- what a scope finds, it finds with more bindings behind
module _ (own outer : List Binding) where
  abbrev all : List Binding
  all = own ++ outer

  pub stays_found : (q : List ℕ) (m : List ℕ) → found own q ≡ Some m → found all q ≡ found own q
  stays_found q m is =
      found_append own outer q ∙ (ap (λ o. option_or o (found outer q)) is ∙ sym is)

  -- a test of some name, where those that are not found fail it
  any_found : (f g : Name → Bool) → ((part : List ℕ) → f (Plain part) ≡ g (Plain part))
      → ((q part : List ℕ) → found all q ≡ found own q → f (Prefixed q part) ≡ g (Prefixed q part))
      → ((q part : List ℕ) → found own q ≡ None → f (Prefixed q part) ≡ false)
      → (names : List Name) → list_any f names ≡ list_any g (picked (is_found own) names)
  any_found f g plain settled none [] = refl
  any_found f g plain settled none (Plain x ∷ names) =
      ap (λ b. b || list_any f names) (plain x) ∙ ap (λ b. g (Plain x) || b) (any_found f g plain settled none names)
  any_found f g plain settled none (Prefixed q x ∷ names) = at (found own q) refl (any_found f g plain settled none names)
    where
      at : (o : Option (List ℕ)) → found own q ≡ o
          → list_any f names ≡ list_any g (picked (is_found own) names)
          → (f (Prefixed q x) || list_any f names)
          ≡ list_any g (if is_some_text (found own q) then Prefixed q x ∷ picked (is_found own) names else picked (is_found own) names)
      at (Some m) is more =
          ap (λ b. b || list_any f names) (settled q x (stays_found q m is))
          ∙ (ap (λ b. g (Prefixed q x) || b) more
          ∙ sym (ap (λ o. list_any g (if is_some_text o then Prefixed q x ∷ picked (is_found own) names else picked (is_found own) names)) is))
      at None is more =
          ap (λ b. b || list_any f names) (none q x is)
          ∙ (more
          ∙ sym (ap (λ o. list_any g (if is_some_text o then Prefixed q x ∷ picked (is_found own) names else picked (is_found own) names)) is))

  pub found_pairs : (resolved : Resolved) (names : List Name) → IsResolved resolved own names
      → IsPaired resolved.pairs (own ++ outer) (picked (is_found own) names)
  found_pairs resolved names kept = λ a b u v.
      kept.pairs a b u v
      ∙ any_found (is_in own (chars a) (chars b)) (is_in all (chars a) (chars b)) (λ part. refl)
      (λ q part e. ap (λ o. bytes_eq part (chars b) && same_found o (Some (chars a))) (sym e))
      (λ q part none. ap (λ o. bytes_eq part (chars b) && same_found o (Some (chars a))) none ∙ and_none (bytes_eq part (chars b)))
      names

  first_found : (q x : List ℕ) (m : List ℕ) → found own q ≡ Some m → (names : List Name)
      → list_any (same_expanded own (Prefixed q x)) names ≡ list_any (same_expanded all (Prefixed q x)) (picked (is_found own) names)
  first_found q x m is names =
      any_found (same_expanded own (Prefixed q x)) (same_expanded all (Prefixed q x)) (λ part. refl)
      (λ r part e. ap (λ o. bytes_eq x part && same_found o (found own r)) (sym (stays_found q m is))
      ∙ ap (λ o. bytes_eq x part && same_found (found all q) o) (sym e))
      (λ r part none. ap (λ o. bytes_eq x part && same_found (found own q) o) none
      ∙ (ap (λ b. bytes_eq x part && b) (none_found (found own q)) ∙ and_none (bytes_eq x part)))
      names

  pub found_same : (names : List Name) → have_same (same_expanded own) names ≡ have_same (same_expanded all) (picked (is_found own) names)
  found_same [] = refl
  found_same (Plain x ∷ names) =
      ap (λ b. b || have_same (same_expanded own) names)
      (any_found (same_expanded own (Plain x)) (same_expanded all (Plain x)) (λ part. refl) (λ q part e. refl) (λ q part e. refl) names)
      ∙ ap (λ b. list_any (same_expanded all (Plain x)) (picked (is_found own) names) || b) (found_same names)
  found_same (Prefixed q x ∷ names) = at (found own q) refl (found_same names)
    where
      at : (o : Option (List ℕ)) → found own q ≡ o
          → have_same (same_expanded own) names ≡ have_same (same_expanded all) (picked (is_found own) names)
          → have_same (same_expanded own) (Prefixed q x ∷ names)
          ≡ have_same (same_expanded all) (if is_some_text (found own q) then Prefixed q x ∷ picked (is_found own) names else picked (is_found own) names)
      at (Some m) is more =
          ap (λ b. b || have_same (same_expanded own) names) (first_found q x m is names)
          ∙ (ap (λ b. list_any (same_expanded all (Prefixed q x)) (picked (is_found own) names) || b) more
          ∙ sym (ap (λ o. have_same (same_expanded all) (if is_some_text o then Prefixed q x ∷ picked (is_found own) names else picked (is_found own) names)) is))
      at None is more =
          ap (λ b. b || have_same (same_expanded own) names) (any_none (same_expanded own (Prefixed q x)) (unfound_first own q x is) names)
          ∙ (more
          ∙ sym (ap (λ o. have_same (same_expanded all) (if is_some_text o then Prefixed q x ∷ picked (is_found own) names else picked (is_found own) names)) is))

  abbrev pub crosses : List Name → List Name → Bool
  crosses firsts seconds = list_any (λ u. list_any (λ o. same_expanded (own ++ outer) o u) firsts) seconds

  -- all names, by those that are found, the others, and what is the same across
  pub clash_beyond : (resolved more : Resolved) (names : List Name) (clash : Bool) → IsResolved resolved own names
      → IsResolved more (own ++ outer) (others (is_found own) names)
      → clash ≡ (resolved.clash || crosses (picked (is_found own) names) (others (is_found own) names))
      → (clash || more.clash) ≡ have_same (same_expanded (own ++ outer)) names
  clash_beyond resolved more names clash kept beyond is =
      let p = picked (is_found own) names in
      let l = others (is_found own) names in
      ap (λ b. b || more.clash) is
      ∙ (ap (λ b. (b || crosses p l) || more.clash) (kept.clash ∙ found_same names)
      ∙ (ap (λ b. (have_same (same_expanded all) p || crosses p l) || b) beyond.clash
      ∙ same_split (is_found own) (same_expanded all) (same_turned all) names))

  -- two are the same where two of those that are found are, or where one is the same across
  pub clash_now : (resolved : Resolved) (names : List Name) → IsResolved resolved own names → resolved.clash ≡ true
      → true ≡ have_same (same_expanded all) names
  clash_now resolved names kept is =
      let p = picked (is_found own) names in
      let l = others (is_found own) names in
      sym (ap (λ b. (b || crosses p l) || have_same (same_expanded all) l) (sym (found_same names) ∙ (sym kept.clash ∙ is)))
      ∙ same_split (is_found own) (same_expanded all) (same_turned all) names

  pub crossed_now : (names : List Name) → crosses (picked (is_found own) names) (others (is_found own) names) ≡ true
      → true ≡ have_same (same_expanded all) names
  crossed_now names is =
      let p = picked (is_found own) names in
      let l = others (is_found own) names in
      sym (ap (λ b. (have_same (same_expanded all) p || b) || have_same (same_expanded all) l) is
      ∙ or_first (have_same (same_expanded all) p) (have_same (same_expanded all) l))
      ∙ same_split (is_found own) (same_expanded all) (same_turned all) names
    where
      or_first : (a b : Bool) → ((a || true) || b) ≡ true
      or_first true b = refl
      or_first false b = refl

-- the others, with one name more
pub others_more : (test : Name → Bool) (names : List Name) (x : Name)
    → others test (names ++ x ∷ []) ≡ others test names ++ (if test x then [] else x ∷ [])
others_more test [] x = refl
others_more test (y ∷ names) x = elim (cases_Bool (test y)) [
  | inl is ↦ ap (λ b. if b then others test (names ++ x ∷ []) else y ∷ others test (names ++ x ∷ [])) is
      ∙ (others_more test names x
      ∙ sym (ap (λ b. (if b then others test names else y ∷ others test names) ++ (if test x then [] else x ∷ [])) is))
  | inr apart ↦ ap (λ b. if b then others test (names ++ x ∷ []) else y ∷ others test (names ++ x ∷ [])) apart
      ∙ (ap (λ l. y ∷ l) (others_more test names x)
      ∙ sym (ap (λ b. (if b then others test names else y ∷ others test names) ++ (if test x then [] else x ∷ [])) apart))
]

-- the names up to a place and the one at it
pub named_more : (xs : List Attribute) (i : ℕ) (x : Attribute) → i < length xs → x ≡ get_or xs i x
    → names_of (map attribute_of (take (i + 1) xs)) ≡ names_of (map attribute_of (take i xs)) ++ name_of x.name ∷ []
named_more xs i x less is =
    ap names_of (shown_more xs i x less is)
    ∙ map-append (λ (a : values.Attribute). a.name) (map attribute_of (take i xs)) (attribute_of x ∷ [])

or_true : (a : Bool) → (a || true) ≡ true
or_true true = refl
or_true false = refl

-- a test of the others, with one name more that passes it or fails it
pub crossed_met : (f : Name → Bool) (l more now : List Name) (met : Bool) → now ≡ l ++ more → met ≡ list_any f more → met ≡ true
    → list_any f now ≡ true
crossed_met f l more now met is here passes =
    ap (list_any f) is
    ∙ (list_any-append f l more ∙ (ap (λ b. list_any f l || b) (sym here ∙ passes) ∙ or_true (list_any f l)))

pub crossed_unmet : (f : Name → Bool) (l more now : List Name) (met : Bool) → now ≡ l ++ more → list_any f l ≡ false
    → met ≡ list_any f more → met ≡ false → list_any f now ≡ false
crossed_unmet f l more now met is before here fails =
    ap (list_any f) is
    ∙ (list_any-append f l more ∙ (ap (λ b. b || list_any f more) before ∙ (sym here ∙ fails)))

-- one of the first others passes a test
pub any_sooner : (test f : Name → Bool) (xs : List Attribute) (i : ℕ)
    → list_any f (others test (names_of (map attribute_of (take i xs)))) ≡ true
    → list_any f (others test (names_of (map attribute_of xs))) ≡ true
any_sooner test f [] zero is = is
any_sooner test f [] (suc i) is = is
any_sooner test f (x ∷ xs) zero is = absurd (cc)
any_sooner test f (x ∷ xs) (suc i) is =
    let l = others test (names_of (map attribute_of (take i xs))) in
    let all = others test (names_of (map attribute_of xs)) in
    elim (cases_Bool (test (name_of x.name))) [
      | inl passes ↦ ap (λ b. list_any f (if b then all else name_of x.name ∷ all)) passes
          ∙ any_sooner test f xs i (sym (ap (λ b. list_any f (if b then l else name_of x.name ∷ l)) passes) ∙ is)
      | inr fails ↦ ap (λ b. list_any f (if b then all else name_of x.name ∷ all)) fails
          ∙ either (f (name_of x.name)) (list_any f l) (list_any f all) (sym (ap (λ b. list_any f (if b then l else name_of x.name ∷ l)) fails) ∙ is)
          (any_sooner test f xs i)
    ]
  where
    either : (b sooner later : Bool) → (b || sooner) ≡ true → (sooner ≡ true → later ≡ true) → (b || later) ≡ true
    either true sooner later is step = refl
    either false sooner later is step = step is
