-- What is kept of names, with one binding more: the names of its prefix no longer wait.
use Rattle.std.specs.Prelude.{◌≡◌, ℕ, true, false, ◌||◌, ◌&&◌, if◌then◌else◌, List, ◌++◌, ◌∷◌, [], map, Option, Some, None}
use Rattle.std.specs.List.{list_any}
use Rattle.std.specs.Option.{option_or}
use Rattle.std.specs.Str.{bytes_eq, chars, IsUtf8}
use Rattle.std.proofs.Common.{refl, sym, ap, subst, ◌∙◌, append-nil, inl, inr}
use Rattle.std.proofs.lemmas.Bool.{cases_Bool}
use Rattle.std.proofs.lemmas.Slice.Eq.{bytes_eq-Decides}
use Rattle.dfdl_markup.specs.Grammar.{Name, Plain, Prefixed}
use Rattle.dfdl_markup.specs.Values.{Binding, found, same_found, same_expanded, have_same}
use Rattle.dfdl_xml_names.specs.Paired.{has_pair}
use Rattle.dfdl_xml_names.specs.Expanded.{IsResolved, is_in}
use Rattle.dfdl_xml_names.specs.Waiting.{IsWaiting, parts_at, parts_left}
use Rattle.dfdl_xml_names.specs.declared.resolved.Resolved.{Resolved}
use Rattle.dfdl_xml_names.proofs.Texts.{same_chars}
use Rattle.dfdl_xml_names.proofs.Kept.{found_append}
use Rattle.dfdl_xml_names.proofs.Opened.{turned}
use Rattle.dfdl_xml_names.proofs.Expanded.{and_none, none_found, any_alike, any_none, same_found_of}
use Rattle.dfdl_xml_names.proofs.Parts.{without, put_back, any_left, any_back, same_back, parts_without, parts_back, left_alike}

or_nothing : (o : Option (List ℕ)) → option_or o None ≡ o
or_nothing None = refl
or_nothing (Some x) = refl

none_first : (o : Option (List ℕ)) → same_found None o ≡ false
none_first None = refl
none_first (Some x) = refl

-- a name whose prefix is not found is the same as none
pub unfound_first : (scope : List Binding) (p x : List ℕ) → found scope p ≡ None → (y : Name) → same_expanded scope (Prefixed p x) y ≡ false
unfound_first scope p x none (Plain y) = refl
unfound_first scope p x none (Prefixed q y) =
    ap (λ o. bytes_eq x y && same_found o (found scope q)) none
    ∙ (ap (λ b. bytes_eq x y && b) (none_first (found scope q)) ∙ and_none (bytes_eq x y))

found_turned : (a b : Option (List ℕ)) → same_found a b ≡ same_found b a
found_turned None None = refl
found_turned None (Some b) = refl
found_turned (Some a) None = refl
found_turned (Some a) (Some b) = turned a b

pub same_turned : (scope : List Binding) (x y : Name) → same_expanded scope x y ≡ same_expanded scope y x
same_turned scope (Plain a) (Plain b) = refl
same_turned scope (Plain a) (Prefixed q b) = refl
same_turned scope (Prefixed p a) (Plain b) = refl
same_turned scope (Prefixed p a) (Prefixed q b) =
    ap (λ t. t && same_found (found scope p) (found scope q)) (turned a b)
    ∙ ap (λ t. bytes_eq b a && t) (found_turned (found scope p) (found scope q))

-- the names in another order, of which no place is told
back_again : (resolved : Resolved) (scope : List Binding) (p n : List ℕ) (names : List Name) → found scope p ≡ Some n
    → IsResolved resolved scope (put_back p names) → IsResolved resolved scope names
back_again resolved scope p n names is kept = record {
  pairs = λ a b u v. kept.pairs a b u v ∙ any_back p (is_in scope (chars a) (chars b)) names;
  waiting = λ q u. kept.waiting q u ∙ left_back (chars q) (found scope (chars q)) (same_found_of scope p (chars q) (Some n) is);
  clash = kept.clash ∙ same_back p (same_expanded scope) (same_turned scope) names;
}
  where
    left_back : (q : List ℕ) (o : Option (List ℕ)) → (bytes_eq p q ≡ true → o ≡ Some n)
        → parts_left o q (put_back p names) ≡ parts_left o q names
    left_back q (Some m) settled = refl
    left_back q None settled = elim (cases_Bool (bytes_eq p q)) [
      | inl alike ↦ (let apart = settled alike in absurd cc)
      | inr apart ↦ parts_back p q apart names
    ]

-- the tests of names by two scopes in which each prefix stands for one and the same
module _ (scope more : List Binding) (alike : (q : List ℕ) → found scope q ≡ found more q) where
  in_alike : (a b : List ℕ) (x : Name) → is_in scope a b x ≡ is_in more a b x
  in_alike a b (Plain name) = refl
  in_alike a b (Prefixed q name) = ap (λ o. bytes_eq name b && same_found o (Some a)) (alike q)

  same_alike : (x y : Name) → same_expanded scope x y ≡ same_expanded more x y
  same_alike (Plain a) (Plain b) = refl
  same_alike (Plain a) (Prefixed q b) = refl
  same_alike (Prefixed p a) (Plain b) = refl
  same_alike (Prefixed p a) (Prefixed q b) =
      ap (λ o. bytes_eq a b && same_found o (found scope q)) (alike p)
      ∙ ap (λ o. bytes_eq a b && same_found (found more p) o) (alike q)

  have_alike : (names : List Name) → have_same (same_expanded scope) names ≡ have_same (same_expanded more) names
  have_alike [] = refl
  have_alike (x ∷ names) =
      ap (λ b. b || have_same (same_expanded scope) names) (any_alike (same_expanded scope x) (same_expanded more x) (same_alike x) names)
      ∙ ap (λ b. list_any (same_expanded more x) names || b) (have_alike names)

-- one binding more, of a prefix that is not found yet
module _ (scope : List Binding) (p n : List ℕ) where
  abbrev more : List Binding
  more = scope ++ record { prefix = p; namespace = n } ∷ []

  found_by : (q : List ℕ) → found more q ≡ option_or (found scope q) (if bytes_eq p q then Some n else None)
  found_by q = found_append scope (record { prefix = p; namespace = n } ∷ []) q

  -- what is found of another prefix than the one that is declared
  found_stays : (q : List ℕ) → bytes_eq p q ≡ false → found scope q ≡ found more q
  found_stays q apart =
      sym (found_by q
      ∙ (ap (λ b. option_or (found scope q) (if b then Some n else None)) apart ∙ or_nothing (found scope q)))

  stays_turned : (q : List ℕ) → bytes_eq q p ≡ false → found scope q ≡ found more q
  stays_turned q apart = found_stays q (turned p q ∙ apart)

  -- where it was found before
  found_before : (m : List ℕ) → found scope p ≡ Some m → (q : List ℕ) → found scope q ≡ found more q
  found_before m is q = elim (cases_Bool (bytes_eq p q)) [
    | inl alike ↦ same_found_of scope p q (Some m) is alike
        ∙ sym (found_by q ∙ ap (λ o. option_or o (if bytes_eq p q then Some n else None)) (same_found_of scope p q (Some m) is alike))
    | inr apart ↦ found_stays q apart
  ]

  pub found_last : found scope p ≡ None → found more p ≡ Some n
  found_last none =
      found_by p
      ∙ (ap (λ o. option_or o (if bytes_eq p p then Some n else None)) none
      ∙ ap (λ b. if b then Some n else None) ((bytes_eq-Decides p p).1 refl))

  pub found_some : (o : Option (List ℕ)) → found scope p ≡ o → found more p ≡ None → ⊥
  found_some None none apart = let some = found_last none in absurd cc
  found_some (Some m) is apart = let some = sym (found_before m is p) ∙ is in absurd cc

  module _ (none : found scope p ≡ None) where
    unfound : (q : List ℕ) → bytes_eq q p ≡ true → found scope q ≡ None
    unfound q is = ap (found scope) ((bytes_eq-Decides q p).0 is) ∙ none

    in_left : (a b : List ℕ) (names : List Name) → list_any (is_in scope a b) names ≡ list_any (is_in more a b) (without p names)
    in_left a b names =
        any_left p (is_in scope a b) (is_in more a b) (λ part. refl)
        (λ q part apart. ap (λ o. bytes_eq part b && same_found o (Some a)) (stays_turned q apart))
        (λ q part is. ap (λ o. bytes_eq part b && same_found o (Some a)) (unfound q is) ∙ and_none (bytes_eq part b))
        names

    plain_left : (x : List ℕ) (names : List Name)
        → list_any (same_expanded scope (Plain x)) names ≡ list_any (same_expanded more (Plain x)) (without p names)
    plain_left x names =
        any_left p (same_expanded scope (Plain x)) (same_expanded more (Plain x)) (λ part. refl) (λ q part apart. refl) (λ q part is. refl) names

    prefixed_left : (r x : List ℕ) (names : List Name) → bytes_eq r p ≡ false
        → list_any (same_expanded scope (Prefixed r x)) names ≡ list_any (same_expanded more (Prefixed r x)) (without p names)
    prefixed_left r x names other =
        any_left p (same_expanded scope (Prefixed r x)) (same_expanded more (Prefixed r x)) (λ part. refl)
        (λ q part apart. ap (λ o. bytes_eq x part && same_found o (found scope q)) (stays_turned r other)
        ∙ ap (λ o. bytes_eq x part && same_found (found more r) o) (stays_turned q apart))
        (λ q part is. ap (λ o. bytes_eq x part && same_found (found scope r) o) (unfound q is)
        ∙ (ap (λ b. bytes_eq x part && b) (none_found (found scope r)) ∙ and_none (bytes_eq x part)))
        names

    same_left : (names : List Name) → have_same (same_expanded scope) names ≡ have_same (same_expanded more) (without p names)
    same_left [] = refl
    same_left (Plain x ∷ names) =
        ap (λ b. b || have_same (same_expanded scope) names) (plain_left x names)
        ∙ ap (λ b. list_any (same_expanded more (Plain x)) (without p names) || b) (same_left names)
    same_left (Prefixed r x ∷ names) = elim (cases_Bool (bytes_eq r p)) [
      | inl is ↦ ap (λ b. b || have_same (same_expanded scope) names)
          (any_none (same_expanded scope (Prefixed r x)) (unfound_first scope r x (unfound r is)) names)
          ∙ (same_left names
          ∙ sym (ap (λ b. have_same (same_expanded more) (if b then without p names else Prefixed r x ∷ without p names)) is))
      | inr apart ↦ ap (λ b. b || have_same (same_expanded scope) names) (prefixed_left r x names apart)
          ∙ (ap (λ b. list_any (same_expanded more (Prefixed r x)) (without p names) || b) (same_left names)
          ∙ sym (ap (λ b. have_same (same_expanded more) (if b then without p names else Prefixed r x ∷ without p names)) apart))
    ]

    parts_stay : (q : List ℕ) (names : List Name)
        → (if bytes_eq p q then [] else parts_left (found scope q) q names) ≡ parts_left (found more q) q (without p names)
    parts_stay q names = elim (cases_Bool (bytes_eq p q)) [
      | inl alike ↦ ap (λ b. if b then [] else parts_left (found scope q) q names) alike
          ∙ sym (ap (λ o. parts_left o q (without p names)) (same_found_of more p q (Some n) (found_last none) alike))
      | inr apart ↦ ap (λ b. if b then [] else parts_left (found scope q) q names) apart
          ∙ (ap (λ o. parts_left o q names) (found_stays q apart)
          ∙ left_alike (found more q) q names (without p names) (sym (parts_without p q apart names)))
    ]

  -- what is kept where the prefix is taken out, of the names that have it not or of all
  module _ (old taken : Resolved) (prefix : List ℕ) (utf8 : IsUtf8 prefix) (named : p ≡ chars prefix)
      (pairs : taken.pairs ≡ old.pairs) (clash : taken.clash ≡ old.clash)
      (waits : (q : List ℕ) → parts_at taken.waiting q ≡ (if bytes_eq prefix q then [] else parts_at old.waiting q)) where
    waits_on : (names : List Name) → IsWaiting old.waiting scope names → (q : List ℕ) → IsUtf8 q
        → parts_at taken.waiting q ≡ (if bytes_eq p (chars q) then [] else parts_left (found scope (chars q)) (chars q) names)
    waits_on names kept q u =
        waits q
        ∙ (ap (λ b. if b then [] else parts_at old.waiting q) (sym (ap (λ l. bytes_eq l (chars q)) named ∙ same_chars prefix q utf8 u))
        ∙ ap (λ l. if bytes_eq p (chars q) then [] else l) (kept q u))

    taken_out : (names : List Name) → found scope p ≡ None → IsResolved old scope names → IsResolved taken more (without p names)
    taken_out names none kept = record {
      pairs = λ a b u v. ap (λ s. has_pair s a b) pairs ∙ (kept.pairs a b u v ∙ in_left none (chars a) (chars b) names);
      waiting = λ q u. waits_on names kept.waiting q u ∙ parts_stay none (chars q) names;
      clash = clash ∙ (kept.clash ∙ same_left none names);
    }

    none_out : (names : List Name) (m : List ℕ) → found scope p ≡ Some m → IsResolved old scope names → IsResolved taken more names
    none_out names m is kept = record {
      pairs = λ a b u v.
          ap (λ s. has_pair s a b) pairs
          ∙ (kept.pairs a b u v ∙ any_alike (is_in scope (chars a) (chars b)) (is_in more (chars a) (chars b)) (in_alike scope more (found_before m is) (chars a) (chars b)) names);
      waiting = λ q u.
          waits_on names kept.waiting q u
          ∙ (none_left (chars q) (found scope (chars q)) (same_found_of scope p (chars q) (Some m) is)
          ∙ ap (λ o. parts_left o (chars q) names) (found_before m is (chars q)));
      clash = clash ∙ (kept.clash ∙ have_alike scope more (found_before m is) names);
    }
      where
        none_left : (q : List ℕ) (o : Option (List ℕ)) → (bytes_eq p q ≡ true → o ≡ Some m)
            → (if bytes_eq p q then [] else parts_left o q names) ≡ parts_left o q names
        none_left q o settled = elim (cases_Bool (bytes_eq p q)) [
          | inl alike ↦ ap (λ b. if b then [] else parts_left o q names) alike
              ∙ sym (ap (λ s. parts_left s q names) (settled alike))
          | inr apart ↦ ap (λ b. if b then [] else parts_left o q names) apart
        ]

    -- and where those that waited are taken anew
    pub declared_at : (new : Resolved) (names : List Name) (parts : List (List ℕ)) (o : Option (List ℕ)) → found scope p ≡ o
        → parts ≡ parts_at old.waiting prefix
        → ((others : List Name) → IsResolved taken more others → IsResolved new more (others ++ map (Prefixed p) parts))
        → IsResolved old scope names → IsResolved new more names
    declared_at new names parts None none out step kept =
        let all = out ∙ (kept.waiting prefix utf8
        ∙ (ap (λ l. parts_left (found scope l) l names) (sym named) ∙ ap (λ s. parts_left s p names) none)) in
        back_again new more p n names (found_last none)
        (subst (λ l. IsResolved new more (without p names ++ map (Prefixed p) l)) all (step (without p names) (taken_out names none kept)))
    declared_at new names parts (Some m) is out step kept =
        let nothing = out ∙ (kept.waiting prefix utf8
        ∙ (ap (λ l. parts_left (found scope l) l names) (sym named) ∙ ap (λ s. parts_left s p names) is)) in
        subst (λ l. IsResolved new more l) (append-nil names)
        (subst (λ l. IsResolved new more (names ++ map (Prefixed p) l)) nothing (step names (none_out names m is kept)))
