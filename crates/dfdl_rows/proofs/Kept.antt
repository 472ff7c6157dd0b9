-- The names behind which components are looked at, where a branch or a choice is done or begun.
use Rattle.std.proofs.Common.{◌≡◌, ℕ, suc, ◌+◌, ◌<◌, Bool, true, false, not, cond, ◌&&◌, ◌||◌, List, [], ◌∷◌, ◌++◌, length, get_or, drop, Bor, refl, sym, ap, subst, ◌∙◌, arith, append_assoc, drop-cons}
use Rattle.std.specs.Str.{bytes_eq}
use Rattle.std.specs.Ordering.{is_eq, nat_cmp}
use Rattle.std.specs.Cmp.Lexicographic.{slice_cmp}
use Rattle.std.proofs.lemmas.List.{append-nil, map-append}
use Rattle.std.proofs.lemmas.List.Folds.{list_any-append}
use Rattle.std.proofs.lemmas.Map.Text.{is_eq-slice_cmp}
use Rattle.std.proofs.lemmas.Slice.Eq.{bytes_eq-Decides}
use Rattle.dfdl_rows.specs.Refusals.{Names, is_among}
use Rattle.dfdl_rows.specs.Looking.{AreNew, HasNames, IsKept, Side, Stand, names_at, names_before, names_in, opened, stand, turned}

-- some and then others
pub among_append : (xs ys : Names) (name : List ℕ) → is_among (xs ++ ys) name ≡ (is_among xs name || is_among ys name)
among_append xs ys name = list_any-append (λ other. bytes_eq other name) xs ys

-- names that are none of others, and more of them
new_append : (xs ys others : Names) → AreNew xs others → AreNew ys others → AreNew (xs ++ ys) others
new_append xs ys others first more name is = by (is_among xs name) refl (sym (among_append xs ys name) ∙ is)
  where
    by : (b : Bool) → is_among xs name ≡ b → (is_among xs name || is_among ys name) ≡ true → is_among others name ≡ false
    by true has both = first name has
    by false has both = more name (sym (ap (λ (c : Bool). c || is_among ys name) has) ∙ both)

or_none : (a b : Bool) → (a || b) ≡ false → (a ≡ false) × (b ≡ false)
or_none true b is = absurd (cc)
or_none false b is = (refl, is)

-- names that are none of two lists are none of the first
new_left : (xs before own : Names) → AreNew xs (before ++ own) → AreNew xs before
new_left xs before own new name is = (or_none (is_among before name) (is_among own name) (sym (among_append before own name) ∙ new name is)).0

-- a name that isn't there is one more
new_one : (own before : Names) (key : List ℕ) → AreNew own before → is_among (before ++ own) key ≡ false → AreNew (own ++ key ∷ []) before
new_one own before key new other = new_append own (key ∷ []) before new alone
  where
    absent : is_among before key ≡ false
    absent = (or_none (is_among before key) (is_among own key) (sym (among_append before own key) ∙ other)).0

    alone : AreNew (key ∷ []) before
    alone name is = subst (λ (n : List ℕ). is_among before n ≡ false) ((bytes_eq-Decides key name).0 (first (bytes_eq key name) is)) absent
      where
        first : (b : Bool) → (b || false) ≡ true → b ≡ true
        first true both = refl
        first false both = absurd (cc)

-- a set with one name more
cond_or : (a b : Bool) → cond a true b ≡ (b || (a || false))
cond_or true true = refl
cond_or true false = refl
cond_or false true = refl
cond_or false false = refl

pub name_more : (has now : Bor (List ℕ) → Bool) (old : Names) (key : Bor (List ℕ))
    → ((name : Bor (List ℕ)) → now name ≡ cond (is_eq (slice_cmp nat_cmp key.now name.now)) true (has name))
    → HasNames has old → HasNames now (old ++ key.now ∷ [])
name_more has now old key adds names = record {
  exactly = λ name. adds name
      ∙ (ap (λ b. cond b true (has name)) (is_eq-slice_cmp key.now name.now)
      ∙ (cond_or (bytes_eq key.now name.now) (has name)
      ∙ (ap (λ b. b || (bytes_eq key.now name.now || false)) (names.exactly name)
      ∙ sym (among_append old (key.now ∷ []) name.now))));
}

pub pushed : (own new : List (Bor (List ℕ))) (name : Bor (List ℕ)) → new ≡ own ++ name ∷ [] → names_in new ≡ names_in own ++ name.now ∷ []
pushed own new name is = ap names_in is ∙ map-append (λ (n : Bor (List ℕ)). n.now) own (name ∷ [])

-- a set with one name less
less_test : (e r h : Bool) → (cond e false h && not r) ≡ (h && not (e || r))
less_test true r true = refl
less_test true r false = refl
less_test false r h = refl

more_test : (e r h : Bool) → (cond e true h || r) ≡ (h || (e || r))
more_test true r true = refl
more_test true r false = refl
more_test false r true = refl
more_test false r false = refl

module _ (has now base : Bor (List ℕ) → Bool) (own : List (Bor (List ℕ))) (i : ℕ) (d : Bor (List ℕ)) (within : i < length own) where
  split : (name : List ℕ)
      → is_among (names_in (drop i own)) name ≡ (bytes_eq (get_or own i d).now name || is_among (names_in (drop (i + 1) own)) name)
  split name =
      let next : suc i ≡ i + 1 = omega arith in
      ap (λ (ns : List (Bor (List ℕ))). is_among (names_in ns) name) (drop-cons own i d within)
      ∙ ap (λ (k : ℕ). bytes_eq (get_or own i d).now name || is_among (names_in (drop k own)) name) next

  pub hide_more : ((name : Bor (List ℕ)) → now name ≡ cond (is_eq (slice_cmp nat_cmp (get_or own i d).now name.now)) false (has name))
      → ((name : Bor (List ℕ)) → (has name && not (is_among (names_in (drop i own)) name.now)) ≡ base name)
      → (name : Bor (List ℕ)) → (now name && not (is_among (names_in (drop (i + 1) own)) name.now)) ≡ base name
  hide_more less same name =
      let rest : Bool = is_among (names_in (drop (i + 1) own)) name.now in
      ap (λ (b : Bool). b && not rest) (less name ∙ ap (λ (b : Bool). cond b false (has name)) (is_eq-slice_cmp (get_or own i d).now name.now))
      ∙ (less_test (bytes_eq (get_or own i d).now name.now) rest (has name)
      ∙ (ap (λ (b : Bool). has name && not b) (sym (split name.now)) ∙ same name))

  pub show_more : ((name : Bor (List ℕ)) → now name ≡ cond (is_eq (slice_cmp nat_cmp (get_or own i d).now name.now)) true (has name))
      → ((name : Bor (List ℕ)) → (has name || is_among (names_in (drop i own)) name.now) ≡ base name)
      → (name : Bor (List ℕ)) → (now name || is_among (names_in (drop (i + 1) own)) name.now) ≡ base name
  show_more more same name =
      let rest : Bool = is_among (names_in (drop (i + 1) own)) name.now in
      ap (λ (b : Bool). b || rest) (more name ∙ ap (λ (b : Bool). cond b true (has name)) (is_eq-slice_cmp (get_or own i d).now name.now))
      ∙ (more_test (bytes_eq (get_or own i d).now name.now) rest (has name)
      ∙ (ap (λ (b : Bool). has name || b) (sym (split name.now)) ∙ same name))

-- an element comes behind others
pub kept_more : (has now : Bor (List ℕ) → Bool) (st : Stand) (key : List ℕ) → IsKept has st → is_among (names_at st) key ≡ false
    → HasNames now (names_at st ++ key ∷ []) → IsKept now (stand (st.own ++ key ∷ []) st.others st.outer)
kept_more has now st key kept other names = record {
  names = subst (HasNames now) (append_assoc (names_before st.outer) st.own (key ∷ [])) names;
  own = new_one st.own (names_before st.outer) key kept.own other;
  others = kept.others;
  outer = kept.outer;
}

nothing_new : (others : Names) → AreNew [] others
nothing_new others name is = absurd (cc)

-- a branch is done
turn_test : (b o : Bool) → (o ≡ true → b ≡ false) → ((b || o) && not o) ≡ b
turn_test true true new = absurd (let is = new refl in cc)
turn_test true false new = refl
turn_test false true new = refl
turn_test false false new = refl

pub kept_turned : (has now : Bor (List ℕ) → Bool) (st : Stand) → IsKept has st
    → ((name : Bor (List ℕ)) → now name ≡ (has name && not (is_among st.own name.now))) → IsKept now (turned st)
kept_turned has now st kept less = record {
  names = record {
    exactly = λ name. less name
        ∙ (ap (λ b. b && not (is_among st.own name.now)) (kept.names.exactly name ∙ among_append (names_before st.outer) st.own name.now)
        ∙ (turn_test (is_among (names_before st.outer) name.now) (is_among st.own name.now) (kept.own name.now)
        ∙ sym (ap (λ (ns : Names). is_among ns name.now) (append-nil (names_before st.outer)))));
  };
  own = nothing_new (names_before st.outer);
  others = new_append st.others st.own (names_before st.outer) kept.others kept.own;
  outer = kept.outer;
}

pub turned_is : (own others left more : List (Bor (List ℕ))) (outer : List Side) → left ≡ [] → more ≡ others ++ own
    → stand (names_in left) (names_in more) outer ≡ turned (stand (names_in own) (names_in others) outer)
turned_is own others left more outer left_is more_is =
    let more_names : names_in more ≡ names_in others ++ names_in own
    = ap names_in more_is ∙ map-append (λ (name : Bor (List ℕ)). name.now) others own in
    λ i. stand (ap names_in left_is i) (more_names i) outer

-- a choice is begun
pub kept_opened : (has : Bor (List ℕ) → Bool) (st : Stand) → IsKept has st → IsKept has (opened st)
kept_opened has st kept = record {
  names = subst (HasNames has) (sym (append-nil (names_before st.outer ++ st.own))) kept.names;
  own = nothing_new (names_before st.outer ++ st.own);
  others = nothing_new (names_before st.outer ++ st.own);
  outer = (kept.own, kept.others, kept.outer);
}

-- the innermost choice is done
close_test : (b s o x : Bool) → (((b || s) || o) || (x || o)) ≡ (b || (s || (x || o)))
close_test true s o x = refl
close_test false true o x = refl
close_test false false true true = refl
close_test false false true false = refl
close_test false false false x = refl

module _ (has now : Bor (List ℕ) → Bool) (own others : Names) (side : Side) (outer : List Side) (kept : IsKept has (stand own others (side ∷ outer)))
    (more : (name : Bor (List ℕ)) → now name ≡ (has name || is_among (others ++ own) name.now)) where
  four : (name : List ℕ) → is_among (names_before outer ++ (side.own ++ (others ++ own))) name
      ≡ (is_among (names_before outer) name || (is_among side.own name || (is_among others name || is_among own name)))
  four name =
      among_append (names_before outer) (side.own ++ (others ++ own)) name
      ∙ ap (λ (b : Bool). is_among (names_before outer) name || b)
      (among_append side.own (others ++ own) name ∙ ap (λ (b : Bool). is_among side.own name || b) (among_append others own name))

  was : (name : List ℕ) → is_among ((names_before outer ++ side.own) ++ own) name
      ≡ ((is_among (names_before outer) name || is_among side.own name) || is_among own name)
  was name =
      among_append (names_before outer ++ side.own) own name
      ∙ ap (λ (b : Bool). b || is_among own name) (among_append (names_before outer) side.own name)

  pub kept_closed : IsKept now (stand (side.own ++ (others ++ own)) side.others outer)
  kept_closed = record {
    names = record {
      exactly = λ name. more name
          ∙ (ap (λ (b : Bool). b || is_among (others ++ own) name.now) (kept.names.exactly name ∙ was name.now)
          ∙ (ap (λ (b : Bool). ((is_among (names_before outer) name.now || is_among side.own name.now) || is_among own name.now) || b) (among_append others own name.now)
          ∙ (close_test (is_among (names_before outer) name.now) (is_among side.own name.now) (is_among own name.now) (is_among others name.now)
          ∙ sym (four name.now))));
    };
    own = new_append side.own (others ++ own) (names_before outer) kept.outer.0
        (new_append others own (names_before outer)
        (new_left others (names_before outer) side.own kept.others)
        (new_left own (names_before outer) side.own kept.own));
    others = kept.outer.1;
    outer = kept.outer.2;
  }
