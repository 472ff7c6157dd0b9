-- What ends a name, and the steps by which a name is read.
use Rattle.std.proofs.Common.{◌≡◌, ℕ, ◌==◌, true, false, List, [], ◌∷◌, ◌++◌}
use Rattle.std.proofs.Common.{Some, None, refl, sym, ap, ◌∙◌, subst, inl, inr}
use Rattle.std.proofs.Common.{append_assoc}
use Rattle.std.proofs.lemmas.List.{append-nil}
use Rattle.std.proofs.lemmas.Bool.{eqb-true, or_cases}
use Rattle.dfdl_layers.specs.Tellers.{Each}
use Rattle.dfdl_xml_chars.specs.Characters.{is_name_start, is_name_char, low_start_rows}
use Rattle.dfdl_xml_chars.specs.Characters.{low_name_rows, high_start_rows, high_name_rows}
use Rattle.dfdl_xml_chars.specs.Characters.{high_mark_rows}
use Rattle.dfdl_markup.specs.Grammar.{is_white, Name, Plain, Prefixed, name_characters}
use Rattle.dfdl_markup.specs.Rules.{IsName}
use Rattle.dfdl_markup.specs.Machine.{Reading, First, Colon, Second, name_next, whole_name}
use Rattle.dfdl_markup.proofs.RunSteps.{if_true, if_false}

-- a character that no name goes on by
pub record EndsName (c : ℕ) : Type 0 where
  pub no_start : is_name_start c ≡ false
  pub no_char : is_name_char c ≡ false
  pub no_colon : (c == 58) ≡ false

pub white_is : (P : ℕ → Type 0) (c : ℕ) → P 32 → P 9 → P 10 → P 13 → is_white c ≡ true → P c
unfolding is_white
white_is P c space tab feed return is =
    elim (or_cases _ _ is) [
      | inl e ↦ elim (or_cases _ _ e) [
        | inl f ↦ elim (or_cases _ _ f) [
          | inl g ↦ subst P (sym (eqb-true _ _ g)) space
          | inr g ↦ subst P (sym (eqb-true _ _ g)) tab
        ]
        | inr f ↦ subst P (sym (eqb-true _ _ f)) feed
      ]
      | inr e ↦ subst P (sym (eqb-true _ _ e)) return
    ]

-- white space, and the marks that stand behind names
pub record EndMarks : Type 0 where
  pub space : EndsName 32
  pub tab : EndsName 9
  pub feed : EndsName 10
  pub return : EndsName 13
  pub slash : EndsName 47
  pub semicolon : EndsName 59
  pub equals : EndsName 61
  pub greater : EndsName 62
  pub question : EndsName 63

pub end_marks : EndMarks
unfolding is_name_start is_name_char low_start_rows low_name_rows high_start_rows
    high_name_rows high_mark_rows
end_marks = record {
  space = record { no_start = refl; no_char = refl; no_colon = refl };
  tab = record { no_start = refl; no_char = refl; no_colon = refl };
  feed = record { no_start = refl; no_char = refl; no_colon = refl };
  return = record { no_start = refl; no_char = refl; no_colon = refl };
  slash = record { no_start = refl; no_char = refl; no_colon = refl };
  semicolon = record { no_start = refl; no_char = refl; no_colon = refl };
  equals = record { no_start = refl; no_char = refl; no_colon = refl };
  greater = record { no_start = refl; no_char = refl; no_colon = refl };
  question = record { no_start = refl; no_char = refl; no_colon = refl };
}

pub white_ends : (c : ℕ) → is_white c ≡ true → EndsName c
white_ends c is =
    white_is EndsName c end_marks.space end_marks.tab end_marks.feed end_marks.return is

pub colon_no_char : is_name_char 58 ≡ false
unfolding is_name_char low_start_rows low_name_rows high_start_rows high_name_rows high_mark_rows
colon_no_char = refl

-- what is read of a name goes on by these characters to this
abbrev pub ReadsOn : Reading → List ℕ → Reading → Type 0
ReadsOn reading [] last = reading ≡ last
ReadsOn reading (c ∷ more) last =
    (next : Reading) × (name_next reading c ≡ Some next) × ReadsOn next more last

-- a name as it is read
pub record NameRead (name : Name) : Type 0 where
  pub first : ℕ
  pub more : List ℕ
  pub last : Reading
  pub is : name_characters name ≡ first ∷ more
  pub starts : is_name_start first ≡ true
  pub follows : ReadsOn (First (first ∷ [])) more last
  pub whole : whole_name last ≡ Some name

next_first : (part : List ℕ) (c : ℕ) → is_name_char c ≡ true
    → name_next (First part) c ≡ Some (First (part ++ c ∷ []))
unfolding name_next
next_first part c e = if_true (is_name_char c) _ _ e

next_colon : (part : List ℕ) → name_next (First part) 58 ≡ Some (Colon part)
unfolding name_next
next_colon part = if_false (is_name_char 58) _ _ colon_no_char

next_behind : (prefix : List ℕ) (c : ℕ) → is_name_start c ≡ true
    → name_next (Colon prefix) c ≡ Some (Second prefix (c ∷ []))
unfolding name_next
next_behind prefix c e = if_true (is_name_start c) _ _ e

next_second : (prefix part : List ℕ) (c : ℕ) → is_name_char c ≡ true
    → name_next (Second prefix part) c ≡ Some (Second prefix (part ++ c ∷ []))
unfolding name_next
next_second prefix part c e = if_true (is_name_char c) _ _ e

-- a part grows by its characters
first_follows : (front part more : List ℕ) (last : Reading)
    → Each (λ d. is_name_char d ≡ true) part → ReadsOn (First (front ++ part)) more last
    → ReadsOn (First front) (part ++ more) last
first_follows front [] more last are follows =
    subst (λ w. ReadsOn (First w) more last) (append-nil front) follows
first_follows front (c ∷ part) more last are follows = (
  First (front ++ c ∷ []),
  next_first front c are.0,
  first_follows (front ++ c ∷ []) part more last are.1
      (subst (λ w. ReadsOn (First w) more last) (sym (append_assoc front (c ∷ []) part)) follows),
)

second_follows : (prefix front part : List ℕ)
    → Each (λ d. is_name_char d ≡ true) part
    → ReadsOn (Second prefix front) part (Second prefix (front ++ part))
second_follows prefix front [] are = ap (λ w. Second prefix w) (sym (append-nil front))
second_follows prefix front (c ∷ part) are = (
  Second prefix (front ++ c ∷ []),
  next_second prefix front c are.0,
  subst (λ w. ReadsOn (Second prefix (front ++ c ∷ [])) part (Second prefix w))
      (append_assoc front (c ∷ []) part) (second_follows prefix (front ++ c ∷ []) part are.1),
)

pub name_read : (name : Name) → IsName name → NameRead name
name_read (Plain []) is = absurd is
name_read (Plain (c ∷ part)) is = record {
  first = c;
  more = part;
  last = First (c ∷ part);
  is = refl;
  starts = is.0;
  follows = subst (λ w. ReadsOn (First (c ∷ [])) w (First (c ∷ part))) (append-nil part)
      (first_follows (c ∷ []) part [] (First (c ∷ part)) is.1 refl);
  whole = refl;
}
name_read (Prefixed [] part) is = absurd is.0
name_read (Prefixed (c ∷ prefix) []) is = absurd is.1
name_read (Prefixed (c ∷ prefix) (d ∷ part)) is = record {
  first = c;
  more = prefix ++ 58 ∷ d ∷ part;
  last = Second (c ∷ prefix) (d ∷ part);
  is = refl;
  starts = is.0.0;
  follows = first_follows (c ∷ []) prefix (58 ∷ d ∷ part) (Second (c ∷ prefix) (d ∷ part)) is.0.1 (
    Colon (c ∷ prefix),
    next_colon (c ∷ prefix),
    (
      Second (c ∷ prefix) (d ∷ []),
      next_behind (c ∷ prefix) d is.1.0,
      second_follows (c ∷ prefix) (d ∷ []) part is.1.1,
    ),
  );
  whole = refl;
}

-- a whole name goes on by no character that ends names
pub next_none : (last : Reading) (name : Name) (c : ℕ) → whole_name last ≡ Some name → EndsName c
    → name_next last c ≡ None
unfolding name_next
next_none (First part) name c whole ends =
    if_false (is_name_char c) _ _ ends.no_char ∙ if_false (c == 58) _ _ ends.no_colon
next_none (Colon prefix) name c whole ends = absurd (cc)
next_none (Second prefix part) name c whole ends = if_false (is_name_char c) _ _ ends.no_char
