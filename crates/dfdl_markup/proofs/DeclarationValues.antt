-- What the XML declaration may say: how it begins and goes on, by its characters.
use Rattle.std.proofs.Common.{◌≡◌, ℕ, ◌⊎◌, ◌==◌, if◌then◌else◌, ◌||◌, Bool, true, false, List, []}
use Rattle.std.proofs.Common.{◌∷◌, ◌++◌, map, refl, sym, ap, ap₂, subst, ◌∙◌, arith, inl, inr}
use Rattle.std.proofs.Common.{Option, Some, None}
use Rattle.std.specs.List.{list_any}
use Rattle.std.specs.Str.{bytes_eq}
use Rattle.std.proofs.lemmas.Bool.{or_cases, both_ways, cases_Bool, cond_both, eqb-true}
use Rattle.std.proofs.lemmas.Bool.Decides.{nat_tests}
use Rattle.std.proofs.lemmas.Slice.Eq.{bytes_eq-Decides}
use Rattle.dfdl_layers.specs.Tellers.{Each}
use Rattle.dfdl_markup.specs.Grammar.{Said, Version, Encoding, Standalone, said_word}
use Rattle.dfdl_markup.specs.Rules.{is_encoding_character, small, version_value, encoding_value}
use Rattle.dfdl_markup.specs.Rules.{yes_value, no_value}
use Rattle.dfdl_markup.specs.Machine.{begins, said_character, said_values, said_next, tail}
use Rattle.dfdl_markup.proofs.Rest.{Follows}
use Rattle.dfdl_markup.proofs.Answers.{Good}
use Rattle.dfdl_markup.proofs.ReferenceEntities.{is_plain, plain_text, begins_is, each_behind}
use Rattle.dfdl_markup.proofs.DeclarationForms.{SaidKeeps}

-- the value may be said
abbrev pub IsSaid : Said → List ℕ → Type 0
IsSaid Version value = value ≡ version_value
IsSaid Encoding value = value ≡ encoding_value
IsSaid Standalone value = (value ≡ yes_value) ⊎ (value ≡ no_value)

plain_version : is_plain version_value ≡ true
unfolding version_value
plain_version = refl

plain_encoding : is_plain encoding_value ≡ true
unfolding encoding_value
plain_encoding = refl

plain_yes : is_plain yes_value ≡ true
unfolding yes_value
plain_yes = refl

plain_no : is_plain no_value ≡ true
unfolding no_value
plain_no = refl

pub said_plain : (said : Said) (value : List ℕ) → IsSaid said value → is_plain value ≡ true
said_plain Version value is = ap is_plain is ∙ plain_version
said_plain Encoding value is = ap is_plain is ∙ plain_encoding
said_plain Standalone value is = elim is [
  | inl yes_is ↦ ap is_plain yes_is ∙ plain_yes
  | inr no_is ↦ ap is_plain no_is ∙ plain_no
]

map_same : (f : ℕ → ℕ) (value : List ℕ) → ((c : ℕ) → f c ≡ c) → map f value ≡ value
map_same f [] same = refl
map_same f (c ∷ value) same = ap₂ (λ (x : ℕ) (l : List ℕ). x ∷ l) (same c) (map_same f value same)

encoding_fixed : map (said_character Encoding) encoding_value ≡ encoding_value
unfolding encoding_value small
encoding_fixed = refl

-- as it is compared, it is what it is
said_fixed : (said : Said) (value : List ℕ) → IsSaid said value
    → map (said_character said) value ≡ value
said_fixed Version value is = map_same (said_character Version) value (λ c. refl)
said_fixed Encoding value is =
    ap (λ l. map (said_character Encoding) l) is ∙ (encoding_fixed ∙ sym is)
said_fixed Standalone value is = map_same (said_character Standalone) value (λ c. refl)

fixed_behind : (f : ℕ → ℕ) (read rest : List ℕ) → map f (read ++ rest) ≡ read ++ rest
    → map f rest ≡ rest
fixed_behind f [] rest same = same
fixed_behind f (c ∷ read) rest same = fixed_behind f read rest (ap tail same)

-- what a value goes on with
pub record GoesOnSo (said : Said) (read : List ℕ) : Type 0 where
  pub rest : List ℕ
  pub is : IsSaid said (read ++ rest)
  pub good : Each Good rest
  pub fixed : map (said_character said) rest ≡ rest

goes_to : (said : Said) (read value : List ℕ) → IsSaid said value → begins read value ≡ true
    → GoesOnSo said read
goes_to said read value is begun = let more = begins_is read value begun in record {
  rest = more.0;
  is = subst (λ l. IsSaid said l) (sym more.1) is;
  good =
      each_behind read more.0
      (subst (λ l. Each Good l) (sym more.1) (plain_text value (said_plain said value is)));
  fixed =
      fixed_behind (said_character said) read more.0
      (ap (λ l. map (said_character said) l) more.1 ∙ (said_fixed said value is ∙ sym more.1));
}

only_one : (test : Bool) → (test || false) ≡ true → test ≡ true
only_one true some = refl
only_one false some = some

pub goes_on : (said : Said) (read : List ℕ) → list_any (begins read) (said_values said) ≡ true
    → GoesOnSo said read
goes_on Version read some =
    goes_to Version read version_value refl (only_one (begins read version_value) some)
goes_on Encoding read some =
    goes_to Encoding read encoding_value refl (only_one (begins read encoding_value) some)
goes_on Standalone read some =
    elim (or_cases (begins read yes_value) (begins read no_value || false) some) [
      | inl first ↦ goes_to Standalone read yes_value (inl refl) first
      | inr other ↦
          goes_to Standalone read no_value (inr refl) (only_one (begins read no_value) other)
    ]

same_by : (read value : List ℕ) → bytes_eq read value ≡ true → read ≡ value
same_by read value same = elim (cases_Bool (bytes_eq read value)) [
  | inl is ↦ (bytes_eq-Decides read value).0 is
  | inr other ↦ absurd (both_ways (bytes_eq read value) other same)
]

pub is_said : (said : Said) (read : List ℕ) → list_any (bytes_eq read) (said_values said) ≡ true
    → IsSaid said read
is_said Version read some =
    same_by read version_value (only_one (bytes_eq read version_value) some)
is_said Encoding read some =
    same_by read encoding_value (only_one (bytes_eq read encoding_value) some)
is_said Standalone read some =
    elim (or_cases (bytes_eq read yes_value) (bytes_eq read no_value || false) some) [
      | inl first ↦ inl (same_by read yes_value first)
      | inr other ↦ inr (same_by read no_value (only_one (bytes_eq read no_value) other))
    ]

-- encodings' names
capital_too : (c : ℕ) → is_encoding_character (small c) ≡ true → is_encoding_character c ≡ true
unfolding is_encoding_character small
capital_too c is = grind (arith, nat_tests)

each_small : (value read : List ℕ) → map small value ≡ read
    → Each (λ c. is_encoding_character c ≡ true) read
    → Each (λ c. is_encoding_character c ≡ true) value
each_small value read same each =
    capitals value (subst (λ l. Each (λ c. is_encoding_character c ≡ true) l) (sym same) each)
  where
    capitals : (text : List ℕ) → Each (λ c. is_encoding_character c ≡ true) (map small text)
        → Each (λ c. is_encoding_character c ≡ true) text
    capitals [] each = tt
    capitals (c ∷ text) each = (capital_too c each.0, capitals text each.1)

encoding_characters : Each (λ c. is_encoding_character c ≡ true) encoding_value
unfolding encoding_value is_encoding_character
encoding_characters = (refl, (refl, (refl, (refl, (refl, tt)))))

each_before : (P : ℕ → Type 0) (read rest : List ℕ) → Each P (read ++ rest) → Each P read
each_before P [] rest each = tt
each_before P (c ∷ read) rest each = (each.0, each_before P read rest each.1)

-- what was read of an encoding's name has its characters
pub encoding_so_far : (value read : List ℕ) → map small value ≡ read → GoesOnSo Encoding read
    → Each (λ c. is_encoding_character c ≡ true) value
encoding_so_far value read same so =
    each_small value read same
    (each_before (λ c. is_encoding_character c ≡ true) read so.rest
    (subst (λ l. Each (λ c. is_encoding_character c ≡ true) l) (sym so.is) encoding_characters))

-- a value that is compared as what may be said may be said
pub said_keeps : (n : ℕ) (said : Said) (value read : List ℕ)
    → map (said_character said) value ≡ read → IsSaid said read → SaidKeeps n said value
said_keeps n Version value read same is =
    sym (map_same (said_character Version) value (λ c. refl)) ∙ (same ∙ is)
said_keeps n Encoding value read same is = (
  each_small value read same
      (subst (λ l. Each (λ c. is_encoding_character c ≡ true) l) (sym is) encoding_characters),
  λ _. same ∙ is,
)
said_keeps n Standalone value read same is =
    let as_read : value ≡ read = sym (map_same (said_character Standalone) value (λ c. refl))
    ∙ same in
    elim is [ inl yes_is ↦ inl (as_read ∙ yes_is) | inr no_is ↦ inr (as_read ∙ no_is) ]

-- the word that the character begins, where one may follow there
pub record BeginsWord (last : Option Said) (c : ℕ) (said : Said) : Type 0 where
  pub word : c ∷ tail (said_word said) ≡ said_word said
  pub follows : Follows last said

abbrev pub OnWord : Option Said → ℕ → Option Said → Type 0
OnWord last c None = Unit {0}
OnWord last c (Some said) = BeginsWord last c said

first_of : Said → ℕ
first_of Version = 118
first_of Encoding = 101
first_of Standalone = 115

word_first : (said : Said) → first_of said ∷ tail (said_word said) ≡ said_word said
unfolding said_word first_of
word_first Version = refl
word_first Encoding = refl
word_first Standalone = refl

begins_by : (last : Option Said) (c : ℕ) (said : Said) → (c == first_of said) ≡ true
    → Follows last said → BeginsWord last c said
begins_by last c said is follows = record {
  word =
      ap (λ d. d ∷ tail (said_word said)) (eqb-true c (first_of said) is) ∙ word_first said;
  follows = follows;
}

pub word_begins : (last : Option Said) (c : ℕ) → OnWord last c (said_next last c)
unfolding first_of
word_begins None c =
    cond_both (c == 118) (Some Version) None (λ o. OnWord None c o)
    (λ is. begins_by None c Version is tt) (λ _. tt)
word_begins (Some Version) c =
    cond_both (c == 101) (Some Encoding) (if c == 115 then Some Standalone else None)
    (λ o. OnWord (Some Version) c o) (λ is. begins_by (Some Version) c Encoding is tt)
    (λ _. cond_both (c == 115) (Some Standalone) None (λ o. OnWord (Some Version) c o)
    (λ is. begins_by (Some Version) c Standalone is tt) (λ _. tt))
word_begins (Some Encoding) c =
    cond_both (c == 115) (Some Standalone) None (λ o. OnWord (Some Encoding) c o)
    (λ is. begins_by (Some Encoding) c Standalone is tt) (λ _. tt)
word_begins (Some Standalone) c = tt

pub words_plain : (said : Said) → is_plain (said_word said) ≡ true
unfolding said_word
words_plain Version = refl
words_plain Encoding = refl
words_plain Standalone = refl

-- what is left of a word is good
pub left_good : (said : Said) (word left : List ℕ) → word ++ left ≡ said_word said → Each Good left
left_good said word left is =
    each_behind word left
    (subst (λ l. Each Good l) (sym is) (plain_text (said_word said) (words_plain said)))
