-- What the XML declaration may say, as the machine tests it.
use Rattle.std.proofs.Common.{◌≡◌, ℕ, ◌==◌, ◌<◌, ◌≤◌, ◌||◌, ◌⊎◌, true, false}
use Rattle.std.proofs.Common.{List, [], ◌∷◌, ◌++◌, map}
use Rattle.std.proofs.Common.{refl, sym, subst, inl, inr, append_assoc}
use Rattle.std.specs.List.{list_any}
use Rattle.std.specs.Str.{bytes_eq}
use Rattle.std.proofs.lemmas.List.{append-nil}
use Rattle.std.proofs.lemmas.Slice.Eq.{bytes_eq-Decides}
use Rattle.std.proofs.lemmas.Bool.{cases_Bool, cases_lt, eqb-true, both_ways, or_cases, or_left}
use Rattle.std.proofs.lemmas.Bool.{or_right}
use Rattle.dfdl_layers.specs.Tellers.{Each}
use Rattle.dfdl_markup.specs.Grammar.{is_quote, Said, Version, Encoding, Standalone}
use Rattle.dfdl_markup.specs.Rules.{is_encoding_character, small, version_value}
use Rattle.dfdl_markup.specs.Rules.{encoding_value, yes_value, no_value, EncodingKeeps}
use Rattle.dfdl_markup.specs.Machine.{begins}
use Rattle.dfdl_markup.specs.Machine.{said_values, said_character}
use Rattle.dfdl_markup.specs.Machine.{said_fault}
use Rattle.dfdl_markup.proofs.RunReferences.{begins_front}
use Rattle.dfdl_markup.proofs.RunSteps.{if_true}
use Rattle.dfdl_markup.proofs.RunSteps.{same_is}
use Rattle.dfdl_markup.proofs.RunValues.{quote_is}

-- the fronts of one of the words begin one of them
front_of_any : (front more : List ℕ) (words : List (List ℕ))
    → list_any (bytes_eq (front ++ more)) words ≡ true → list_any (begins front) words ≡ true
front_of_any front more [] is = absurd (cc)
front_of_any front more (word ∷ words) is =
    one (or_cases _ _ is) (front_of_any front more words)
  where
    one : (bytes_eq (front ++ more) word ≡ true)
        ⊎ (list_any (bytes_eq (front ++ more)) words ≡ true)
        → (list_any (bytes_eq (front ++ more)) words ≡ true → list_any (begins front) words ≡ true)
        → list_any (begins front) (word ∷ words) ≡ true
    one (inl e) rest =
        or_left (begins front word) (list_any (begins front) words)
        (subst (λ w. begins front w ≡ true) ((bytes_eq-Decides (front ++ more) word).0 e)
        (begins_front front more))
    one (inr e) rest = or_right (begins front word) (list_any (begins front) words) (rest e)

-- a value may be said, or each of its characters that leaves what may be said breaks a rule that
-- isn't below n
abbrev pub SaidOr : ℕ → Said → ℕ → List ℕ → List ℕ → Type 0
SaidOr n said quote read value =
    (list_any (bytes_eq (read ++ map (said_character said) value)) (said_values said) ≡ true)
    ⊎ (Each (λ c. n ≤ said_fault said quote c) value × (n ≤ said_fault said quote quote))

pub said_more : (n : ℕ) (said : Said) (quote : ℕ) (read : List ℕ) (c : ℕ) (value : List ℕ)
    → SaidOr n said quote read (c ∷ value)
    → SaidOr n said quote (read ++ said_character said c ∷ []) value
said_more n said quote read c value (inl is) =
    inl (subst (λ w. list_any (bytes_eq w) (said_values said) ≡ true)
    (sym (append_assoc read (said_character said c ∷ []) (map (said_character said) value))) is)
said_more n said quote read c value (inr faults) = inr (faults.0.1, faults.1)

pub said_begins : (n : ℕ) (said : Said) (quote : ℕ) (read : List ℕ) (c : ℕ) (value : List ℕ)
    → SaidOr n said quote read (c ∷ value)
    → list_any (begins (read ++ said_character said c ∷ [])) (said_values said) ≡ false
    → n ≤ said_fault said quote c
said_begins n said quote read c value (inl is) fails =
    absurd (both_ways _ fails
    (front_of_any (read ++ said_character said c ∷ []) (map (said_character said) value)
    (said_values said)
    (subst (λ w. list_any (bytes_eq w) (said_values said) ≡ true)
    (sym (append_assoc read (said_character said c ∷ []) (map (said_character said) value))) is)))
said_begins n said quote read c value (inr faults) fails = faults.0.0

pub said_whole : (n : ℕ) (said : Said) (quote : ℕ) (read : List ℕ) → SaidOr n said quote read []
    → list_any (bytes_eq read) (said_values said) ≡ false → n ≤ said_fault said quote quote
said_whole n said quote read (inl is) fails =
    absurd (both_ways _ fails
    (subst (λ w. list_any (bytes_eq w) (said_values said) ≡ true) (append-nil read) is))
said_whole n said quote read (inr faults) fails = faults.1

-- the values of the version and of standing alone
pub version_apart : (quote : ℕ) → is_quote quote ≡ true
    → Each (λ c. (c == quote) ≡ false) version_value
unfolding version_value
version_apart quote is =
    quote_is (λ q. Each (λ c. (c == q) ≡ false) version_value) quote (refl, (refl, (refl, tt)))
    (refl, (refl, (refl, tt))) is

pub yes_apart : (quote : ℕ) → is_quote quote ≡ true → Each (λ c. (c == quote) ≡ false) yes_value
unfolding yes_value
yes_apart quote is =
    quote_is (λ q. Each (λ c. (c == q) ≡ false) yes_value) quote (refl, (refl, (refl, tt)))
    (refl, (refl, (refl, tt))) is

pub no_apart : (quote : ℕ) → is_quote quote ≡ true → Each (λ c. (c == quote) ≡ false) no_value
unfolding no_value
no_apart quote is =
    quote_is (λ q. Each (λ c. (c == q) ≡ false) no_value) quote (refl, (refl, tt))
    (refl, (refl, tt)) is

pub version_said : list_any (bytes_eq (map (said_character Version) version_value))
    (said_values Version) ≡ true
unfolding version_value
version_said = refl

pub yes_said : list_any (bytes_eq (map (said_character Standalone) yes_value))
    (said_values Standalone) ≡ true
unfolding yes_value no_value
yes_said = refl

pub no_said : list_any (bytes_eq (map (said_character Standalone) no_value))
    (said_values Standalone) ≡ true
unfolding yes_value no_value
no_said = refl

quote_no_encoding : (quote : ℕ) → is_quote quote ≡ true → is_encoding_character quote ≡ false
unfolding is_encoding_character
quote_no_encoding quote is = quote_is (λ q. is_encoding_character q ≡ false) quote refl refl is

-- the value of an encoding
encoding_apart : (quote c : ℕ) → is_quote quote ≡ true → is_encoding_character c ≡ true
    → (c == quote) ≡ false
encoding_apart quote c is good = by (cases_Bool (c == quote))
  where
    by : ((c == quote) ≡ true) ⊎ ((c == quote) ≡ false) → (c == quote) ≡ false
    by (inl same) =
        absurd (both_ways _ (quote_no_encoding quote is)
        (subst (λ d. is_encoding_character d ≡ true) (eqb-true c quote same) good))
    by (inr apart) = apart

pub encodings_apart : (quote : ℕ) (value : List ℕ) → is_quote quote ≡ true
    → Each (λ c. is_encoding_character c ≡ true) value → Each (λ c. (c == quote) ≡ false) value
encodings_apart quote [] is are = tt
encodings_apart quote (c ∷ value) is are =
    (encoding_apart quote c is are.0, encodings_apart quote value is are.1)

encoding_faults : (n quote : ℕ) (value : List ℕ) → n ≤ 9
    → Each (λ c. is_encoding_character c ≡ true) value
    → Each (λ c. n ≤ said_fault Encoding quote c) value
encoding_faults n quote [] less are = tt
encoding_faults n quote (c ∷ value) less are = (
  subst (λ m. n ≤ m) (sym (if_true (is_encoding_character c || c == quote) 9 3
      (or_left (is_encoding_character c) (c == quote) are.0))) less,
  encoding_faults n quote value less are.1,
)

pub encoding_or : (n quote : ℕ) (value : List ℕ) → EncodingKeeps n value
    → SaidOr n Encoding quote [] value
encoding_or n quote value keeps = by (cases_lt 9 n)
  where
    by : (9 < n) ⊎ (n ≤ 9) → SaidOr n Encoding quote [] value
    by (inl less) =
        inl (or_left (bytes_eq (map small value) encoding_value) false
        ((bytes_eq-Decides (map small value) encoding_value).1 (keeps.1 less)))
    by (inr most) =
        inr (
          encoding_faults n quote value most keeps.0,
          subst (λ m. n ≤ m) (sym (if_true (is_encoding_character quote || quote == quote) 9 3
              (or_right (is_encoding_character quote) (quote == quote) (same_is quote)))) most,
        )
