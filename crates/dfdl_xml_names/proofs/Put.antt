-- What a map of texts has behind a put, and behind another one of what was there.
use Rattle.std.specs.Prelude.{◌≡◌, ℕ, Bool, true, false, ◌&&◌, if◌then◌else◌, List, ◌++◌, ◌∷◌, [], String, Option, Some, None, length, option_map, string_bytes}
use Rattle.std.specs.BTreeMap.{BTreeMap, btree_map_len, get_by_text, is_at}
use Rattle.std.specs.Map.{lookup, update}
use Rattle.std.specs.Option.{option_or}
use Rattle.std.specs.Str.{bytes_eq, chars, IsUtf8}
use Rattle.std.proofs.Common.{refl, sym, ap, ◌∙◌, inl, inr}
use Rattle.std.proofs.lemmas.Bool.{cases_Bool}
use Rattle.std.proofs.lemmas.Map.Text.{text_cmp}
use Rattle.std.proofs.lemmas.Slice.Eq.{bytes_eq-Decides}
use Rattle.dfdl_markup.specs.Values.{xmlns_prefix}
use Rattle.dfdl_xml_names.specs.Paired.{has_in, has_second}
use Rattle.dfdl_xml_names.specs.declared.pairs.Seconds.{Seconds}
use Rattle.dfdl_xml_names.proofs.Opened.{turned}
use Rattle.dfdl_xml_names.proofs.Texts.{is_xmlns}

or_nothing : (o : Option (List ℕ)) → option_or o None ≡ o
or_nothing None = refl
or_nothing (Some x) = refl

no_entries : {A : Type 0} (xs : List A) → length xs ≡ 0 → xs ≡ []
no_entries [] is = refl
no_entries (x ∷ xs) is = absurd (cc)

-- a map without entries has nothing
pub none_in : {A X : Type 0} (map : BTreeMap (String A) X) → btree_map_len map ≡ 0 → (q : List ℕ) → get_by_text map q ≡ None
none_in map none q = ap (lookup (is_at (text_cmp q))) (no_entries map.entries none)

-- what is put where nothing was, and what was there put back
module _ {A : Type 0} (old : List ℕ → Option (String A)) (p q : List ℕ) (text : String A) where
  abbrev pub Keeps : Option (String A) → Type 0
  Keeps now = option_map string_bytes now ≡ option_or (option_map string_bytes (old q)) (if bytes_eq p q then Some (string_bytes text) else None)

  pub put_first : None ≡ old p → Keeps (update bytes_eq old p (Some text) q)
  put_first none = elim (cases_Bool (bytes_eq p q)) [
    | inl is ↦ ap (λ b. option_map string_bytes (if b then Some text else old q)) is
        ∙ sym (ap (λ b. option_or (option_map string_bytes (old q)) (if b then Some (string_bytes text) else None)) is
        ∙ ap (λ o. option_or (option_map string_bytes o) (Some (string_bytes text)))
        (ap old (sym ((bytes_eq-Decides p q).0 is)) ∙ sym none))
    | inr apart ↦ ap (λ b. option_map string_bytes (if b then Some text else old q)) apart
        ∙ sym (ap (λ b. option_or (option_map string_bytes (old q)) (if b then Some (string_bytes text) else None)) apart
        ∙ or_nothing (option_map string_bytes (old q)))
  ]

  pub put_again : (before : String A) → Some before ≡ old p
      → Keeps (update bytes_eq (update bytes_eq old p (Some text)) p (Some before) q)
  put_again before some = elim (cases_Bool (bytes_eq p q)) [
    | inl is ↦ ap (λ b. option_map string_bytes (if b then Some before else (if b then Some text else old q))) is
        ∙ sym (ap (λ o. option_or (option_map string_bytes o) (if bytes_eq p q then Some (string_bytes text) else None))
        (ap old (sym ((bytes_eq-Decides p q).0 is)) ∙ sym some))
    | inr apart ↦ ap (λ b. option_map string_bytes (if b then Some before else (if b then Some text else old q))) apart
        ∙ sym (ap (λ b. option_or (option_map string_bytes (old q)) (if b then Some (string_bytes text) else None)) apart
        ∙ or_nothing (option_map string_bytes (old q)))
  ]

-- the same of pairs
module _ (old : List ℕ → Option Seconds) (p a b : List ℕ) where
  one_alone : (s : Bool) → s ≡ (if s then true else false)
  one_alone true = refl
  one_alone false = refl

  pub pair_first : (one : Seconds) (s : Bool) → has_second one b ≡ s → None ≡ old p
      → has_in (update bytes_eq old p (Some one) a) b ≡ (if bytes_eq p a && s then true else has_in (old a) b)
  pair_first one s has none = elim (cases_Bool (bytes_eq p a)) [
    | inl is ↦ ap (λ t. has_in (if t then Some one else old a) b) is
        ∙ (has
        ∙ (one_alone s
        ∙ sym (ap (λ t. if t && s then true else has_in (old a) b) is
        ∙ ap (λ o. if s then true else has_in o b) (ap old (sym ((bytes_eq-Decides p a).0 is)) ∙ sym none))))
    | inr apart ↦ ap (λ t. has_in (if t then Some one else old a) b) apart
        ∙ sym (ap (λ t. if t && s then true else has_in (old a) b) apart)
  ]

  pub pair_again : (one before : Seconds) (s : Bool) → Some before ≡ old p
      → (if bytes_eq p a then (if s then true else has_second before b) else has_in (update bytes_eq old p (Some one) a) b)
      ≡ (if bytes_eq p a && s then true else has_in (old a) b)
  pair_again one before s some = elim (cases_Bool (bytes_eq p a)) [
    | inl is ↦ ap (λ t. if t then (if s then true else has_second before b) else has_in (if t then Some one else old a) b) is
        ∙ sym (ap (λ t. if t && s then true else has_in (old a) b) is
        ∙ ap (λ o. if s then true else has_in o b) (ap old (sym ((bytes_eq-Decides p a).0 is)) ∙ sym some))
    | inr apart ↦ ap (λ t. if t then (if s then true else has_second before b) else has_in (if t then Some one else old a) b) apart
        ∙ sym (ap (λ t. if t && s then true else has_in (old a) b) apart)
  ]

-- the parts that wait at `xmlns`, and those at the other prefixes: one more, and none
pub here : (p q : List ℕ) → IsUtf8 p → bytes_eq (chars p) xmlns_prefix ≡ true → bytes_eq q xmlns_prefix ≡ bytes_eq p q
here p q u is =
    turned q xmlns_prefix ∙ sym (ap (λ l. bytes_eq l q) ((bytes_eq-Decides p xmlns_prefix).0 (sym (is_xmlns p u) ∙ is)))

pub apart_from : (p q : List ℕ) → IsUtf8 p → bytes_eq (chars p) xmlns_prefix ≡ false → bytes_eq q xmlns_prefix ≡ true
    → bytes_eq p q ≡ false
apart_from p q u other is =
    ap (bytes_eq p) ((bytes_eq-Decides q xmlns_prefix).0 is) ∙ (sym (is_xmlns p u) ∙ other)

module _ (x : List ℕ) where
  pub added_here : (b c : Bool) (new old other : List (List ℕ)) → b ≡ c → new ≡ old ++ x ∷ []
      → (if b then new else other) ≡ (if c then (if b then old else other) ++ x ∷ [] else (if b then old else other))
  added_here true true new old other e is = is
  added_here false false new old other e is = refl
  added_here true false new old other e is = absurd (cc)
  added_here false true new old other e is = absurd (cc)

  pub added_other : (b c : Bool) (new old declared : List (List ℕ)) → (b ≡ true → c ≡ false) → new ≡ (if c then old ++ x ∷ [] else old)
      → (if b then declared else new) ≡ (if c then (if b then declared else old) ++ x ∷ [] else (if b then declared else old))
  added_other false c new old declared apart is = is
  added_other true false new old declared apart is = refl
  added_other true true new old declared apart is = let e = apart refl in absurd (cc)

pub taken_here : (b c : Bool) (new old other : List (List ℕ)) → b ≡ c → new ≡ []
    → (if b then new else other) ≡ (if c then [] else (if b then old else other))
taken_here true true new old other e is = is
taken_here false false new old other e is = refl
taken_here true false new old other e is = absurd (cc)
taken_here false true new old other e is = absurd (cc)

pub taken_other : (b c : Bool) (new old declared : List (List ℕ)) → (b ≡ true → c ≡ false) → new ≡ (if c then [] else old)
    → (if b then declared else new) ≡ (if c then [] else (if b then declared else old))
taken_other false c new old declared apart is = is
taken_other true false new old declared apart is = refl
taken_other true true new old declared apart is = let e = apart refl in absurd (cc)

pub none_of_both : (b : Bool) (xs ys : List (List ℕ)) → xs ≡ [] → ys ≡ [] → (if b then xs else ys) ≡ []
none_of_both true xs ys e f = e
none_of_both false xs ys e f = f
