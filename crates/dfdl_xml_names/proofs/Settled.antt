-- Names of which those whose prefix is not found all declare a prefix: none is the same as another.
use Rattle.std.specs.Prelude.{◌≡◌, ℕ, Bool, true, false, ◌||◌, ◌&&◌, if◌then◌else◌, List, ◌++◌, ◌∷◌, [], map, Option, Some, None, string_bytes}
use Rattle.std.specs.BTreeMap.{get_by_text}
use Rattle.std.specs.List.{list_any, list_all}
use Rattle.std.specs.Option.{is_some}
use denote.Ref.{Bor}
use Rattle.std.specs.Str.{bytes_eq, chars, IsUtf8}
use Rattle.std.proofs.Common.{refl, sym, ap, ◌∙◌, inl, inr}
use Rattle.std.proofs.lemmas.Bool.{cases_Bool}
use Rattle.std.proofs.lemmas.Slice.Eq.{bytes_eq-Decides}
use Rattle.dfdl_markup.specs.Grammar as grammar
use Rattle.dfdl_markup.specs.Grammar.{name_characters}
use Rattle.dfdl_markup.specs.Values.{Binding, found, have_same, is_found, is_some_text, names_of, same_expanded, same_found, same_name, xmlns_prefix}
use Rattle.dfdl_xml_names.specs.Beyond.{picked, others}
use Rattle.dfdl_xml_names.specs.Expanded.{IsResolved}
use Rattle.dfdl_xml_names.specs.Shown.{attribute_of, lent_text, name_of, text_of}
use Rattle.dfdl_xml_names.specs.Waiting.{IsWaiting, parts_in, parts_left, parts_of}
use Rattle.dfdl_xml_names.specs.declared.name.Attribute.{Attribute}
use Rattle.dfdl_xml_names.specs.declared.name.Name.{Name}
use Rattle.dfdl_xml_names.specs.declared.name.Name.TheVariants.{Plain, Prefixed}
use Rattle.dfdl_xml_names.specs.declared.resolved.Resolved.{Resolved}
use Rattle.dfdl_xml_names.specs.declared.waiting.Waiting.{Waiting}
use Rattle.dfdl_xml_names.proofs.Bound.{same_turned}
use Rattle.dfdl_xml_names.proofs.Expanded.{or_none}
use Rattle.dfdl_xml_names.proofs.Opened.{turned}
use Rattle.dfdl_xml_names.proofs.Split.{crosses, found_same, same_split, stays_found}
use Rattle.dfdl_xml_names.proofs.Texts.{is_text, is_xmlns}

abbrev pub names : List Attribute → List grammar.Name
names xs = names_of (map attribute_of xs)

-- the name declares a prefix
abbrev declares : grammar.Name → Bool
declares (grammar.Plain part) = false
declares (grammar.Prefixed prefix part) = bytes_eq prefix xmlns_prefix

both_hold : (a b : Bool) → (a && b) ≡ true → (a ≡ true) × (b ≡ true)
both_hold true b is = (refl, is)
both_hold false b is = absurd (cc)

none_holds : (a b : Bool) → (a || b) ≡ false → (a ≡ false) × (b ≡ false)
none_holds true b is = absurd (cc)
none_holds false b is = (refl, is)

none_of_false : (o : Option (List ℕ)) → is_some_text o ≡ false → o ≡ None
none_of_false None is = refl
none_of_false (Some x) is = absurd (cc)

-- a text that is lent is there
pub some_lent : (o : Option (Bor (List ℕ))) → is_some_text (lent_text o) ≡ is_some o
some_lent None = refl
some_lent (Some text) = refl

module _ (own : List Binding) where
  -- no name waits but at `xmlns`
  abbrev pub OnlyDeclare : List grammar.Name → Type 0
  OnlyDeclare given =
      (p : List ℕ) → IsUtf8 p → bytes_eq p xmlns_prefix ≡ false → found own (chars p) ≡ None → parts_of (chars p) given ≡ []

  pub none_waits : (waiting : Waiting) (given : List grammar.Name) → ((q : List ℕ) → get_by_text waiting.others q ≡ None)
      → IsWaiting waiting own given → OnlyDeclare given
  none_waits waiting given none kept = λ p u apart unfound.
      sym (ap (λ o. parts_left o (chars p) given) unfound)
      ∙ (sym (kept p u)
      ∙ (ap (λ b. if b then map text_of waiting.declarations.items else parts_in (get_by_text waiting.others p)) apart
      ∙ ap parts_in (none p)))

  rest_of : (name : grammar.Name) (given : List grammar.Name) → OnlyDeclare (name ∷ given) → OnlyDeclare given
  rest_of (grammar.Plain part) given only = only
  rest_of (grammar.Prefixed r part) given only = λ p u apart unfound.
      at (bytes_eq r (chars p)) (parts_of (chars p) given) (only p u apart unfound)
    where
      at : (b : Bool) (parts : List (List ℕ)) → (if b then part ∷ parts else parts) ≡ [] → parts ≡ []
      at true parts is = absurd (cc)
      at false parts is = is

  declares_head : (name : Name) (given : List grammar.Name) → OnlyDeclare (name_of name ∷ given)
      → is_found own (name_of name) ≡ false → declares (name_of name) ≡ true
  declares_head (Plain part) given only is = absurd (cc)
  declares_head (Prefixed prefix part) given only is = elim (cases_Bool (bytes_eq (text_of prefix) xmlns_prefix)) [
    | inl alike ↦ alike
    | inr apart ↦ (let q = text_of prefix in
        let empty = only (string_bytes prefix) (is_text prefix) (sym (is_xmlns (string_bytes prefix) (is_text prefix)) ∙ apart) (none_of_false (found own q) is) in
        let some : text_of part ∷ parts_of q given ≡ [] =
        sym (ap (λ b. if b then text_of part ∷ parts_of q given else parts_of q given) ((bytes_eq-Decides q q).1 refl)) ∙ empty in
        absurd (cc))
  ]

  all_declare : (xs : List Attribute) → OnlyDeclare (names xs) → list_all declares (others (is_found own) (names xs)) ≡ true
  all_declare [] only = refl
  all_declare (x ∷ xs) only =
      let more = all_declare xs (rest_of (name_of x.name) (names xs) only) in
      let l = others (is_found own) (names xs) in
      elim (cases_Bool (is_found own (name_of x.name))) [
        | inl is ↦ ap (λ b. list_all declares (if b then l else name_of x.name ∷ l)) is ∙ more
        | inr apart ↦ ap (λ b. list_all declares (if b then l else name_of x.name ∷ l)) apart
            ∙ (ap (λ b. b && list_all declares l) (declares_head x.name (names xs) only apart) ∙ more)
      ]

  module _ (outer : List Binding) where
    abbrev all : List Binding
    all = own ++ outer

    -- two declarations that are written apart
    same_apart : (x y : grammar.Name) → declares x ≡ true → declares y ≡ true → same_name x y ≡ false → same_expanded all x y ≡ false
    same_apart (grammar.Plain a) y dx dy apart = refl
    same_apart (grammar.Prefixed p a) (grammar.Plain b) dx dy apart = refl
    same_apart (grammar.Prefixed p a) (grammar.Prefixed q b) dx dy apart = elim (cases_Bool (bytes_eq a b)) [
      | inl alike ↦ (let prefix = (bytes_eq-Decides p xmlns_prefix).0 dx ∙ sym ((bytes_eq-Decides q xmlns_prefix).0 dy) in
          let written = ap (λ z. name_characters (grammar.Prefixed z a)) prefix
          ∙ ap (λ z. name_characters (grammar.Prefixed q z)) ((bytes_eq-Decides a b).0 alike) in
          let is = (bytes_eq-Decides (name_characters (grammar.Prefixed p a)) (name_characters (grammar.Prefixed q b))).1 written in
          absurd (cc))
      | inr other ↦ ap (λ t. t && same_found (found all p) (found all q)) other
    ]

    any_apart : (x : grammar.Name) (l : List grammar.Name) → declares x ≡ true → list_all declares l ≡ true
        → list_any (same_name x) l ≡ false → list_any (same_expanded all x) l ≡ false
    any_apart x [] dx dl apart = refl
    any_apart x (y ∷ l) dx dl apart =
        let d = both_hold (declares y) (list_all declares l) dl in
        let n = none_holds (same_name x y) (list_any (same_name x) l) apart in
        ap (λ b. b || list_any (same_expanded all x) l) (same_apart x y dx d.0 n.0) ∙ any_apart x l dx d.1 n.1

    none_same : (l : List grammar.Name) → list_all declares l ≡ true → have_same same_name l ≡ false → have_same (same_expanded all) l ≡ false
    none_same [] dl apart = refl
    none_same (x ∷ l) dl apart =
        let d = both_hold (declares x) (list_all declares l) dl in
        let n = none_holds (list_any (same_name x) l) (have_same same_name l) apart in
        ap (λ b. b || have_same (same_expanded all) l) (any_apart x l d.0 d.1 n.0) ∙ none_same l d.1 n.1

    -- the names are none of those that stand for declarations
    abbrev pub Apart : List grammar.Name → Type 0
    Apart firsts =
        (b : List ℕ) → IsUtf8 b → list_any (λ o. same_expanded all o (grammar.Prefixed xmlns_prefix (chars b))) firsts ≡ false

    none_crosses : (firsts : List grammar.Name) → Apart firsts → (xs : List Attribute) → OnlyDeclare (names xs)
        → crosses own outer firsts (others (is_found own) (names xs)) ≡ false
    none_crosses firsts apart [] only = refl
    none_crosses firsts apart (x ∷ xs) only =
        let more = none_crosses firsts apart xs (rest_of (name_of x.name) (names xs) only) in
        let l = others (is_found own) (names xs) in
        elim (cases_Bool (is_found own (name_of x.name))) [
          | inl is ↦ ap (λ b. crosses own outer firsts (if b then l else name_of x.name ∷ l)) is ∙ more
          | inr unfound ↦ ap (λ b. crosses own outer firsts (if b then l else name_of x.name ∷ l)) unfound
              ∙ (ap (λ b. b || crosses own outer firsts l) (one x.name (declares_head x.name (names xs) only unfound)) ∙ more)
        ]
      where
        one : (name : Name) → declares (name_of name) ≡ true → list_any (λ o. same_expanded all o (name_of name)) firsts ≡ false
        one (Plain part) is = absurd (cc)
        one (Prefixed prefix part) is =
            ap (λ p. list_any (λ o. same_expanded all o (grammar.Prefixed p (text_of part))) firsts) ((bytes_eq-Decides (text_of prefix) xmlns_prefix).0 is)
            ∙ apart (string_bytes part) (is_text part)

    -- names that are the same by the own scope are all that are the same
    pub settled : (resolved : Resolved) (xs : List Attribute) → IsResolved resolved own (names xs)
        → have_same same_name (names xs) ≡ false → ((q : List ℕ) → get_by_text resolved.waiting.others q ≡ None)
        → Apart (picked (is_found own) (names xs))
        → resolved.clash ≡ have_same (same_expanded all) (names xs)
    settled resolved xs kept distinct none apart =
        let p = picked (is_found own) (names xs) in
        let l = others (is_found own) (names xs) in
        let only = none_waits resolved.waiting (names xs) none kept.waiting in
        let written =
        none_holds (have_same same_name p || list_any (λ u. list_any (λ o. same_name o u) p) l) (have_same same_name l)
        (same_split (is_found own) same_name (λ x y. turned (name_characters x) (name_characters y)) (names xs) ∙ distinct) in
        let alone = none_same l (all_declare xs only) written.1 in
        let here = have_same (same_expanded all) p in
        kept.clash
        ∙ (found_same own outer (names xs)
        ∙ (sym (ap (λ b. (here || b) || have_same (same_expanded all) l) (none_crosses p apart xs only)
        ∙ (ap (λ b. (here || false) || b) alone ∙ (or_none (here || false) ∙ or_none here)))
        ∙ same_split (is_found own) (same_expanded all) (same_turned all) (names xs)))

    -- and all are found where declarations are
    pub all_are_found : (xs : List Attribute) → OnlyDeclare (names xs) → is_some_text (found all xmlns_prefix) ≡ true
        → list_all (is_found all) (names xs) ≡ true
    all_are_found [] only is = refl
    all_are_found (x ∷ xs) only is =
        ap (λ b. b && list_all (is_found all) (names xs)) (one x.name only)
        ∙ all_are_found xs (rest_of (name_of x.name) (names xs) only) is
      where
        of_own : (q : List ℕ) (o : Option (List ℕ)) → found own q ≡ o → is_some_text o ≡ true → is_some_text (found all q) ≡ true
        of_own q None has some = absurd (cc)
        of_own q (Some m) has some = ap is_some_text (stays_found own outer q m has ∙ has)

        one : (name : Name) → OnlyDeclare (name_of name ∷ names xs) → is_found all (name_of name) ≡ true
        one (Plain part) given = refl
        one (Prefixed prefix part) given = elim (cases_Bool (is_some_text (found own (text_of prefix)))) [
          | inl some ↦ of_own (text_of prefix) (found own (text_of prefix)) refl some
          | inr unfound ↦ ap (λ p. is_some_text (found all p))
              ((bytes_eq-Decides (text_of prefix) xmlns_prefix).0 (declares_head (Prefixed prefix part) (names xs) given unfound))
              ∙ is
        ]
