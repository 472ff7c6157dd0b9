-- The namespaces of the prefixes `xml` and `xmlns`, and what no other prefix may stand for.
use Rattle.std.proofs.Common.{◌≡◌, ℕ, zero, suc, ◌+◌, ◌<◌, ◌≤◌, ◌==◌, ◌&&◌, Bool, true, false, not}
use Rattle.std.proofs.Common.{List, [], ◌∷◌, ◌++◌}
use Rattle.std.proofs.Common.{length, Option, Some, None, refl, ap, sym, subst, ◌∙◌, arith}
use Rattle.std.proofs.Common.{if◌then◌else◌, nat_le, nat_lt, option_and_then, drop}
use Rattle.std.proofs.lemmas.Bool.{and_parts, and_from, eqb-true, true≢false}
use Rattle.std.proofs.lemmas.Bool.Decides.{nat_tests}
use Rattle.std.specs.List.{list_all, cons_option}
use Rattle.std.specs.Str.{bytes_eq}
use Rattle.dfdl_layers.specs.Tellers.{Each}
use Rattle.dfdl_markup.specs.Grammar.{is_white, is_quote}
use Rattle.dfdl_markup.specs.Values.{xml_namespace, xmlns_namespace, xml_prefix, xmlns_prefix}
use Rattle.dfdl_markup.specs.Values.{fixed_namespace, may_bind, Attribute, declares, Binding}
use Rattle.dfdl_markup.specs.Values.{bound_to}
use Rattle.dfdl_markup.specs.Values.{bindings_of}
use Rattle.dfdl_markup.specs.Rules.{is_value_character}
use Rattle.dfdl_markup.specs.Machine.{may_close, begins}
use Rattle.dfdl_markup.proofs.Answers.{Good}
use Rattle.dfdl_markup.proofs.Sound.{MayStand}
use Rattle.dfdl_markup.proofs.Closing.{good_low}
use Rattle.dfdl_markup.proofs.TagNamespaces.{alike, alike_of, unlike, IsNewBinding}
use Rattle.dfdl_markup.proofs.TagNamespaces.{some_is}

-- how a fixed prefix is one
pub data FixedAs (prefix : List ℕ) (o : Option (List ℕ)) : Type 0 where
  AsXml : prefix ≡ xml_prefix → o ≡ Some xml_namespace → FixedAs prefix o
  AsXmlns : prefix ≡ xmlns_prefix → o ≡ Some xmlns_namespace → FixedAs prefix o
  AsOther : o ≡ None → FixedAs prefix o

fixed_by : (prefix : List ℕ) (s t : Bool) → bytes_eq prefix xml_prefix ≡ s
    → bytes_eq prefix xmlns_prefix ≡ t
    → FixedAs prefix (if s then Some xml_namespace else (if t then Some xmlns_namespace else None))
fixed_by prefix true t first second = AsXml (alike prefix xml_prefix first) refl
fixed_by prefix false true first second = AsXmlns (alike prefix xmlns_prefix second) refl
fixed_by prefix false false first second = AsOther refl

pub fixed_as : (prefix : List ℕ) → FixedAs prefix (fixed_namespace prefix)
fixed_as prefix = fixed_by prefix (bytes_eq prefix xml_prefix) (bytes_eq prefix xmlns_prefix) refl
    refl

no_text : (a : List ℕ) → None ≡ Some a → ⊥
no_text a e = cc

lengths : (length xml_namespace ≡ 36) × (length xmlns_namespace ≡ 29)
unfolding xml_namespace xmlns_namespace
lengths = (refl, refl)

-- the two differ
pub not_both : xml_namespace ≡ xmlns_namespace → ⊥
not_both same = let both : length xml_namespace ≡ length xmlns_namespace = ap length same in
    absurd (omega (arith, lengths, both))

-- a character that may stand in a value as it is
abbrev pub is_plain : ℕ → Bool
is_plain c = (nat_le 33 c && nat_lt c 128)
    && ((not (c == 60) && not (c == 38)) && (not (c == 34) && not (c == 39)))

-- all are such
abbrev pub ArePlain : List ℕ → Type 0
ArePlain text = Each (λ c. is_plain c ≡ true) text

plain_each : (text : List ℕ) → list_all is_plain text ≡ true → ArePlain text
plain_each [] all = tt
plain_each (c ∷ text) all =
    let parts = and_parts (is_plain c) (list_all is_plain text) all in
    (parts.0, plain_each text parts.1)

xml_plain : list_all is_plain xml_namespace ≡ true
unfolding xml_namespace
xml_plain = refl

xmlns_plain : list_all is_plain xmlns_namespace ≡ true
unfolding xmlns_namespace
xmlns_plain = refl

pub plain_fixed : (prefix fixed : List ℕ) → fixed_namespace prefix ≡ Some fixed → ArePlain fixed
plain_fixed prefix fixed is = plain_by prefix fixed (fixed_namespace prefix) (fixed_as prefix) is
  where
    plain_by : (p f : List ℕ) (o : Option (List ℕ)) → FixedAs p o → o ≡ Some f → ArePlain f
    plain_by p f o (AsXml a b) e =
        subst ArePlain (some_is xml_namespace f (sym b ∙ e)) (plain_each xml_namespace xml_plain)
    plain_by p f o (AsXmlns a b) e =
        subst ArePlain (some_is xmlns_namespace f (sym b ∙ e))
        (plain_each xmlns_namespace xmlns_plain)
    plain_by p f o (AsOther b) e = absurd (no_text f (sym b ∙ e))

pub plain_good : (c : ℕ) → is_plain c ≡ true → Good c
plain_good c plain = good_low c (grind (arith, nat_tests)) (grind (arith, nat_tests))

pub plain_not_white : (c : ℕ) → is_plain c ≡ true → is_white c ≡ false
unfolding is_white
plain_not_white c plain = grind (arith, nat_tests)

pub plain_value : (quote c : ℕ) → is_quote quote ≡ true → is_plain c ≡ true
    → is_value_character quote c ≡ true
unfolding is_quote is_value_character
plain_value quote c quotes plain = grind (arith, nat_tests)

-- what another prefix may stand for is neither of the two

not_true : (a b : Bool) → (not a && not b) ≡ true → (a ≡ false) × (b ≡ false)
not_true true b e = absurd (cc)
not_true false true e = absurd (cc)
not_true false false e = (refl, refl)

differs : (a b : List ℕ) → bytes_eq a b ≡ false → a ≡ b → ⊥
differs a b unequal same = true≢false (sym (alike_of a b same) ∙ unequal)

-- a namespace is neither of the two
pub record IsOther (namespace : List ℕ) : Type 0 where
  pub first : namespace ≡ xml_namespace → ⊥
  pub second : namespace ≡ xmlns_namespace → ⊥

other_of : (namespace : List ℕ)
    → (not (bytes_eq namespace xml_namespace) && not (bytes_eq namespace xmlns_namespace)) ≡ true
    → IsOther namespace
other_of namespace is =
    let parts = not_true (bytes_eq namespace xml_namespace) (bytes_eq namespace xmlns_namespace) is
    in
    record {
      first = differs namespace xml_namespace parts.0;
      second = differs namespace xmlns_namespace parts.1;
    }

bound_other : (prefix namespace : List ℕ) → may_bind prefix namespace ≡ true → IsOther namespace
bound_other [] namespace may = other_of namespace may
bound_other (c ∷ prefix) [] may = absurd (cc)
bound_other (c ∷ prefix) (d ∷ namespace) may = other_of (d ∷ namespace) may

-- where a fixed prefix is bound, no other prefix is bound to its namespace

fixed_once : (p q u : List ℕ) (o r : Option (List ℕ)) → FixedAs p o → FixedAs q r → o ≡ Some u
    → r ≡ Some u → q ≡ p
fixed_once p q u o r (AsXml a b) (AsXml c d) first second = c ∙ sym a
fixed_once p q u o r (AsXml a b) (AsXmlns c d) first second =
    absurd (not_both (some_is xml_namespace u (sym b ∙ first)
    ∙ sym (some_is xmlns_namespace u (sym d ∙ second))))
fixed_once p q u o r (AsXmlns a b) (AsXml c d) first second =
    absurd (not_both (some_is xml_namespace u (sym d ∙ second)
    ∙ sym (some_is xmlns_namespace u (sym b ∙ first))))
fixed_once p q u o r (AsXmlns a b) (AsXmlns c d) first second = c ∙ sym a
fixed_once p q u o r (AsOther a) k first second = absurd (no_text u (sym a ∙ first))
fixed_once p q u o r (AsXml a b) (AsOther c) first second = absurd (no_text u (sym c ∙ second))
fixed_once p q u o r (AsXmlns a b) (AsOther c) first second = absurd (no_text u (sym c ∙ second))

fixed_unbound : (p u : List ℕ) (o : Option (List ℕ)) → FixedAs p o → o ≡ Some u → IsOther u → ⊥
fixed_unbound p u o (AsXml a b) is other = other.first (sym (some_is xml_namespace u (sym b ∙ is)))
fixed_unbound p u o (AsXmlns a b) is other = other.second
    (sym (some_is xmlns_namespace u (sym b ∙ is)))
fixed_unbound p u o (AsOther a) is other = no_text u (sym a ∙ is)

fixed_alone : (p q u value : List ℕ) (r : Option (List ℕ)) → fixed_namespace p ≡ Some u
    → fixed_namespace q ≡ r → may_close (Some q) r value ≡ true → value ≡ u → q ≡ p
fixed_alone p q u value (Some f) is of may same =
    fixed_once p q u (fixed_namespace p) (fixed_namespace q) (fixed_as p) (fixed_as q) is
    (of ∙ ap Some (sym (alike value f may) ∙ same))
fixed_alone p q u value None is of may same =
    absurd (fixed_unbound p u (fixed_namespace p) (fixed_as p) is
    (subst IsOther same (bound_other q value may)))

-- what the attributes declare, each by what holds of it
pub bindings_each : (P : Binding → Type 0) (Q : Attribute → Type 0)
    → ((attribute : Attribute) (prefix : List ℕ) → Q attribute → declares attribute.name ≡ Some
    prefix
    → P (record { prefix = prefix; namespace = attribute.value }))
    → (attributes : List Attribute) → Each Q attributes → Each P (bindings_of attributes)
bindings_each P Q follows [] each = tt
bindings_each P Q follows (a ∷ attributes) each =
    added (declares a.name) refl (bindings_each P Q follows attributes each.1)
  where
    added : (o : Option (List ℕ)) → declares a.name ≡ o → Each P (bindings_of attributes)
        → Each P (cons_option (bound_to a.value o) (bindings_of attributes))
    added None is rest = rest
    added (Some prefix) is rest = (follows a prefix each.0 is, rest)

-- the binding of a fixed prefix is new
pub fixed_new : (p u : List ℕ) (attributes : List Attribute) → fixed_namespace p ≡ Some u
    → Each MayStand attributes → Each (IsNewBinding p u) (bindings_of attributes)
fixed_new p u attributes is stand =
    bindings_each (IsNewBinding p u) MayStand
    (λ a q may declared same. fixed_alone p q u a.value (fixed_namespace q) is refl
    (subst (λ o. may_close o (option_and_then fixed_namespace o) a.value ≡ true) declared may) same)
    attributes stand

-- a value that is longer than all others

-- more than the lengths of the namespaces
abbrev pub reach : List Binding → ℕ
reach [] = 37
reach (binding ∷ bindings) = length binding.namespace + reach bindings

pub reach_least : (bindings : List Binding) → 37 ≤ reach bindings
reach_least [] = omega arith
reach_least (binding ∷ bindings) = omega (arith, reach_least bindings)

pub longer_new : (p u : List ℕ) (bindings : List Binding) → reach bindings ≤ length u
    → Each (IsNewBinding p u) bindings
longer_new p u [] long = tt
longer_new p u (binding ∷ bindings) long = (
  λ same. absurd (let lengths_same : length binding.namespace ≡ length u = ap length same in
      omega (arith, lengths_same, reach_least bindings, long)),
  longer_new p u bindings (omega (arith, long)),
)

may_bind_both : (namespace : List ℕ) → 36 < length namespace
    → (not (bytes_eq namespace xml_namespace) && not (bytes_eq namespace xmlns_namespace)) ≡ true
may_bind_both namespace long =
    and_from (not (bytes_eq namespace xml_namespace)) (not (bytes_eq namespace xmlns_namespace))
    (ap not (unlike namespace xml_namespace
    (λ same. absurd (let e : length namespace ≡ length xml_namespace = ap length same in
    omega (arith, e, lengths, long)))))
    (ap not (unlike namespace xmlns_namespace
    (λ same. absurd (let e : length namespace ≡ length xmlns_namespace = ap length same in
    omega (arith, e, lengths, long)))))

-- any prefix may be bound to a long one
pub may_bind_long : (prefix namespace : List ℕ) → 36 < length namespace → may_bind prefix namespace
    ≡ true
may_bind_long [] namespace long = may_bind_both namespace long
may_bind_long (c ∷ prefix) [] long = absurd (omega arith)
may_bind_long (c ∷ prefix) (d ∷ namespace) long = may_bind_both (d ∷ namespace) long

-- so many letters
abbrev pub letters : ℕ → List ℕ
letters zero = []
letters (suc n) = 97 ∷ letters n

pub letters_length : (n : ℕ) → length (letters n) ≡ n
letters_length zero = refl
letters_length (suc n) = ap suc (letters_length n)

pub letters_plain : (n : ℕ) → ArePlain (letters n)
letters_plain zero = tt
letters_plain (suc n) = (refl, letters_plain n)

-- what is left of a word behind what was read of it
pub begun_rest : (text word : List ℕ) → begins text word ≡ true → text ++ drop (length text) word
    ≡ word
begun_rest [] word is = refl
begun_rest (c ∷ text) [] is = absurd (cc)
begun_rest (c ∷ text) (d ∷ word) is =
    let parts = and_parts (c == d) (begins text word) is in
    let same : c ≡ d = eqb-true c d parts.0 in
    ap (λ l. l ∷ (text ++ drop (length text) word)) same ∙ ap (λ l. d ∷ l)
    (begun_rest text word parts.1)

pub plain_part : (P : ℕ → Type 0) (a b : List ℕ) → Each P (a ++ b) → Each P b
plain_part P [] b each = each
plain_part P (c ∷ a) b each = plain_part P a b each.1
