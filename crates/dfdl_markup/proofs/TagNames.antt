-- Which names declare a prefix, and that a prefix is not declared yet.
use Rattle.std.proofs.Common.{◌≡◌, ℕ, Bool, true, false, List, [], ◌∷◌, ◌++◌}
use Rattle.std.proofs.Common.{Option, Some, None, refl, ap, sym, subst, ◌∙◌, if◌then◌else◌}
use Rattle.std.proofs.Common.{option_and_then}
use Rattle.std.proofs.lemmas.Bool.{and_parts, or_from, or_parts, false_from_ne_true, true≢false}
use Rattle.std.specs.List.{list_any, cons_option}
use Rattle.std.specs.Str.{bytes_eq}
use Rattle.dfdl_layers.specs.Tellers.{Each}
use Rattle.dfdl_xml_chars.specs.Characters.{is_name_start, is_name_char, low_name_rows}
use Rattle.dfdl_xml_chars.specs.Characters.{low_start_rows, high_name_rows, high_start_rows}
use Rattle.dfdl_xml_chars.specs.Characters.{high_mark_rows}
use Rattle.dfdl_markup.specs.Grammar.{Name, Plain, Prefixed, name_characters}
use Rattle.dfdl_markup.specs.Values.{xmlns_namespace, xml_prefix, xmlns_prefix, Attribute, declares}
use Rattle.dfdl_markup.specs.Values.{Binding, bound_to, bindings_of, found, same_found}
use Rattle.dfdl_markup.specs.Values.{same_expanded}
use Rattle.dfdl_markup.specs.Values.{same_name, names_of, is_some_text, fixed_namespace}
use Rattle.dfdl_markup.specs.Rules.{IsPart, IsName}
use Rattle.dfdl_markup.specs.Machine.{StartTag, is_given, may_close}
use Rattle.dfdl_markup.proofs.Sound.{MayStand, SoundTag}
use Rattle.dfdl_markup.proofs.Closing.{start_is_char}
use Rattle.dfdl_markup.proofs.TagNamespaces.{alike, alike_of, found_new}
use Rattle.dfdl_markup.proofs.TagNamespaces.{some_is}
use Rattle.dfdl_markup.proofs.TagFixed.{bindings_each, fixed_new}

-- a part of a name has no colon

no_colon : is_name_char 58 ≡ false
unfolding is_name_char low_name_rows low_start_rows high_name_rows high_mark_rows high_start_rows
no_colon = refl

colon_no_start : is_name_start 58 ≡ false
unfolding is_name_start low_start_rows high_start_rows
colon_no_start = refl

abbrev pub AreCharacters : List ℕ → Type 0
AreCharacters part = Each (λ c. is_name_char c ≡ true) part

without_colon : (a b : List ℕ) → AreCharacters (a ++ 58 ∷ b) → ⊥
without_colon [] b each = true≢false (sym each.0 ∙ no_colon)
without_colon (c ∷ a) b each = without_colon a b each.1

part_without : (a b part : List ℕ) → part ≡ a ++ 58 ∷ b → IsPart part → ⊥
part_without [] b part is named = colon_first part is named
  where
    colon_first : (p : List ℕ) → p ≡ 58 ∷ b → IsPart p → ⊥
    colon_first p e n = true≢false (sym (subst IsPart e n).0 ∙ colon_no_start)
part_without (c ∷ a) b part is named = without_colon a b (subst IsPart is named).1

-- a name is cut at its colon in one way
cut_once : (a b c d : List ℕ) → AreCharacters a → AreCharacters b → a ++ 58 ∷ c ≡ b ++ 58 ∷ d
    → (a ≡ b) × (c ≡ d)
cut_once [] [] c d first second is = (refl, cc)
cut_once [] (y ∷ b) c d first second is =
    let same : 58 ≡ y = cc in
    absurd (true≢false (sym (subst (λ x. is_name_char x ≡ true) (sym same) second.0) ∙ no_colon))
cut_once (x ∷ a) [] c d first second is =
    let same : x ≡ 58 = cc in
    absurd (true≢false (sym (subst (λ y. is_name_char y ≡ true) same first.0) ∙ no_colon))
cut_once (x ∷ a) (y ∷ b) c d first second is =
    let heads : x ≡ y = cc in
    let tails : a ++ 58 ∷ c ≡ b ++ 58 ∷ d = cc in
    let rest = cut_once a b c d first.1 second.1 tails in
    (ap (λ z. z ∷ a) heads ∙ ap (λ l. y ∷ l) rest.0, rest.1)

-- the name that declares a prefix

pub xmlns_declares : (p : List ℕ) → declares (Prefixed xmlns_prefix p) ≡ Some p
xmlns_declares p =
    ap (λ (b : Bool). if b then Some p else None) (alike_of xmlns_prefix xmlns_prefix refl)

pub xmlns_part : IsPart xmlns_prefix
unfolding xmlns_prefix is_name_start is_name_char low_name_rows low_start_rows
xmlns_part = (refl, (refl, (refl, (refl, (refl, tt)))))

characters_of : (part : List ℕ) → IsPart part → AreCharacters part
characters_of [] is = absurd is
characters_of (c ∷ part) is = (start_is_char c is.0, is.1)

declares_by : (x : Name) (p : List ℕ) → IsName x → name_characters x ≡ xmlns_prefix ++ 58 ∷ p
    → declares x ≡ Some p
declares_by (Plain part) p named is = absurd (part_without xmlns_prefix p part is named)
declares_by (Prefixed q a) p named is =
    let same = cut_once q xmlns_prefix a p (characters_of q named.0)
    (characters_of xmlns_prefix xmlns_part) is in
    ap (λ l. declares (Prefixed l a)) same.0 ∙ (xmlns_declares a ∙ ap Some same.1)

-- a prefix that is not found is declared by no attribute

rest_unfound : (p q value : List ℕ) (rest : List Binding) (test : Bool) → bytes_eq q p ≡ test
    → is_some_text (if test then Some value else found rest p) ≡ false
    → is_some_text (found rest p) ≡ false
rest_unfound p q value rest true tested none = absurd (cc)
rest_unfound p q value rest false tested none = none

tail_unfound : (p value : List ℕ) (o : Option (List ℕ)) (rest : List Binding)
    → is_some_text (found (cons_option (bound_to value o) rest) p) ≡ false
    → is_some_text (found rest p) ≡ false
tail_unfound p value None rest none = none
tail_unfound p value (Some q) rest none = rest_unfound p q value rest (bytes_eq q p) refl none

head_found : (p value : List ℕ) (o : Option (List ℕ)) (rest : List Binding) → o ≡ Some p
    → is_some_text (found (cons_option (bound_to value o) rest) p) ≡ true
head_found p value None rest is = absurd (cc)
head_found p value (Some q) rest is =
    ap (λ (b : Bool). is_some_text (if b then Some value else found rest p))
    (alike_of q p (some_is q p is))

undeclared : (p : List ℕ) (attributes : List Attribute) → Each IsName (names_of attributes)
    → is_some_text (found (bindings_of attributes) p) ≡ false
    → list_any (λ other. same_name other (Prefixed xmlns_prefix p)) (names_of attributes) ≡ false
undeclared p [] named none = refl
undeclared p (a ∷ attributes) named none =
    or_from (same_name a.name (Prefixed xmlns_prefix p))
    (list_any (λ other. same_name other (Prefixed xmlns_prefix p)) (names_of attributes))
    (false_from_ne_true (same_name a.name (Prefixed xmlns_prefix p)) (λ same.
    true≢false (sym (head_found p a.value (declares a.name) (bindings_of attributes)
    (declares_by a.name p named.0 (alike (name_characters a.name) (xmlns_prefix ++ 58 ∷ p) same)))
    ∙ none)))
    (undeclared p attributes named.1
    (tail_unfound p a.value (declares a.name) (bindings_of attributes) none))

-- what `xmlns` stands for

xmlns_fixed : fixed_namespace xmlns_prefix ≡ Some xmlns_namespace
unfolding xmlns_prefix xml_prefix
xmlns_fixed = refl

found_holds_step : (q v u : List ℕ) (binding : Binding) (rest : Option (List ℕ)) (test : Bool)
    → bytes_eq binding.prefix q ≡ test → (if test then Some binding.namespace else rest) ≡ Some v
    → (binding.prefix ≡ q → binding.namespace ≡ u) → (rest ≡ Some v → v ≡ u) → v ≡ u
found_holds_step q v u binding rest true tested is holds others =
    sym (some_is binding.namespace v is) ∙ holds (alike binding.prefix q tested)
found_holds_step q v u binding rest false tested is holds others = others is

found_holds : (q v u : List ℕ) (bindings : List Binding) → found bindings q ≡ Some v
    → Each (λ binding. binding.prefix ≡ q → binding.namespace ≡ u) bindings → v ≡ u
found_holds q v u [] is each = absurd (cc)
found_holds q v u (binding ∷ bindings) is each =
    found_holds_step q v u binding (found bindings q) (bytes_eq binding.prefix q) refl is each.0
    (λ rest. found_holds q v u bindings rest each.1)

xmlns_value : (attributes : List Attribute) (v : List ℕ) → Each MayStand attributes
    → found (bindings_of attributes) xmlns_prefix ≡ Some v → v ≡ xmlns_namespace
xmlns_value attributes v stand is =
    found_holds xmlns_prefix v xmlns_namespace (bindings_of attributes) is
    (bindings_each (λ binding. binding.prefix ≡ xmlns_prefix → binding.namespace ≡ xmlns_namespace)
    MayStand (λ a q may declared same. value_by a q may declared same) attributes stand)
  where
    value_by : (a : Attribute) (q : List ℕ) → MayStand a → declares a.name ≡ Some q
        → q ≡ xmlns_prefix → a.value ≡ xmlns_namespace
    value_by a q may declared same =
        let is_xmlns : declares a.name ≡ Some xmlns_prefix = declared ∙ ap Some same in
        let closes : may_close (Some xmlns_prefix) (fixed_namespace xmlns_prefix) a.value ≡ true =
        subst (λ o. may_close o (option_and_then fixed_namespace o) a.value ≡ true) is_xmlns may in
        alike a.value xmlns_namespace
        (subst (λ o. may_close (Some xmlns_prefix) o a.value ≡ true) xmlns_fixed closes)

-- nor is one by the namespaces that are found

expanded_apart : (p : List ℕ) (attributes : List Attribute) → Each MayStand attributes → (x : Name)
    → same_name x (Prefixed xmlns_prefix p) ≡ false
    → same_expanded (bindings_of attributes) x (Prefixed xmlns_prefix p) ≡ false
expanded_apart p attributes stand (Plain a) written = refl
expanded_apart p attributes stand (Prefixed q a) written =
    false_from_ne_true (same_expanded (bindings_of attributes) (Prefixed q a)
    (Prefixed xmlns_prefix p))
    (λ is. (
    let parts =
    and_parts (bytes_eq a p)
    (same_found (found (bindings_of attributes) q) (found (bindings_of attributes) xmlns_prefix)) is
    in
    apart (found (bindings_of attributes) q) (found (bindings_of attributes) xmlns_prefix) refl refl
    parts.0 parts.1))
  where
    one_prefix : (v w : List ℕ) → found (bindings_of attributes) q ≡ Some v
        → found (bindings_of attributes) xmlns_prefix ≡ Some w → v ≡ w → q ≡ xmlns_prefix
    one_prefix v w first second same =
        found_new xmlns_prefix xmlns_namespace q v (bindings_of attributes) first
        (fixed_new xmlns_prefix xmlns_namespace attributes xmlns_fixed stand)
        (same ∙ xmlns_value attributes w stand second)

    apart : (o r : Option (List ℕ)) → found (bindings_of attributes) q ≡ o
        → found (bindings_of attributes) xmlns_prefix ≡ r → bytes_eq a p ≡ true
        → same_found o r ≡ true → ⊥
    apart (Some v) (Some w) first second local same =
        true≢false (sym (alike_of (q ++ 58 ∷ a) (xmlns_prefix ++ 58 ∷ p)
        (ap (λ l. l ++ 58 ∷ a) (one_prefix v w first second (alike v w same))
        ∙ ap (λ l. xmlns_prefix ++ 58 ∷ l) (alike a p local))) ∙ written)
    apart (Some v) None first second local same = absurd (cc)
    apart None (Some w) first second local same = absurd (cc)
    apart None None first second local same = absurd (cc)

none_expanded : (p : List ℕ) (attributes : List Attribute) → Each MayStand attributes
    → (names : List Name) → list_any (λ other. same_name other (Prefixed xmlns_prefix p)) names
    ≡ false
    → list_any (λ other. same_expanded (bindings_of attributes) other (Prefixed xmlns_prefix p))
    names
    ≡ false
none_expanded p attributes stand [] written = refl
none_expanded p attributes stand (x ∷ names) written =
    let parts =
    or_parts (same_name x (Prefixed xmlns_prefix p))
    (list_any (λ other. same_name other (Prefixed xmlns_prefix p)) names) written in
    or_from (same_expanded (bindings_of attributes) x (Prefixed xmlns_prefix p))
    (list_any (λ other. same_expanded (bindings_of attributes) other (Prefixed xmlns_prefix p))
    names)
    (expanded_apart p attributes stand x parts.0)
    (none_expanded p attributes stand names parts.1)

-- so a prefix that is not found may be declared
pub declaration_new : (tag : StartTag) (p : List ℕ) → SoundTag tag
    → is_some_text (found (bindings_of tag.attributes) p) ≡ false
    → is_given tag (Prefixed xmlns_prefix p) ≡ false
declaration_new tag p sound none =
    let written = undeclared p tag.attributes sound.names none in
    or_from (list_any (λ other. same_name other (Prefixed xmlns_prefix p))
    (names_of tag.attributes))
    (list_any (λ other. same_expanded (bindings_of tag.attributes) other (Prefixed xmlns_prefix p))
    (names_of tag.attributes))
    written
    (none_expanded p tag.attributes sound.binds (names_of tag.attributes) written)
