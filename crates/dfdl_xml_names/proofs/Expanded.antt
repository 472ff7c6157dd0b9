-- What is kept of names by namespaces, with one name more, or one binding more.
use Rattle.std.specs.Prelude.{◌≡◌, ℕ, Bool, true, false, ◌||◌, ◌&&◌, if◌then◌else◌, List, ◌++◌, ◌∷◌, [], Option, Some, None}
use Rattle.std.specs.List.{list_any}
use Rattle.std.specs.Str.{bytes_eq, chars, IsUtf8}
use Rattle.std.proofs.Common.{refl, sym, ap, ◌∙◌}
use Rattle.std.proofs.lemmas.List.Folds.{list_any-append}
use Rattle.dfdl_markup.specs.Grammar.{Name, Plain, Prefixed}
use Rattle.dfdl_markup.specs.Values.{Binding, found, same_found, same_expanded, have_same}
use Rattle.dfdl_xml_names.specs.Paired.{has_pair}
use Rattle.dfdl_xml_names.specs.Expanded.{IsResolved, is_in}
use Rattle.dfdl_xml_names.specs.Waiting.{IsWaiting, parts_at}
use Rattle.dfdl_xml_names.specs.declared.resolved.Resolved.{Resolved}
use Rattle.dfdl_xml_names.proofs.Texts.{same_chars}
use Rattle.std.proofs.lemmas.Slice.Eq.{bytes_eq-Decides}
use Rattle.dfdl_xml_names.proofs.Parts.{or_between, left_plain, left_found, left_waits}

pub or_none : (b : Bool) → (b || false) ≡ b
or_none true = refl
or_none false = refl

pub or_apart : (a b c : Bool) → (a || (b || c)) ≡ ((a || b) || c)
or_apart true b c = refl
or_apart false b c = refl

-- two names are the same, with one more behind them
pub same_behind : (same : Name → Name → Bool) (names : List Name) (name : Name)
    → have_same same (names ++ name ∷ []) ≡ (have_same same names || list_any (λ other. same other name) names)
same_behind same [] name = refl
same_behind same (x ∷ names) name =
    ap (λ b. b || have_same same (names ++ name ∷ [])) (list_any-append (same x) names (name ∷ []) ∙ ap (λ b. list_any (same x) names || b) (or_none (same x name)))
    ∙ (ap (λ b. (list_any (same x) names || same x name) || b) (same_behind same names name)
    ∙ or_between (list_any (same x) names) (same x name) (have_same same names) (list_any (λ other. same other name) names))

pub and_none : (b : Bool) → (b && false) ≡ false
and_none true = refl
and_none false = refl

pub none_found : (o : Option (List ℕ)) → same_found o None ≡ false
none_found None = refl
none_found (Some a) = refl

-- tests that agree
pub any_alike : (f g : Name → Bool) → ((x : Name) → f x ≡ g x) → (names : List Name) → list_any f names ≡ list_any g names
any_alike f g same [] = refl
any_alike f g same (x ∷ names) = ap (λ b. b || list_any f names) (same x) ∙ ap (λ b. g x || b) (any_alike f g same names)

pub any_none : (f : Name → Bool) → ((x : Name) → f x ≡ false) → (names : List Name) → list_any f names ≡ false
any_none f none [] = refl
any_none f none (x ∷ names) = ap (λ b. b || list_any f names) (none x) ∙ any_none f none names

-- one name more that is the same as none
add_none : (old new : Resolved) (scope : List Binding) (names : List Name) (name : Name)
    → new.pairs ≡ old.pairs → new.clash ≡ old.clash
    → ((a b : List ℕ) → is_in scope a b name ≡ false) → ((other : Name) → same_expanded scope other name ≡ false)
    → IsWaiting new.waiting scope (names ++ name ∷ [])
    → IsResolved old scope names → IsResolved new scope (names ++ name ∷ [])
add_none old new scope names name pairs clash apart alone waits kept = record {
  pairs = λ a b u v.
      ap (λ p. has_pair p a b) pairs
      ∙ (kept.pairs a b u v
      ∙ sym (list_any-append (is_in scope (chars a) (chars b)) names (name ∷ [])
      ∙ (ap (λ c. list_any (is_in scope (chars a) (chars b)) names || (c || false)) (apart (chars a) (chars b))
      ∙ or_none (list_any (is_in scope (chars a) (chars b)) names))));
  waiting = waits;
  clash =
      clash
      ∙ (kept.clash
      ∙ sym (same_behind (same_expanded scope) names name
      ∙ (ap (λ c. have_same (same_expanded scope) names || c) (any_none (λ other. same_expanded scope other name) alone names)
      ∙ or_none (have_same (same_expanded scope) names))));
}

plain_alone : (scope : List Binding) (part : List ℕ) (other : Name) → same_expanded scope other (Plain part) ≡ false
plain_alone scope part (Plain name) = refl
plain_alone scope part (Prefixed prefix name) = refl

pub add_plain : (resolved : Resolved) (scope : List Binding) (names : List Name) (part : List ℕ)
    → IsResolved resolved scope names → IsResolved resolved scope (names ++ Plain part ∷ [])
add_plain resolved scope names part kept =
    add_none resolved resolved scope names (Plain part) refl refl (λ a b. refl) (plain_alone scope part)
    (λ q u. kept.waiting q u ∙ left_plain (found scope (chars q)) (chars q) names part) kept

unfound_alone : (scope : List Binding) (prefix part : List ℕ) → found scope prefix ≡ None → (other : Name) → same_expanded scope other (Prefixed prefix part) ≡ false
unfound_alone scope prefix part none (Plain name) = refl
unfound_alone scope prefix part none (Prefixed before name) =
    ap (λ o. bytes_eq name part && same_found (found scope before) o) none
    ∙ (ap (λ b. bytes_eq name part && b) (none_found (found scope before)) ∙ and_none (bytes_eq name part))

pub same_found_of : (scope : List Binding) (p q : List ℕ) (o : Option (List ℕ)) → found scope p ≡ o → bytes_eq p q ≡ true → found scope q ≡ o
same_found_of scope p q o is alike = sym (ap (found scope) ((bytes_eq-Decides p q).0 alike)) ∙ is

-- one name more whose prefix is not found
pub add_unfound : (old new : Resolved) (scope : List Binding) (names : List Name) (prefix part : List ℕ)
    → new.pairs ≡ old.pairs → new.clash ≡ old.clash → IsUtf8 prefix → found scope (chars prefix) ≡ None
    → ((q : List ℕ) → parts_at new.waiting q ≡ (if bytes_eq prefix q then parts_at old.waiting q ++ part ∷ [] else parts_at old.waiting q))
    → IsResolved old scope names → IsResolved new scope (names ++ Prefixed (chars prefix) part ∷ [])
add_unfound old new scope names prefix part pairs clash utf8 none step kept =
    add_none old new scope names (Prefixed (chars prefix) part) pairs clash
    (λ a b. ap (λ o. bytes_eq part b && same_found o (Some a)) none ∙ and_none (bytes_eq part b))
    (unfound_alone scope (chars prefix) part none)
    (λ q u. step q
    ∙ (ap (λ b. if b then parts_at old.waiting q ++ part ∷ [] else parts_at old.waiting q) (sym (same_chars prefix q utf8 u))
    ∙ (ap (λ l. if bytes_eq (chars prefix) (chars q) then l ++ part ∷ [] else l) (kept.waiting q u)
    ∙ left_waits (found scope (chars q)) (chars prefix) (chars q) names part (bytes_eq (chars prefix) (chars q)) refl
    (same_found_of scope (chars prefix) (chars q) None none))))
    kept

taken : (n p h : Bool) → (if n && p then true else h) ≡ (h || ((p && n) || false))
taken true true true = refl
taken true true false = refl
taken true false true = refl
taken true false false = refl
taken false true true = refl
taken false true false = refl
taken false false true = refl
taken false false false = refl

same_in : (scope : List Binding) (prefix part namespace : List ℕ) → found scope prefix ≡ Some namespace
    → (other : Name) → is_in scope namespace part other ≡ same_expanded scope other (Prefixed prefix part)
same_in scope prefix part namespace is (Plain name) = refl
same_in scope prefix part namespace is (Prefixed before name) = ap (λ o. bytes_eq name part && same_found (found scope before) o) (sym is)

-- the test of a name, where its prefix is found
pub any_in : (scope : List Binding) (prefix part namespace : List ℕ) → found scope prefix ≡ Some namespace → (names : List Name)
    → list_any (is_in scope namespace part) names ≡ list_any (λ other. same_expanded scope other (Prefixed prefix part)) names
any_in scope prefix part namespace is names =
    any_alike (is_in scope namespace part) (λ other. same_expanded scope other (Prefixed prefix part)) (same_in scope prefix part namespace is) names

-- one name more whose prefix is found
pub add_found : (old new : Resolved) (scope : List Binding) (names : List Name) (prefix namespace part : List ℕ) → IsUtf8 namespace → IsUtf8 part
    → found scope prefix ≡ Some (chars namespace)
    → ((a b : List ℕ) → has_pair new.pairs a b ≡ (if bytes_eq namespace a && bytes_eq part b then true else has_pair old.pairs a b))
    → new.waiting ≡ old.waiting
    → new.clash ≡ (old.clash || has_pair old.pairs namespace part)
    → IsResolved old scope names → IsResolved new scope (names ++ Prefixed prefix (chars part) ∷ [])
add_found old new scope names prefix namespace part nu pu is pairs waiting clash kept = record {
  pairs = λ a b u v.
      pairs a b
      ∙ (ap (λ h. if bytes_eq namespace a && bytes_eq part b then true else h) (kept.pairs a b u v)
      ∙ (taken (bytes_eq namespace a) (bytes_eq part b) (list_any (is_in scope (chars a) (chars b)) names)
      ∙ sym (list_any-append (is_in scope (chars a) (chars b)) names (Prefixed prefix (chars part) ∷ [])
      ∙ (ap (λ o. list_any (is_in scope (chars a) (chars b)) names || ((bytes_eq (chars part) (chars b) && same_found o (Some (chars a))) || false)) is
      ∙ (ap (λ t. list_any (is_in scope (chars a) (chars b)) names || ((t && bytes_eq (chars namespace) (chars a)) || false)) (same_chars part b pu v)
      ∙ ap (λ t. list_any (is_in scope (chars a) (chars b)) names || ((bytes_eq part b && t) || false)) (same_chars namespace a nu u))))));
  waiting = λ q u.
      ap (λ w. parts_at w q) waiting
      ∙ (kept.waiting q u
      ∙ left_found (found scope (chars q)) prefix (chars q) names (chars part) (chars namespace) (bytes_eq prefix (chars q)) refl
      (same_found_of scope prefix (chars q) (Some (chars namespace)) is));
  clash =
      clash
      ∙ (ap (λ b. b || has_pair old.pairs namespace part) kept.clash
      ∙ (ap (λ b. have_same (same_expanded scope) names || b)
      (kept.pairs namespace part nu pu ∙ any_in scope prefix (chars part) (chars namespace) is names)
      ∙ sym (same_behind (same_expanded scope) names (Prefixed prefix (chars part)))));
}

-- a test that no name passes
pub none_plain : (scope : List Binding) (part : List ℕ) (names : List Name) → list_any (λ other. same_expanded scope other (Plain part)) names ≡ false
none_plain scope part names = any_none (λ other. same_expanded scope other (Plain part)) (plain_alone scope part) names

pub none_unfound : (scope : List Binding) (prefix part : List ℕ) → found scope prefix ≡ None → (names : List Name)
    → list_any (λ other. same_expanded scope other (Prefixed prefix part)) names ≡ false
none_unfound scope prefix part none names =
    any_none (λ other. same_expanded scope other (Prefixed prefix part)) (unfound_alone scope prefix part none) names
