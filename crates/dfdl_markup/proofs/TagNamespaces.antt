-- Names by the namespaces that are found, when one more prefix is bound.
use Rattle.std.proofs.Common.{◌≡◌, ℕ, ◌<◌, ◌&&◌, Bool, true, false, List, [], ◌∷◌, ◌++◌, length}
use Rattle.std.proofs.Common.{Option, Some, None, refl, ap, sym, ◌∙◌, arith, if◌then◌else◌}
use Rattle.std.proofs.lemmas.Bool.{and_parts, and_from, or_parts, or_from}
use Rattle.std.proofs.lemmas.Bool.{false_from_ne_true, true≢false}
use Rattle.std.proofs.lemmas.Slice.Eq.{bytes_eq-Decides}
use Rattle.std.specs.List.{list_any}
use Rattle.std.specs.Str.{bytes_eq}
use Rattle.dfdl_layers.specs.Tellers.{Each}
use Rattle.dfdl_markup.specs.Grammar.{Name, Plain, Prefixed}
use Rattle.dfdl_markup.specs.Values.{same_name, Binding, found, same_found, same_expanded}
use Rattle.dfdl_markup.specs.Values.{have_same}
use Rattle.dfdl_markup.specs.Values.{is_some_text, is_found}

-- a text that is there is one alone
pub some_is : (a b : List ℕ) → Some a ≡ Some b → a ≡ b
some_is a b e = cc

-- two texts are alike where they are one

pub alike : (a b : List ℕ) → bytes_eq a b ≡ true → a ≡ b
alike a b is = (bytes_eq-Decides a b).0 is

pub alike_of : (a b : List ℕ) → a ≡ b → bytes_eq a b ≡ true
alike_of a b is = (bytes_eq-Decides a b).1 is

pub unlike : (a b : List ℕ) → (a ≡ b → ⊥) → bytes_eq a b ≡ false
unlike a b apart = false_from_ne_true (bytes_eq a b) (λ is. apart (alike a b is))

pub unlike_longer : (a b : List ℕ) → length a < length b → bytes_eq a b ≡ false
unlike_longer a b less = unlike a b
    (λ is. absurd (let same : length a ≡ length b = ap length is in omega (arith, same, less)))

-- no two are alike, where another name comes to the names

pub list_any_push : {A : Type 0} (test : A → Bool) (names : List A) (name : A)
    → list_any test names ≡ false → test name ≡ false → list_any test (names ++ name ∷ []) ≡ false
list_any_push test [] name none last = or_from (test name) false last refl
list_any_push test (m ∷ names) name none last =
    let parts = or_parts (test m) (list_any test names) none in
    or_from (test m) (list_any test (names ++ name ∷ [])) parts.0
    (list_any_push test names name parts.1 last)

pub have_same_push : (same : Name → Name → Bool) (names : List Name) (name : Name)
    → have_same same names ≡ false → list_any (λ other. same other name) names ≡ false
    → have_same same (names ++ name ∷ []) ≡ false
have_same_push same [] name none new = refl
have_same_push same (m ∷ names) name none new =
    let parts = or_parts (list_any (same m) names) (have_same same names) none in
    let news = or_parts (same m name) (list_any (λ other. same other name) names) new in
    or_from (list_any (same m) (names ++ name ∷ [])) (have_same same (names ++ name ∷ []))
    (list_any_push (same m) names name parts.0 news.0)
    (have_same_push same names name parts.1 news.1)

-- no two are alike by a test that follows from two others

module _ (P : Name → Type 0) (a b same : Name → Name → Bool)
    (follows : (x y : Name) → P x → P y → a x y ≡ false → b x y ≡ false → same x y ≡ false) where
  none_like : (x : Name) (names : List Name) → P x → Each P names → list_any (a x) names ≡ false
      → list_any (b x) names ≡ false → list_any (same x) names ≡ false
  none_like x [] px each first second = refl
  none_like x (y ∷ names) px each first second =
      let firsts = or_parts (a x y) (list_any (a x) names) first in
      let seconds = or_parts (b x y) (list_any (b x) names) second in
      or_from (same x y) (list_any (same x) names)
      (follows x y px each.0 firsts.0 seconds.0)
      (none_like x names px each.1 firsts.1 seconds.1)

  pub none_like_last : (names : List Name) (y : Name) → Each P names → P y
      → list_any (λ x. a x y) names ≡ false → list_any (λ x. b x y) names ≡ false
      → list_any (λ x. same x y) names ≡ false
  none_like_last [] y each py first second = refl
  none_like_last (x ∷ names) y each py first second =
      let firsts = or_parts (a x y) (list_any (λ z. a z y) names) first in
      let seconds = or_parts (b x y) (list_any (λ z. b z y) names) second in
      or_from (same x y) (list_any (λ z. same z y) names)
      (follows x y each.0 py firsts.0 seconds.0)
      (none_like_last names y each.1 py firsts.1 seconds.1)

  pub none_same : (names : List Name) → Each P names → have_same a names ≡ false
      → have_same b names ≡ false → have_same same names ≡ false
  none_same [] each first second = refl
  none_same (x ∷ names) each first second =
      let firsts = or_parts (list_any (a x) names) (have_same a names) first in
      let seconds = or_parts (list_any (b x) names) (have_same b names) second in
      or_from (list_any (same x) names) (have_same same names)
      (none_like x names each.0 each.1 firsts.0 seconds.0)
      (none_same names each.1 firsts.1 seconds.1)

-- what is found in more bindings

abbrev pub or_found : Option (List ℕ) → Option (List ℕ) → Option (List ℕ)
or_found (Some text) other = Some text
or_found None other = other

found_step : (test : Bool) (text : List ℕ) (o rest whole : Option (List ℕ)) → whole ≡ or_found o
    rest
    → (if test then Some text else whole) ≡ or_found (if test then Some text else o) rest
found_step true text o rest whole is = refl
found_step false text o rest whole is = is

pub found_append : (bindings more : List Binding) (prefix : List ℕ)
    → found (bindings ++ more) prefix ≡ or_found (found bindings prefix) (found more prefix)
found_append [] more prefix = refl
found_append (binding ∷ bindings) more prefix =
    found_step (bytes_eq binding.prefix prefix) binding.namespace (found bindings prefix)
    (found more prefix) (found (bindings ++ more) prefix) (found_append bindings more prefix)

some_kept : (o rest : Option (List ℕ)) → is_some_text o ≡ true → is_some_text (or_found o rest)
    ≡ true
some_kept (Some text) rest is = refl
some_kept None rest is = absurd (cc)

some_added : (o rest : Option (List ℕ)) → is_some_text rest ≡ true → is_some_text (or_found o rest)
    ≡ true
some_added (Some text) rest is = refl
some_added None rest is = is

-- what is found stays found
pub found_kept : (bindings more : List Binding) (prefix : List ℕ)
    → is_some_text (found bindings prefix) ≡ true
    → is_some_text (found (bindings ++ more) prefix) ≡ true
found_kept bindings more prefix is =
    ap is_some_text (found_append bindings more prefix)
    ∙ some_kept (found bindings prefix) (found more prefix) is

pub found_added : (bindings : List Binding) (binding : Binding)
    → is_some_text (found (bindings ++ binding ∷ []) binding.prefix) ≡ true
found_added bindings binding =
    ap is_some_text (found_append bindings (binding ∷ []) binding.prefix)
    ∙ some_added (found bindings binding.prefix) (found (binding ∷ []) binding.prefix)
    (ap (λ (b : Bool). is_some_text (if b then Some binding.namespace else None))
    (alike_of binding.prefix binding.prefix refl))

pub is_found_kept : (bindings more : List Binding) (name : Name) → is_found bindings name ≡ true
    → is_found (bindings ++ more) name ≡ true
is_found_kept bindings more (Plain part) is = refl
is_found_kept bindings more (Prefixed prefix part) is = found_kept bindings more prefix is

found_same : (o rest : Option (List ℕ)) → is_some_text o ≡ true → or_found o rest ≡ o
found_same (Some text) rest is = refl
found_same None rest is = absurd (cc)

-- names whose prefixes are found stay different in more bindings
pub wider_pair : (bindings scope : List Binding) (x y : Name) → is_found bindings x ≡ true
    → is_found bindings y ≡ true → same_expanded bindings x y ≡ false → same_name x y ≡ false
    → same_expanded (bindings ++ scope) x y ≡ false
wider_pair bindings scope (Plain a) (Plain b) fx fy is written = refl
wider_pair bindings scope (Plain a) (Prefixed r b) fx fy is written = refl
wider_pair bindings scope (Prefixed q a) (Plain b) fx fy is written = refl
wider_pair bindings scope (Prefixed q a) (Prefixed r b) fx fy is written =
    let first : found (bindings ++ scope) q ≡ found bindings q =
    found_append bindings scope q ∙ found_same (found bindings q) (found scope q) fx in
    let second : found (bindings ++ scope) r ≡ found bindings r =
    found_append bindings scope r ∙ found_same (found bindings r) (found scope r) fy in
    ap (λ o. bytes_eq a b && same_found o (found (bindings ++ scope) r)) first
    ∙ (ap (λ o. bytes_eq a b && same_found (found bindings q) o) second ∙ is)

-- no binding has the namespace, but of this prefix
abbrev pub IsNewBinding : List ℕ → List ℕ → Binding → Type 0
IsNewBinding prefix namespace binding = binding.namespace ≡ namespace → binding.prefix ≡ prefix

found_new_step : (p u q v : List ℕ) (binding : Binding) (test : Bool) (o : Option (List ℕ))
    → bytes_eq binding.prefix q ≡ test → (if test then Some binding.namespace else o) ≡ Some v
    → IsNewBinding p u binding → (o ≡ Some v → q ≡ p) → v ≡ u → q ≡ p
found_new_step p u q v binding true o tested is new others same =
    sym (alike binding.prefix q tested) ∙ new (some_is binding.namespace v is ∙ same)
found_new_step p u q v binding false o tested is new others same = others is

pub found_new : (p u q v : List ℕ) (bindings : List Binding) → found bindings q ≡ Some v
    → Each (IsNewBinding p u) bindings → v ≡ u → q ≡ p
found_new p u q v [] is new same = absurd (cc)
found_new p u q v (binding ∷ bindings) is new same =
    found_new_step p u q v binding (bytes_eq binding.prefix q) (found bindings q) refl is new.0
    (λ rest. found_new p u q v bindings rest new.1 same) same

module _ (p u : List ℕ) (bindings : List Binding) (new : Each (IsNewBinding p u) bindings) where
  -- the bindings with one more
  abbrev pub bound : List Binding
  bound = bindings ++ record { prefix = p; namespace = u } ∷ []

  one_of : (q r v : List ℕ) (t : Bool) → bytes_eq p r ≡ t → found bindings q ≡ Some v
      → found bindings r ≡ None → same_found (Some v) (if t then Some u else None) ≡ true → ⊥
  one_of q r v true tested some none is =
      let qp : q ≡ p = found_new p u q v bindings some new (alike v u is) in
      let qr : q ≡ r = qp ∙ alike p r tested in
      no_text v (sym some ∙ (ap (found bindings) qr ∙ none))
    where
      no_text : (w : List ℕ) → Some w ≡ None → ⊥
      no_text w e = cc
  one_of q r v false tested some none is = absurd (cc)

  flipped : (a b : List ℕ) → bytes_eq a b ≡ true → bytes_eq b a ≡ true
  flipped a b is = alike_of b a (sym (alike a b is))

  flip_found : (w : List ℕ) (o : Option (List ℕ)) → same_found o (Some w) ≡ true → same_found
      (Some w) o ≡ true
  flip_found w (Some v) is = flipped v w is
  flip_found w None is = absurd (cc)

  both_new : (q r : List ℕ) (s t : Bool) → bytes_eq p q ≡ s → bytes_eq p r ≡ t
      → same_found (if s then Some u else None) (if t then Some u else None) ≡ true → q ≡ r
  both_new q r true true first second is = sym (alike p q first) ∙ alike p r second
  both_new q r true false first second is = absurd (cc)
  both_new q r false true first second is = absurd (cc)
  both_new q r false false first second is = absurd (cc)

  new_pair_by : (q a r b : List ℕ) (oq os : Option (List ℕ)) → found bindings q ≡ oq
      → found bindings r ≡ os → (bytes_eq a b && same_found oq os) ≡ false
      → same_name (Prefixed q a) (Prefixed r b) ≡ false → bytes_eq a b ≡ true
      → same_found (or_found oq (if bytes_eq p q then Some u else None))
      (or_found os (if bytes_eq p r then Some u else None)) ≡ true → ⊥
  new_pair_by q a r b (Some v) (Some w) first second expanded written parts is =
      true≢false (sym (and_from (bytes_eq a b) (bytes_eq v w) parts is) ∙ expanded)
  new_pair_by q a r b (Some v) None first second expanded written parts is =
      one_of q r v (bytes_eq p r) refl first second is
  new_pair_by q a r b None (Some w) first second expanded written parts is =
      one_of r q w (bytes_eq p q) refl second first
      (flip_found w (if bytes_eq p q then Some u else None) is)
  new_pair_by q a r b None None first second expanded written parts is =
      let qr : q ≡ r = both_new q r (bytes_eq p q) (bytes_eq p r) refl refl is in
      true≢false (sym (alike_of (q ++ 58 ∷ a) (r ++ 58 ∷ b)
      (ap (λ l. l ++ 58 ∷ a) qr ∙ ap (λ l. r ++ 58 ∷ l) (alike a b parts))) ∙ written)

  -- names that are different stay so, where a prefix is bound to a new namespace
  pub new_pair : (x y : Name) → same_expanded bindings x y ≡ false → same_name x y ≡ false
      → same_expanded bound x y ≡ false
  new_pair (Plain a) (Plain b) expanded written = refl
  new_pair (Plain a) (Prefixed r b) expanded written = refl
  new_pair (Prefixed q a) (Plain b) expanded written = refl
  new_pair (Prefixed q a) (Prefixed r b) expanded written =
      false_from_ne_true (same_expanded bound (Prefixed q a) (Prefixed r b)) (λ is. (
      let parts = and_parts (bytes_eq a b) (same_found (found bound q) (found bound r)) is in
      new_pair_by q a r b (found bindings q) (found bindings r) refl refl expanded written parts.0
      (sym (ap (λ o. same_found o (found bound r))
      (found_append bindings (record { prefix = p; namespace = u } ∷ []) q)
      ∙ ap (λ o. same_found (or_found (found bindings q) (if bytes_eq p q then Some u else None)) o)
      (found_append bindings (record { prefix = p; namespace = u } ∷ []) r))
      ∙ parts.1)))
