-- What the builds of patterns tell of those that were refused.
use Rattle.std.proofs.Common.{◌≡◌, refl, sym, ap, subst, ◌∙◌, ℕ, zero, suc, ◌+◌, ◌-◌, ◌^◌, ◌<◌, ◌≤◌, List, [], ◌∷◌, ◌≢◌, Bool, true, false, IsTrue, if◌then◌else◌, inl, inr, arith, min}
use Rattle.std.proofs.Math.Nat.{min-le_left, min-le_right, min-eq_left, min-eq_right}
use Rattle.dfdl_edge.specs.Faults.{Rose}
use Rattle.dfdl_documents.specs.Documents.{SchemaDocument}
use Rattle.dfdl_components.specs.declared.site.Site.{Site}
use Rattle.dfdl_components.specs.Globals.{site}
use Rattle.dfdl_components.specs.Recursion.{count_of, number_of}
use Rattle.dfdl_components.specs.Sites.{IsSite, role_of}
use Rattle.dfdl_checks.specs.declared.purpose.Purpose.{Purpose}
use Rattle.dfdl_checks.specs.declared.purpose.Purpose.TheVariants.{Unparsing}
use Rattle.dfdl_chains.specs.Everywhere.{site_at}
use Rattle.dfdl_chains.specs.Parts.{is_component}
use Rattle.dfdl_breaches.proofs.Numbering.{at-number, below-or, either, number-below, numbered}
use Rattle.dfdl_breaches.specs.Builds.{AreAllBuilt, AreBuilt, IsBuilt, IsOneRefused, PatternsSeen, patterns_at}

-- a count that rose from a greater one rose
rose_from : (a b c : ℕ) → a ≤ b → Rose b c → Rose a c
rose_from a b c less rose = elim (either (2 ^ 64 - 2) b) [
  | inl large ↦
      let most : min (b + 1) (2 ^ 64 - 1) ≡ 2 ^ 64 - 1 = min-eq_right (omega (arith, large)) in
      let low : min (a + 1) (2 ^ 64 - 1) ≤ 2 ^ 64 - 1 = min-le_right (a + 1) (2 ^ 64 - 1) in
      omega (arith, rose, most, low)
  | inr small ↦
      let more : min (b + 1) (2 ^ 64 - 1) ≡ b + 1 = min-eq_left (omega (arith, small)) in
      let low : min (a + 1) (2 ^ 64 - 1) ≤ a + 1 = min-le_left (a + 1) (2 ^ 64 - 1) in
      omega (arith, rose, more, low, less)
]

-- the count falls at no build
one_later : (patterns : List (List ℕ)) (s t : PatternsSeen) → IsOneRefused patterns s t → s.faults ≤ t.faults
one_later [] s t refused = absurd refused
one_later (text ∷ others) s t (inl refused) = refused.later
one_later (text ∷ others) s t (inr refused) = one_later others s t refused

build_later : (patterns : List (List ℕ)) (b : Bool) (s t : PatternsSeen) → IsBuilt patterns b s t → s.faults ≤ t.faults
build_later patterns true s t built = one_later patterns s t built
build_later patterns false s t is = subst (λ (u : PatternsSeen). s.faults ≤ u.faults) (sym is) (omega arith)

-- a refused build is that of a pattern
build_told : (patterns : List (List ℕ)) (s t : PatternsSeen) → IsBuilt patterns true s t → patterns ≢ []
build_told [] s t built = absurd built
build_told (text ∷ others) s t built = λ is. absurd (cc)

build_rose : (patterns : List (List ℕ)) (s t : PatternsSeen) → IsBuilt patterns true s t → Rose s.faults t.faults
build_rose [] s t built = absurd built
build_rose (text ∷ others) s t (inl refused) = refused.rose
build_rose (text ∷ others) s t (inr refused) = build_rose others s t refused

-- nothing is built where there is no pattern
build_none : (patterns : List (List ℕ)) (b : Bool) (s t : PatternsSeen) → patterns ≡ [] → IsBuilt patterns b s t → t ≡ s
build_none patterns false s t is built = built
build_none [] true s t is built = absurd built
build_none (text ∷ others) true s t is built = absurd (cc)

module _ (purpose : Purpose) (refused : Site → Bool) (documents : List SchemaDocument) where
  pub later : (n : ℕ) (old new : PatternsSeen) → AreBuilt purpose refused documents n old new → old.faults ≤ new.faults
  later zero old new is = subst (λ (u : PatternsSeen). old.faults ≤ u.faults) (sym is) (omega arith)
  later (suc n) old new (between, first, last) =
      let one = later n old between first in
      let other = build_later (patterns_at purpose documents (site_at documents n)) (refused (site_at documents n)) between new last in
      omega (arith, one, other)

  -- what is refused among the first elements has a pattern, and the count rose
  refused_told : (n k : ℕ) (old new : PatternsSeen) → AreBuilt purpose refused documents n old new → k < n → refused (site_at documents k) ≡ true
      → (patterns_at purpose documents (site_at documents k) ≢ []) × Rose old.faults new.faults
  refused_told zero k old new built less is = absurd (omega (arith, less))
  refused_told (suc n) k old new (between, first, last) less is = elim (below-or k n (omega (arith, less))) [
    | inl before ↦
        let told = refused_told n k old between first before is in
        let after = build_later (patterns_at purpose documents (site_at documents n)) (refused (site_at documents n)) between new last in
        (told.0, omega (arith, told.1, after))
    | inr same ↦
        let built : IsBuilt (patterns_at purpose documents (site_at documents k)) true between new =
        subst (λ (b : Bool). IsBuilt (patterns_at purpose documents (site_at documents k)) b between new) is
        (subst (λ (m : ℕ). IsBuilt (patterns_at purpose documents (site_at documents m)) (refused (site_at documents m)) between new) (sym same) last) in (
          build_told (patterns_at purpose documents (site_at documents k)) between new built,
          rose_from old.faults between.faults new.faults (later n old between first)
              (build_rose (patterns_at purpose documents (site_at documents k)) between new built),
        )
  ]

  -- the same of an element of the documents
  at_element : (old new : PatternsSeen) (own : Site) → AreAllBuilt purpose refused documents old new → IsSite documents own → IsTrue (refused own)
      → (patterns_at purpose documents own ≢ []) × Rose old.faults new.faults
  at_element old new own built is told =
      let at : site_at documents (number_of documents own) ≡ own = at-number documents own (site 0 0) is in
      let found = refused_told (count_of documents) (number_of documents own) old new built (number-below documents own is)
      (subst (λ (s : Site). refused s ≡ true) (sym at) told) in
      (subst (λ (s : Site). patterns_at purpose documents s ≢ []) at found.0, found.1)

  pub has_pattern : (old new : PatternsSeen) (own : Site) → AreAllBuilt purpose refused documents old new → IsSite documents own
      → IsTrue (refused own) → (patterns_at purpose documents own ≢ [])
  has_pattern old new own built is told = (at_element old new own built is told).0

  pub rises : (old new : PatternsSeen) (own : Site) → AreAllBuilt purpose refused documents old new → IsSite documents own
      → IsTrue (refused own) → Rose old.faults new.faults
  rises old new own built is told = (at_element old new own built is told).1

  -- where nothing among the first elements is refused, it is left as it was
  none_refused : (n : ℕ) (old new : PatternsSeen) → AreBuilt purpose refused documents n old new
      → ((k : ℕ) → k < n → refused (site_at documents k) ≡ false) → new ≡ old
  none_refused zero old new is none = is
  none_refused (suc n) old new (between, first, last) none =
      subst (λ (b : Bool). IsBuilt (patterns_at purpose documents (site_at documents n)) b between new) (none n (omega arith)) last
      ∙ none_refused n old between first (λ k less. none k (omega (arith, less)))

  pub still : (old new : PatternsSeen) → AreAllBuilt purpose refused documents old new
      → ((own : Site) → IsSite documents own → refused own ≡ false) → new ≡ old
  still old new built none =
      none_refused (count_of documents) old new built (λ k low.
      let there = numbered documents k low in
      subst (λ (s : Site). refused s ≡ false)
      (sym (ap (site_at documents) (sym there.number) ∙ at-number documents there.own (site 0 0) there.is)) (none there.own there.is))

  -- and so it is where no element has a pattern
  pub no_patterns : (n : ℕ) (old new : PatternsSeen) → AreBuilt purpose refused documents n old new
      → ((own : Site) → patterns_at purpose documents own ≡ []) → new ≡ old
  no_patterns zero old new is none = is
  no_patterns (suc n) old new (between, first, last) none =
      build_none (patterns_at purpose documents (site_at documents n)) (refused (site_at documents n)) between new (none (site_at documents n)) last
      ∙ no_patterns n old between first none

-- nothing is built for unparsing
none_unparsed : (documents : List SchemaDocument) (own : Site) → patterns_at Unparsing documents own ≡ []
none_unparsed documents own = by (is_component (role_of documents own))
  where
    by : (b : Bool) → (let patterns : List (List ℕ) = (if b then [] else []) in patterns) ≡ []
    by true = refl
    by false = refl

pub unparsed : (refused : Site → Bool) (documents : List SchemaDocument) (old new : PatternsSeen) → AreAllBuilt Unparsing refused documents old new
    → new ≡ old
unparsed refused documents old new built = no_patterns Unparsing refused documents (count_of documents) old new built (none_unparsed documents)
