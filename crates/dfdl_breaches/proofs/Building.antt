-- The builds of patterns, element by element.
use Rattle.std.proofs.Common.{◌≡◌, refl, sym, ap, subst, ◌∙◌, ℕ, zero, suc, ◌+◌, ◌<◌, ◌≤◌, List, [], ◌∷◌, ◌++◌, length, get_or, take, map, Bool, true, false, if◌then◌else◌, arith, IfOk, IfErr, Result, Ok, Err, nat_eq}
use Rattle.std.proofs.Math.Seq.{take-length, take-suc}
use Rattle.std.proofs.lemmas.Bool.{eq-eqb, eqb-true}
use Rattle.std.proofs.lemmas.List.{get_or_default, map-append}
use Rattle.dfdl_documents.specs.Documents.{SchemaDocument}
use Rattle.dfdl_components.specs.declared.site.Site.{Site}
use Rattle.dfdl_components.specs.Globals.{site}
use Rattle.dfdl_components.specs.Recursion.{count_of, number_of}
use Rattle.dfdl_components.specs.Sites.{role_of}
use Rattle.dfdl_checks.specs.Tests.{patterns_of}
use Rattle.dfdl_checks.specs.declared.purpose.Purpose.{Purpose}
use Rattle.dfdl_chains.specs.Everywhere.{all_sites, site_at}
use Rattle.dfdl_chains.specs.Parts.{is_component}
use Rattle.dfdl_breaches.proofs.Numbering.{at-number, length-sites, numbered}
use Rattle.dfdl_breaches.specs.Builds.{AreAllBuilt, AreBuilt, AreBuiltInPart, AreJudged, IsBuilt, PatternsSeen, always, never, patterns_at}
use Rattle.dfdl_breaches.specs.BuildsShown.{IsToldBy}
use Rattle.dfdl_breaches.specs.Judging.{built_settings_at, hidden_at, judged_at, judgement_at, no_judgement}
use Rattle.dfdl_breaches.specs.JudgementShown.{judgement_of}
use Rattle.dfdl_breaches.specs.declared.judgement.Judgement.{Judgement}

-- a builder that was left as it was
pub same_seen : (a b : PatternsSeen) → a.faults ≡ b.faults → a.last ≡ b.last → a ≡ b
same_seen a b faults last = λ i. record { faults = faults i; last = last i }

-- what is told of an element is told by the answer of its own build alone
pub told_by_own : (purpose : Purpose) (refused : Site → Bool) (documents : List SchemaDocument) (own : Site) (b : Bool) → refused own ≡ b
    → judgement_at purpose (always b) documents own ≡ judgement_at purpose refused documents own
unfolding judgement_at
told_by_own purpose refused documents own b is =
    ap (λ (c : Bool). judgement_at purpose (always c) documents own) (sym is)

-- what holds is told at an error too
pub err_part : {T E : Type 0} (r : Result T E) (X : Type 0) → X → IfErr r (λ _. X)
err_part (Ok t) X x = tt
err_part (Err e) X x = x

-- nothing is told of what is no component, and nothing is built
pub not_component : (purpose : Purpose) (documents : List SchemaDocument) (own : Site) (seen : PatternsSeen) (g : Judgement)
    → is_component (role_of documents own) ≡ false → g ≡ no_judgement
    → (b : Bool) × IsBuilt (patterns_at purpose documents own) b seen seen × (g ≡ judgement_at purpose (always b) documents own)
unfolding judgement_at
not_component purpose documents own seen g is told = (
  false,
  refl,
  subst (λ (c : Bool). g ≡ (if c then judgement_of (hidden_at purpose documents own) (built_settings_at purpose documents own) (judged_at purpose (always false) documents own) else no_judgement)) (sym is) told,
)

pub of_component : {E : Type 0} (purpose : Purpose) (documents : List SchemaDocument) (own : Site) (old new : PatternsSeen) (r : Result Judgement E)
    → is_component (role_of documents own) ≡ true
    → IsToldBy (patterns_of (judged_at purpose never documents own)) (λ (b : Bool). judgement_of (hidden_at purpose documents own) (built_settings_at purpose documents own) (judged_at purpose (always b) documents own)) old new r
    → IsToldBy (patterns_at purpose documents own) (λ (b : Bool). judgement_at purpose (always b) documents own) old new r
unfolding judgement_at
of_component purpose documents own old new r is told = (
  told.0,
  subst (λ (c : Bool). IsBuilt (if c then patterns_of (judged_at purpose never documents own) else []) told.0 old new) (sym is) told.1,
  subst (λ (c : Bool). IfOk r (λ g. g ≡ (if c then judgement_of (hidden_at purpose documents own) (built_settings_at purpose documents own) (judged_at purpose (always told.0) documents own) else no_judgement))) (sym is) told.2,
)

-- lists that are made of equal elements
same_each : {X Y : Type 0} (f g : X → Y) (xs : List X) (d : X) (n : ℕ) → n ≤ length xs → ((k : ℕ) → k < n → f (get_or xs k d) ≡ g (get_or xs k d))
    → map f (take n xs) ≡ map g (take n xs)
same_each f g xs d zero few same = refl
same_each {X} {Y} f g xs d (suc n) few same =
    by f (take-suc xs n d (omega (arith, few)))
    ∙ ((λ i. same_each f g xs d n (omega (arith, few)) (λ k less. same k (omega (arith, less))) i ++ same n (omega arith) i ∷ [])
    ∙ sym (by g (take-suc xs n d (omega (arith, few)))))
  where
    by : (h : X → Y) → take (suc n) xs ≡ take n xs ++ get_or xs n d ∷ [] → map h (take (suc n) xs) ≡ map h (take n xs) ++ h (get_or xs n d) ∷ []
    by h is = ap (map h) is ∙ map-append h (take n xs) (get_or xs n d ∷ [])

module _ (purpose : Purpose) (documents : List SchemaDocument) where
  -- the number of the element that stands there
  number_there : (k : ℕ) → k < count_of documents → number_of documents (site_at documents k) ≡ k
  number_there k low =
      let there = numbered documents k low in
      ap (λ (n : ℕ). number_of documents (site_at documents n)) (sym there.number)
      ∙ (ap (number_of documents) (at-number documents there.own (site 0 0) there.is) ∙ there.number)

  -- the same elements, and with another answer for that of a number
  with_answer : (Site → Bool) → ℕ → Bool → Site → Bool
  with_answer refused n b own = if nat_eq (number_of documents own) n then b else refused own

  there : (refused : Site → Bool) (n : ℕ) (b : Bool) → n < count_of documents → with_answer refused n b (site_at documents n) ≡ b
  unfolding with_answer
  there refused n b low =
      ap (λ (c : Bool). if c then b else refused (site_at documents n)) (eq-eqb (number_of documents (site_at documents n)) n (number_there n low))

  before : (refused : Site → Bool) (n : ℕ) (b : Bool) (k : ℕ) → k < n → n < count_of documents
      → with_answer refused n b (site_at documents k) ≡ refused (site_at documents k)
  unfolding with_answer
  before refused n b k less low = by (nat_eq (number_of documents (site_at documents k)) n) refl
    where
      by : (c : Bool) → nat_eq (number_of documents (site_at documents k)) n ≡ c
          → (if c then b else refused (site_at documents k)) ≡ refused (site_at documents k)
      by false is = refl
      by true is =
          let same : number_of documents (site_at documents k) ≡ n = eqb-true (number_of documents (site_at documents k)) n is in
          let at : number_of documents (site_at documents k) ≡ k = number_there k (omega (arith, less, low)) in
          absurd (omega (arith, same, at, less))

  -- builds of the first elements, whose answers are the same
  as_before : (refused : Site → Bool) (n : ℕ) (b : Bool) → n < count_of documents → (k : ℕ) → k ≤ n → (old new : PatternsSeen)
      → AreBuilt purpose refused documents k old new → AreBuilt purpose (with_answer refused n b) documents k old new
  as_before refused n b low zero few old new built = built
  as_before refused n b low (suc k) few old new (between, first, last) = (
    between,
    as_before refused n b low k (omega (arith, few)) old between first,
    subst (λ (c : Bool). IsBuilt (patterns_at purpose documents (site_at documents k)) c between new)
        (sym (before refused n b k (omega (arith, few)) low)) last,
  )

  -- one more build
  one_more_built : (refused : Site → Bool) (n : ℕ) (b : Bool) (old between new : PatternsSeen) → n < count_of documents
      → AreBuilt purpose refused documents n old between → IsBuilt (patterns_at purpose documents (site_at documents n)) b between new
      → AreBuilt purpose (with_answer refused n b) documents (suc n) old new
  one_more_built refused n b old between new low first last = (
    between,
    as_before refused n b low n (omega arith) old between first,
    subst (λ (c : Bool). IsBuilt (patterns_at purpose documents (site_at documents n)) c between new) (sym (there refused n b low)) last,
  )

  -- this is told of the first elements, by the builds of their patterns
  pub record AreFirst (n : ℕ) (old new : PatternsSeen) (judgements : List Judgement) : Type 0 where
    pub refused : Site → Bool
    pub built : AreBuilt purpose refused documents n old new
    pub told : judgements ≡ map (judgement_at purpose refused documents) (take n (all_sites documents))

  -- nothing is told yet
  pub none_first : (seen : PatternsSeen) (judgements : List Judgement) → judgements ≡ [] → AreFirst 0 seen seen judgements
  none_first seen judgements is = record { refused = never; built = refl; told = is }

  -- one more element
  next_told : (n : ℕ) (b : Bool) (old between : PatternsSeen) (judgements : List Judgement) → n < count_of documents
      → (first : AreFirst n old between judgements) → (now : List Judgement)
      → now ≡ judgements ++ judgement_at purpose (always b) documents (site_at documents n) ∷ []
      → now ≡ map (judgement_at purpose (with_answer first.refused n b) documents) (take (suc n) (all_sites documents))
  next_told n b old between judgements low first now is =
      let f = judgement_at purpose (with_answer first.refused n b) documents in
      let long : length (all_sites documents) ≡ count_of documents = length-sites documents in
      let own : Site = site_at documents n in
      let here : judgement_at purpose (always b) documents own ≡ judgement_at purpose (with_answer first.refused n b) documents own =
      told_by_own purpose (with_answer first.refused n b) documents own b (there first.refused n b low) in
      let earlier : map (judgement_at purpose first.refused documents) (take n (all_sites documents))
      ≡ map (judgement_at purpose (with_answer first.refused n b) documents) (take n (all_sites documents)) =
      same_each (judgement_at purpose first.refused documents) (judgement_at purpose (with_answer first.refused n b) documents) (all_sites documents) (site 0 0) n
      (omega (arith, low, long)) (λ k less.
      sym (told_by_own purpose first.refused documents (site_at documents k) (first.refused (site_at documents k)) refl)
      ∙ told_by_own purpose (with_answer first.refused n b) documents (site_at documents k) (first.refused (site_at documents k))
      (before first.refused n b k less low)) in
      is
      ∙ ((λ i. (first.told ∙ earlier) i ++ here i ∷ [])
      ∙ (sym (map-append (judgement_at purpose (with_answer first.refused n b) documents) (take n (all_sites documents)) (own ∷ []))
      ∙ ap (map (judgement_at purpose (with_answer first.refused n b) documents)) (sym (take-suc (all_sites documents) n (site 0 0) (omega (arith, low, long))))))

  pub next_first : (sites : List Site) (n : ℕ) (own d : Site) (old between new : PatternsSeen) (judgements now : List Judgement)
      → sites ≡ all_sites documents → n < length sites → own ≡ get_or sites n d → AreFirst n old between judgements → (b : Bool)
      → IsBuilt (patterns_at purpose documents own) b between new
      → now ≡ judgements ++ judgement_at purpose (always b) documents own ∷ [] → AreFirst (n + 1) old new now
  next_first sites n own d old between new judgements now are less at first b built is =
      let one : suc n ≡ n + 1 = omega arith in
      subst (λ (k : ℕ). AreFirst k old new now) one
      (record {
        refused = with_answer first.refused n b;
        built = one_more_built first.refused n b old between new low first.built
            (subst (λ (s : Site). IsBuilt (patterns_at purpose documents s) b between new) same built);
        told = next_told n b old between judgements low first now
            (subst (λ (s : Site). now ≡ judgements ++ judgement_at purpose (always b) documents s ∷ []) same is);
      })
    where
      low : n < count_of documents
      low = let long : length (all_sites documents) ≡ count_of documents = length-sites documents in
          let all : length sites ≡ length (all_sites documents) = ap (λ (xs : List Site). length xs) are in omega (arith, less, long, all)

      same : own ≡ site_at documents n
      same = at ∙ (get_or_default sites n d (site 0 0) less ∙ ap (λ (xs : List Site). get_or xs n (site 0 0)) are)

  -- want of memory behind the build of one more element
  pub next_part : (sites : List Site) (n : ℕ) (own d : Site) (old between new : PatternsSeen) (judgements : List Judgement)
      → sites ≡ all_sites documents → n < length sites → own ≡ get_or sites n d → AreFirst n old between judgements → (b : Bool)
      → IsBuilt (patterns_at purpose documents own) b between new → AreBuiltInPart purpose documents old new
  next_part sites n own d old between new judgements are less at first b built =
      let one : AreFirst (n + 1) old new (judgements ++ judgement_at purpose (always b) documents own ∷ [])
      = next_first sites n own d old between new judgements (judgements ++ judgement_at purpose (always b) documents own ∷ []) are less at first b built refl in
      record {
        refused = one.refused;
        count = n + 1;
        few = let long : length (all_sites documents) ≡ count_of documents = length-sites documents in
            let all : length sites ≡ length (all_sites documents) = ap (λ (xs : List Site). length xs) are in omega (arith, less, long, all);
        built = one.built;
      }

  -- nothing was built
  pub no_part : (seen : PatternsSeen) → AreBuiltInPart purpose documents seen seen
  no_part seen = record { refused = never; count = 0; few = omega arith; built = refl }

  -- all elements
  pub all_first : (sites : List Site) (n : ℕ) (old new : PatternsSeen) (judgements : List Judgement) → sites ≡ all_sites documents
      → n ≡ length sites → AreFirst n old new judgements → AreJudged purpose documents old new judgements
  all_first sites n old new judgements are is first =
      let long : length (all_sites documents) ≡ count_of documents = length-sites documents in
      let all : n ≡ length (all_sites documents) = is ∙ ap (λ (xs : List Site). length xs) are in
      record {
        refused = first.refused;
        built = subst (λ (k : ℕ). AreBuilt purpose first.refused documents k old new) (all ∙ long) first.built;
        told = first.told ∙ ap (map (judgement_at purpose first.refused documents))
            (ap (λ (k : ℕ). take k (all_sites documents)) all ∙ take-length (all_sites documents));
      }

-- all elements are some of them
pub in_part : (purpose : Purpose) (refused : Site → Bool) (documents : List SchemaDocument) (old new : PatternsSeen)
    → AreAllBuilt purpose refused documents old new → AreBuiltInPart purpose documents old new
in_part purpose refused documents old new built = record { refused = refused; count = count_of documents; few = omega arith; built = built }
