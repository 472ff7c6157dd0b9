-- The statements that are told of a component.
use Rattle.std.proofs.Common.{◌≡◌, ℕ, suc, ◌<◌, List, [], ◌∷◌, ◌++◌, ◌+◌, length, map, drop, get_or, All, ap, sym, subst, ◌∙◌, refl, arith, append_assoc, drop-cons}
use Rattle.std.proofs.lemmas.List.{append-nil}
use Rattle.std.proofs.lemmas.List.Elements.{All-nil, All-append, All-cons}
use Rattle.dfdl_report.specs.declared.place.Place.{Place}
use Rattle.dfdl_documents.specs.Documents.{SchemaDocument}
use Rattle.dfdl_components.specs.Sites.{IsSite}
use Rattle.dfdl_components.specs.declared.site.Site.{Site}
use Rattle.dfdl_terms.specs.declared.statement.PatternTest.{PatternTest}
use Rattle.dfdl_checks.specs.declared.expression_tests.CheckForm.{CheckForm}
use Rattle.dfdl_chains.specs.Settings.{IsSetterOf}
use Rattle.dfdl_chains.specs.declared.settings.Setter.{Setter}
use Rattle.dfdl_breaches.specs.Judging.{IsCheckOf}
use Rattle.dfdl_breaches.specs.Elements.{place_of}
use Rattle.dfdl_written.specs.Noting.{IsNotedWithin, StatesWithin, noted_check, noted_each, noted_expressions, noted_from, noted_parts, noted_setting, noted_test}
use Rattle.dfdl_written.specs.declared.noted.Noted.{Noted}
use Rattle.dfdl_written.specs.declared.noted.Stated.{Stated}

-- each of a list that is made
each : {X Y : Type 0} (Q : X → Type 0) (P : Y → Type 0) (f : X → Y) → ((x : X) → Q x → P (f x)) → (xs : List X) → All Q xs → All P (map f xs)
each Q P f holds [] all = All-nil P
each {X} {Y} Q P f holds (x ∷ xs) all = All-cons P (f x) (map f xs) (holds x (all 0 x (omega arith)))
    (each Q P f holds xs (λ k d less. all (suc k) d (omega (arith, less))))

every : {X Y : Type 0} (P : Y → Type 0) (f : X → Y) → ((x : X) → P (f x)) → (xs : List X) → All P (map f xs)
every P f holds [] = All-nil P
every {X} {Y} P f holds (x ∷ xs) = All-cons P (f x) (map f xs) (holds x) (every P f holds xs)

-- their texts stand at elements of the documents
pub parts_within : (documents : List SchemaDocument) (place : Place) (own : Site) (tests : List PatternTest) (settings : List Setter) (checks : List CheckForm)
    → IsSite documents own → All (IsSetterOf documents) settings → All (IsCheckOf documents) checks
    → All (IsNotedWithin documents) (noted_parts documents place own tests settings checks)
parts_within documents place own tests settings checks within set checked =
    All-append (IsNotedWithin documents) (map (noted_test place own) tests)
    (map (noted_setting documents place) settings ++ map (noted_check place) checks)
    (every (IsNotedWithin documents) (noted_test place own) (λ test. within) tests)
    (All-append (IsNotedWithin documents) (map (noted_setting documents place) settings) (map (noted_check place) checks)
    (each (IsSetterOf documents) (IsNotedWithin documents) (noted_setting documents place) (λ setter there. there) settings set)
    (each (IsCheckOf documents) (IsNotedWithin documents) (noted_check place) (λ check there. there) checks checked))

-- three lists one after the other
pub three_pushed : (old first second third a b c : List Noted) → first ≡ old ++ a → second ≡ first ++ b → third ≡ second ++ c → third ≡ old ++ (a ++ (b ++ c))
three_pushed old first second third a b c first_is second_is third_is =
    third_is
    ∙ (ap (λ (xs : List Noted). xs ++ c) (second_is ∙ ap (λ (xs : List Noted). xs ++ b) first_is)
    ∙ (append_assoc (old ++ a) b c ∙ append_assoc old a (b ++ c)))

-- each of three lists one after the other
pub three_within : {X : Type 0} (P : X → Type 0) (a b c : List X) → All P a → All P b → All P c → All P (a ++ (b ++ c))
three_within P a b c first second third = All-append P a (b ++ c) first (All-append P b c second third)

-- the expressions that are properties behind what stands before them
pub expressions_behind : (documents : List SchemaDocument) (own : Site) (stated : Stated) (old parts new : List Noted)
    → parts ≡ old ++ noted_parts documents (place_of documents own) own stated.tests stated.settings stated.checks
    → new ≡ parts ++ noted_expressions documents (place_of documents own) own stated.output stated.calculation stated.measure stated.count stated.key → new ≡ old ++ noted_from documents own stated
expressions_behind documents own stated old parts new parts_is new_is =
    new_is
    ∙ (ap (λ (xs : List Noted). xs ++ noted_expressions documents (place_of documents own) own stated.output stated.calculation stated.measure stated.count stated.key) parts_is
    ∙ append_assoc old (noted_parts documents (place_of documents own) own stated.tests stated.settings stated.checks)
    (noted_expressions documents (place_of documents own) own stated.output stated.calculation stated.measure stated.count stated.key))

-- those so far with those of one component more
pub more_within : (documents : List SchemaDocument) (place : Place) (own : Site) (stated : Stated) (old parts new : List Noted)
    → parts ≡ old ++ noted_parts documents place own stated.tests stated.settings stated.checks
    → new ≡ parts ++ noted_expressions documents place own stated.output stated.calculation stated.measure stated.count stated.key
    → IsSite documents own → StatesWithin documents stated → All (IsNotedWithin documents) old
    → All (IsNotedWithin documents) (noted_expressions documents place own stated.output stated.calculation stated.measure stated.count stated.key) → All (IsNotedWithin documents) new
more_within documents place own stated old parts new parts_is new_is within stated_within all expressed =
    subst (λ (xs : List Noted). All (IsNotedWithin documents) xs) (sym new_is)
    (All-append (IsNotedWithin documents) parts (noted_expressions documents place own stated.output stated.calculation stated.measure stated.count stated.key)
    (subst (λ (xs : List Noted). All (IsNotedWithin documents) xs) (sym parts_is)
    (All-append (IsNotedWithin documents) old (noted_parts documents place own stated.tests stated.settings stated.checks) all
    (parts_within documents place own stated.tests stated.settings stated.checks within stated_within.settings stated_within.checks))) expressed)

-- before the first
pub each_begin : (documents : List SchemaDocument) (sites : List Site) (stated left : List Stated) (made : List Noted) → made ≡ [] → left ≡ stated
    → made ++ noted_each documents (drop 0 sites) left ≡ noted_each documents sites stated
each_begin documents sites stated left made none same =
    ap (λ (xs : List Noted). xs ++ noted_each documents (drop 0 sites) left) none ∙ ap (λ (xs : List Stated). noted_each documents sites xs) same

-- one component more
pub each_more : (documents : List SchemaDocument) (sites : List Site) (at : ℕ) (d : Site) (one : Stated) (left before : List Stated) (old new whole : List Noted)
    → at < length sites → before ≡ one ∷ left → new ≡ old ++ noted_from documents (get_or sites at d) one
    → old ++ noted_each documents (drop at sites) before ≡ whole → new ++ noted_each documents (drop (at + 1) sites) left ≡ whole
each_more documents sites at d one left before old new whole less is new_is same =
    let next : suc at ≡ at + 1 = omega arith in
    let split : drop at sites ≡ get_or sites at d ∷ drop (at + 1) sites = drop-cons sites at d less ∙ ap (λ (k : ℕ). get_or sites at d ∷ drop k sites) next in
    let rest : List Noted = noted_each documents (drop (at + 1) sites) left in
    ap (λ (xs : List Noted). xs ++ rest) new_is
    ∙ (append_assoc old (noted_from documents (get_or sites at d) one) rest
    ∙ (ap (λ (ss : List Site). old ++ noted_each documents ss (one ∷ left)) (sym split)
    ∙ (ap (λ (xs : List Stated). old ++ noted_each documents (drop at sites) xs) (sym is) ∙ same)))

-- none is left
pub each_end : (documents : List SchemaDocument) (sites : List Site) (left : List Stated) (made whole : List Noted) → left ≡ []
    → made ++ noted_each documents sites left ≡ whole → made ≡ whole
each_end documents sites left made whole none same =
    sym (append-nil made) ∙ (ap (λ (xs : List Noted). made ++ xs) (sym (nothing sites)) ∙ (ap (λ (xs : List Stated). made ++ noted_each documents sites xs) (sym none) ∙ same))
  where
    nothing : (ss : List Site) → noted_each documents ss [] ≡ []
    nothing [] = refl
    nothing (s ∷ ss) = refl
