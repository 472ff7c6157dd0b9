-- Numbers below a bound that pass a test.
use Rattle.std.proofs.Common.{◌≡◌, ℕ, zero, suc, ◌+◌, ◌<◌, ◌≤◌, ◌||◌, ◌++◌, [], List, length, Bool, true, false, inl, inr, refl, sym, ap, ◌∙◌, arith}
use Rattle.std.proofs.lemmas.List.{append-nil, length-append}
use Rattle.std.proofs.Math.Bool.{or-false, or-true}
use Rattle.std.proofs.lemmas.Bool.{cases_lt}
use Rattle.dfdl_paths.specs.Numbers.{one_if, count_if, those_below, count_below, some_below}

module _ (test : ℕ → Bool) where
  pub one-or-none : (b : Bool) → count_if b ≤ 1
  one-or-none true = omega arith
  one-or-none false = omega arith

  -- one number more
  pub count-more : (n : ℕ) → count_below test (n + 1) ≡ count_below test n + count_if (test n)
  unfolding count_below
  count-more n =
      let next : n + 1 ≡ suc n = omega arith in
      ap (count_below test) next

  pub those-more : (n : ℕ) → those_below test (n + 1) ≡ those_below test n ++ one_if (test n) n
  unfolding those_below
  those-more n =
      let next : n + 1 ≡ suc n = omega arith in
      ap (those_below test) next

  pub some-more : (n : ℕ) → some_below test (n + 1) ≡ (some_below test n || test n)
  unfolding some_below
  some-more n =
      let next : n + 1 ≡ suc n = omega arith in
      ap (some_below test) next

  pub some-begin : some_below test 0 ≡ false
  unfolding some_below
  some-begin = refl

  -- where none passes
  pub count-none : (bound : ℕ) → ((n : ℕ) → n < bound → test n ≡ false) → count_below test bound ≡ 0
  unfolding count_below
  count-none zero none = refl
  count-none (suc bound) none =
      ap (λ m. m + count_if (test bound)) (count-none bound (λ n less. none n (omega arith)))
      ∙ ap (λ b. 0 + count_if b) (none bound (omega arith))

  pub those-none : (bound : ℕ) → ((n : ℕ) → n < bound → test n ≡ false) → those_below test bound ≡ []
  unfolding those_below
  those-none zero none = refl
  those-none (suc bound) none =
      ap (λ (ns : List ℕ). ns ++ one_if (test bound) bound) (those-none bound (λ n less. none n (omega arith)))
      ∙ ap (λ b. one_if b bound) (none bound (omega arith))

  pub some-none : (bound : ℕ) → ((n : ℕ) → n < bound → test n ≡ false) → some_below test bound ≡ false
  unfolding some_below
  some-none zero none = refl
  some-none (suc bound) none =
      ap (λ b. b || test bound) (some-none bound (λ n less. none n (omega arith)))
      ∙ none bound (omega arith)

  -- none of the numbers behind a bound passes
  pub those-end : (bound top : ℕ) → bound ≤ top → ((n : ℕ) → bound ≤ n → n < top → test n ≡ false) → those_below test top ≡ those_below test bound
  unfolding those_below
  those-end bound zero few none =
      let same : zero ≡ bound = omega arith in
      ap (those_below test) same
  those-end bound (suc top) few none = elim (cases_lt top bound) [
    | inl less ↦ let same : suc top ≡ bound = omega arith in ap (those_below test) same
    | inr more ↦ ap (λ b. those_below test top ++ one_if b top) (none top more (omega arith))
        ∙ (append-nil (those_below test top) ∙ those-end bound top more (λ n past less. none n past (omega arith)))
  ]

  -- there are no more than numbers
  pub count-few : (bound : ℕ) → count_below test bound ≤ bound
  unfolding count_below
  count-few zero = omega arith
  count-few (suc bound) =
      let before : count_below test bound ≤ bound = count-few bound in
      let last : count_if (test bound) ≤ 1 = one-or-none (test bound) in
      omega arith

  -- a higher bound has no fewer
  pub count-rise : (bound top : ℕ) → bound ≤ top → count_below test bound ≤ count_below test top
  unfolding count_below
  count-rise bound zero few =
      let same : zero ≡ bound = omega arith in
      let equal : count_below test zero ≡ count_below test bound = ap (count_below test) same in
      omega arith
  count-rise bound (suc top) few = elim (cases_lt top bound) [
    | inl less ↦ let same : suc top ≡ bound = omega arith in
        let equal : count_below test (suc top) ≡ count_below test bound = ap (count_below test) same in omega arith
    | inr more ↦ let before : count_below test bound ≤ count_below test top = count-rise bound top more in omega arith
  ]

  -- one that passes is counted
  pub count-one : (n : ℕ) → test n ≡ true → count_below test (suc n) ≡ count_below test n + 1
  unfolding count_below
  count-one n passes = ap (λ b. count_below test n + count_if b) passes

  -- one that passes has more up to and with it than an earlier one
  pub count-apart : (early late : ℕ) → early < late → test late ≡ true → count_below test (suc early) < count_below test (suc late)
  count-apart early late less passes =
      let rise : count_below test (suc early) ≤ count_below test late = count-rise (suc early) late (omega arith) in
      let last : count_below test (suc late) ≡ count_below test late + 1 = count-one late passes in
      omega arith

  -- so the count names one of them
  pub only-count : (one other : ℕ) → test one ≡ true → test other ≡ true
      → count_below test (suc one) ≡ count_below test (suc other) → one ≡ other
  only-count one other first second same = elim (cases_lt one other) [
    | inl less ↦ let apart : count_below test (suc one) < count_below test (suc other) = count-apart one other less second in absurd (omega arith)
    | inr more ↦ elim (cases_lt other one) [
      | inl less ↦ let apart : count_below test (suc other) < count_below test (suc one) = count-apart other one less first in absurd (omega arith)
      | inr last ↦ omega arith
    ]
  ]

  -- where one alone may pass
  pub some-only : (one bound : ℕ) → one < bound → ((n : ℕ) → (n ≡ one → ⊥) → test n ≡ false) → some_below test bound ≡ test one
  unfolding some_below
  some-only one zero less others = absurd (omega arith)
  some-only one (suc bound) less others = elim (cases_lt one bound) [
    | inl before ↦ ap (λ b. b || test bound) (some-only one bound before others)
        ∙ (ap (λ b. test one || b) (others bound (λ same. omega (arith, same, before))) ∙ or-false (test one))
    | inr last ↦ let same : bound ≡ one = omega arith in
        ap (λ b. b || test bound) (some-none bound (λ n few. others n (λ e. omega (arith, e, few, same)))) ∙ ap test same
  ]

  -- where one passes
  pub some-at : (one bound : ℕ) → one < bound → test one ≡ true → some_below test bound ≡ true
  unfolding some_below
  some-at one zero less passes = absurd (omega arith)
  some-at one (suc bound) less passes = elim (cases_lt one bound) [
    | inl before ↦ ap (λ b. b || test bound) (some-at one bound before passes)
    | inr last ↦ let same : one ≡ bound = omega arith in
        ap (λ b. some_below test bound || b) (sym (ap test same) ∙ passes) ∙ or-true (some_below test bound)
  ]

  -- where neither those before nor the next passes
  pub some-next : (n : ℕ) → some_below test n ≡ false → test n ≡ false → some_below test (n + 1) ≡ false
  some-next n before last = some-more n ∙ (ap (λ b. b || test n) before ∙ last)

  pub those-few : (bound : ℕ) → length (those_below test bound) ≤ bound
  unfolding those_below
  those-few zero = omega arith
  those-few (suc bound) =
      let before : length (those_below test bound) ≤ bound = those-few bound in
      let last : length (one_if (test bound) bound) ≤ 1 = one-long (test bound) bound in
      let both : length (those_below test bound ++ one_if (test bound) bound) ≡ length (those_below test bound) + length (one_if (test bound) bound) =
      length-append (those_below test bound) (one_if (test bound) bound) in
      omega (arith, before, last, both)
    where
      one-long : (b : Bool) (n : ℕ) → length (one_if b n) ≤ 1
      one-long true n = omega arith
      one-long false n = omega arith

  -- the loops over a span: nothing before it, one number more, nothing behind it
  pub span-begin : (from : ℕ) → ((n : ℕ) → n < from → test n ≡ false) → [] ≡ those_below test from
  span-begin from none = sym (those-none from none)

  pub span-more : (n : ℕ) (b : Bool) → b ≡ test n → those_below test n ++ one_if b n ≡ those_below test (n + 1)
  span-more n b is = ap (λ (x : Bool). those_below test n ++ one_if x n) is ∙ sym (those-more n)

  pub length-more : (n : ℕ) (b : Bool) → b ≡ test n → length (those_below test n) + count_if b ≡ length (those_below test (n + 1))
  length-more n b is =
      ap (λ m. length (those_below test n) + m) (count-long b n)
      ∙ (sym (length-append (those_below test n) (one_if b n)) ∙ ap length (span-more n b is))
    where
      count-long : (b : Bool) (n : ℕ) → count_if b ≡ length (one_if b n)
      count-long true n = refl
      count-long false n = refl
