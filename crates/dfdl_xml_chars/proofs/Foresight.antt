-- Where a machine does with characters past ASCII what its places say, it tells of a part of a
-- character what becomes of it.
use Rattle.std.proofs.Common.{◌≡◌, ◌≢◌, ℕ, ◌≤◌, List, Bool, true, false, Some, None, Result, Ok}
use Rattle.std.proofs.Common.{Err, if◌then◌else◌, refl, sym, ap, subst, ◌∙◌, inl, inr, arith}
use Rattle.std.proofs.lemmas.Bool.{cases_Bool}
use Rattle.std.specs.Char.{encode_utf8, IsScalar}
use Rattle.dfdl_layers.specs.Allowed.{allowed_step}
use Rattle.dfdl_layers.specs.Bytes.{Part, IsBegun, FailsBy, IsForesight}
use Rattle.dfdl_xml_chars.specs.Utf8.{see, low_of}
use Rattle.dfdl_xml_chars.specs.Characters.{Row, is_in, is_allowed, meets, begins}
use Rattle.dfdl_xml_chars.specs.Beyond.{Beyond, All, Only, One, Never, by_test, could_by, GoesOn}
use Rattle.dfdl_xml_chars.specs.Beyond.{Does, AreAllowed, FitsBehind}
use Rattle.dfdl_xml_chars.proofs.Tables.{met_by, not_met_by, begins_by, not_begins_by, least_begun}
use Rattle.dfdl_xml_chars.proofs.Tables.{past_of, allowed_in}

-- some character that begins so has a step
abbrev Can : {S : Type 0} → (ℕ → Result S ℕ) → List ℕ → Type 0
Can {S} does bytes = (c : ℕ) × (t : S) × IsBegun IsScalar encode_utf8 bytes c × (does c ≡ Ok t)

-- some character that begins so breaks the rule
abbrev Cannot : {S : Type 0} → (ℕ → Result S ℕ) → List ℕ → ℕ → Type 0
Cannot does bytes m = (c : ℕ) × IsBegun IsScalar encode_utf8 bytes c × (does c ≡ Err m)

allowed_answer : {S : Type 0} (b : Bool) (r o : Result S ℕ) (rule : ℕ) → b ≡ true → r ≡ o
    → (if b then r else Err rule) ≡ o
allowed_answer true r o rule is same = same
allowed_answer false r o rule is same = absurd (cc)

fails_allowed : {S : Type 0} (b : Bool) (r : Result S ℕ) (rule m : ℕ) → rule ≤ m
    → (b ≡ true → FailsBy m r) → FailsBy m (if b then r else Err rule)
fails_allowed true r rule m less fails = fails refl
fails_allowed false r rule m less fails = less

fails_by : {S : Type 0} (r : Result S ℕ) (k m : ℕ) → r ≡ Err k → k ≤ m → FailsBy m r
fails_by r k m is less = subst (λ o. FailsBy m o) (sym is) less

some_same : (a b : ℕ) → Some a ≡ Some b → a ≡ b
some_same a b is = cc

test_least : (b : Bool) (rule unlike other : ℕ) → rule ≤ other → other ≤ unlike
    → rule ≤ by_test b unlike other
test_least true rule unlike other least most = omega arith
test_least false rule unlike other least most = least

test_most : (b : Bool) (unlike other : ℕ) → other ≤ unlike → by_test b unlike other ≤ unlike
test_most true unlike other most = omega arith
test_most false unlike other most = most

none_if : (b : Bool) (m : ℕ) → (if b then None else Some m) ≡ None → b ≡ true
none_if true m is = refl
none_if false m is = absurd (cc)

some_if : (b : Bool) (k m : ℕ) → (if b then None else Some k) ≡ Some m → (b ≡ false) × (k ≡ m)
some_if true k m is = absurd (cc)
some_if false k m is = (refl, some_same k m is)

module _ {S : Type 0} (rule : ℕ) (does : ℕ → Result S ℕ) (bytes : List ℕ)
    (sees : see bytes ≡ Part) where
  goes_at : (c : ℕ) → IsBegun IsScalar encode_utf8 bytes c → is_allowed c ≡ true → GoesOn (does c)
      → Can (λ d. if is_allowed d then does d else Err rule) bytes
  goes_at c begun allowed goes =
      (c, goes.0, begun, allowed_answer (is_allowed c) (does c) (Ok goes.0) rule allowed goes.1)

  fails_at : (c m : ℕ) → IsBegun IsScalar encode_utf8 bytes c → is_allowed c ≡ true → does c ≡ Err m
      → Cannot (λ d. if is_allowed d then does d else Err rule) bytes m
  fails_at c m begun allowed fails =
      (c, begun, allowed_answer (is_allowed c) (does c) (Err m) rule allowed fails)

  -- some character that begins so goes on
  can_by : (beyond : Beyond) → FitsBehind rule beyond
      → ((c : ℕ) → 128 ≤ c → IsScalar c → is_allowed c ≡ true → Does beyond c (does c))
      → could_by beyond bytes ≡ None → Can (λ d. if is_allowed d then does d else Err rule) bytes
  can_by All fits answers could =
      let least = least_begun bytes sees in
      goes_at (low_of bytes) least.0 least.2 (answers (low_of bytes) least.1 least.0.scalar least.2)
  can_by (Only rows other) fits answers could =
      let found = met_by rows bytes sees fits.0.proper (none_if (meets rows bytes) other could) in
      let allowed = allowed_in rows found.0 fits.0 found.2 in
      goes_at found.0 found.1 allowed
      ((answers found.0 (past_of bytes found.0 sees found.1) found.1.scalar allowed).0 found.2)
  can_by (One d rows unlike other) fits answers could =
      let begun =
      begins_by bytes d sees
      (none_if (begins bytes d) (by_test (meets rows bytes) unlike other) could) in
      goes_at d begun fits.1 ((answers d (past_of bytes d sees begun) begun.scalar fits.1).0 refl)
  can_by (Never rows unlike other) fits answers could = absurd (cc)

  -- where each breaks one of two rules by whether it is of the rows, one of them breaks the first,
  -- if the rows meet
  fails_rows : (rows : List Row) (unlike other : ℕ) → AreAllowed rows
      → ((c : ℕ) → IsBegun IsScalar encode_utf8 bytes c → is_allowed c ≡ true
      → does c ≡ Err (by_test (is_in rows c) unlike other))
      → Cannot (λ d. if is_allowed d then does d else Err rule) bytes
      (by_test (meets rows bytes) unlike other)
  fails_rows rows unlike other fits fails =
      elim (cases_Bool (meets rows bytes)) [
        | inl meet ↦ (
            let found = met_by rows bytes sees fits.proper meet in
            let allowed = allowed_in rows found.0 fits found.2 in
            fails_at found.0 (by_test (meets rows bytes) unlike other) found.1 allowed
            (fails found.0 found.1 allowed
            ∙ ap (λ b. Err (by_test b unlike other)) (found.2 ∙ sym meet)))
        | inr none ↦ (
            let least = least_begun bytes sees in
            fails_at (low_of bytes) (by_test (meets rows bytes) unlike other) least.0 least.2
            (fails (low_of bytes) least.0 least.2
            ∙ ap (λ b. Err (by_test b unlike other))
            (not_met_by rows bytes (low_of bytes) sees none least.0 ∙ sym none)))
      ]

  most_rows : (rows : List Row) (unlike other c : ℕ) → rule ≤ other → other ≤ unlike
      → IsBegun IsScalar encode_utf8 bytes c
      → (is_allowed c ≡ true → does c ≡ Err (by_test (is_in rows c) unlike other))
      → FailsBy (by_test (meets rows bytes) unlike other)
      (if is_allowed c then does c else Err rule)
  most_rows rows unlike other c least most begun fails =
      fails_allowed (is_allowed c) (does c) rule (by_test (meets rows bytes) unlike other)
      (test_least (meets rows bytes) rule unlike other least most)
      (λ allowed. fails_by (does c) (by_test (is_in rows c) unlike other)
      (by_test (meets rows bytes) unlike other) (fails allowed)
      (elim (cases_Bool (meets rows bytes)) [
        | inl meet ↦
            subst (λ b. by_test (is_in rows c) unlike other ≤ by_test b unlike other) (sym meet)
            (test_most (is_in rows c) unlike other most)
        | inr none ↦ (
            let same : is_in rows c ≡ meets rows bytes =
            not_met_by rows bytes c sees none begun ∙ sym none in
            subst (λ b. by_test b unlike other ≤ by_test (meets rows bytes) unlike other) (sym same)
            (omega arith))
      ]))

  unlike_begun : (c d : ℕ) → begins bytes d ≡ false → IsBegun IsScalar encode_utf8 bytes c → c ≢ d
  unlike_begun c d none begun same =
      not_begins_by bytes d sees none (subst (λ e. IsBegun IsScalar encode_utf8 bytes e) same begun)

  -- some character that begins so breaks the rule that is told
  cannot_by : (beyond : Beyond) (m : ℕ) → FitsBehind rule beyond
      → ((c : ℕ) → 128 ≤ c → IsScalar c → is_allowed c ≡ true → Does beyond c (does c))
      → could_by beyond bytes ≡ Some m
      → Cannot (λ d. if is_allowed d then does d else Err rule) bytes m
  cannot_by All m fits answers could = absurd (cc)
  cannot_by (Only rows other) m fits answers could =
      let none = some_if (meets rows bytes) other m could in
      let least = least_begun bytes sees in
      fails_at (low_of bytes) m least.0 least.2
      ((answers (low_of bytes) least.1 least.0.scalar least.2).1
      (not_met_by rows bytes (low_of bytes) sees none.0 least.0) ∙ ap Err none.1)
  cannot_by (One d rows unlike other) m fits answers could =
      let none = some_if (begins bytes d) (by_test (meets rows bytes) unlike other) m could in
      subst (λ k. Cannot (λ d. if is_allowed d then does d else Err rule) bytes k) none.1
      (fails_rows rows unlike other fits.0
      (λ c begun allowed. (answers c (past_of bytes c sees begun) begun.scalar allowed).1
      (unlike_begun c d none.0 begun)))
  cannot_by (Never rows unlike other) m fits answers could =
      subst (λ k. Cannot (λ d. if is_allowed d then does d else Err rule) bytes k)
      (some_same (by_test (meets rows bytes) unlike other) m could)
      (fails_rows rows unlike other fits.0
      (λ c begun allowed. answers c (past_of bytes c sees begun) begun.scalar allowed))

  -- and each of them this one or a lower one
  most_by : (beyond : Beyond) (m c : ℕ) → FitsBehind rule beyond
      → ((c : ℕ) → 128 ≤ c → IsScalar c → is_allowed c ≡ true → Does beyond c (does c))
      → could_by beyond bytes ≡ Some m → IsBegun IsScalar encode_utf8 bytes c
      → FailsBy m (if is_allowed c then does c else Err rule)
  most_by All m c fits answers could begun = absurd (cc)
  most_by (Only rows other) m c fits answers could begun =
      let none = some_if (meets rows bytes) other m could in
      let less = fits.1 in
      fails_allowed (is_allowed c) (does c) rule m (omega (arith, none.1))
      (λ allowed. fails_by (does c) other m
      ((answers c (past_of bytes c sees begun) begun.scalar allowed).1
      (not_met_by rows bytes c sees none.0 begun)) (omega (arith, none.1)))
  most_by (One d rows unlike other) m c fits answers could begun =
      let none = some_if (begins bytes d) (by_test (meets rows bytes) unlike other) m could in
      subst (λ k. FailsBy k (if is_allowed c then does c else Err rule)) none.1
      (most_rows rows unlike other c fits.2 fits.3 begun
      (λ allowed. (answers c (past_of bytes c sees begun) begun.scalar allowed).1
      (unlike_begun c d none.0 begun)))
  most_by (Never rows unlike other) m c fits answers could begun =
      subst (λ k. FailsBy k (if is_allowed c then does c else Err rule))
      (some_same (by_test (meets rows bytes) unlike other) m could)
      (most_rows rows unlike other c fits.1 fits.2 begun
      (λ allowed. answers c (past_of bytes c sees begun) begun.scalar allowed))

-- what each place does with characters past ASCII is all that is to be shown of a machine, so that
-- a character of several bytes is refused at the first byte at which none can go on
pub utf8_foresight : {S : Type 0} (rule : ℕ) (step : S → ℕ → Result S ℕ) (beyond : S → Beyond)
    (Sound : S → Type 0)
    → ((s : S) → Sound s → FitsBehind rule (beyond s))
    → ((s : S) (c : ℕ) → Sound s → 128 ≤ c → IsScalar c → is_allowed c ≡ true
    → Does (beyond s) c (step s c))
    → IsForesight (allowed_step rule is_allowed step) IsScalar encode_utf8 see
    (λ s bytes. could_by (beyond s) bytes) Sound
utf8_foresight rule step beyond Sound fits answers = record {
  can = λ s bytes sound sees could. can_by rule (step s) bytes sees (beyond s) (fits s sound)
      (λ c past scalar allowed. answers s c sound past scalar allowed) could;
  cannot = λ s bytes m sound sees could.
      cannot_by rule (step s) bytes sees (beyond s) m (fits s sound)
      (λ c past scalar allowed. answers s c sound past scalar allowed) could;
  most = λ s bytes m c sound sees could begun.
      most_by rule (step s) bytes sees (beyond s) m c (fits s sound)
      (λ d past scalar allowed. answers s d sound past scalar allowed) could begun;
}
