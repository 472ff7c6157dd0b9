-- What is told of the properties that apply to a component without a breach.
use Rattle.std.proofs.Common.{◌≡◌, refl, sym, ap, subst, ◌∙◌, ℕ, List, ◌∷◌, [], Some, Bool, true, false, ◌||◌, ◌&&◌, slice_get, arith}
use Rattle.std.specs.Str.{bytes_eq}
use Rattle.std.specs.Cmp.Lexicographic.{bytes_decides}
use Rattle.dfdl_scope.specs.Expressions.{literal}
use Rattle.dfdl_scope.specs.Scoping.{Told, Value, Absent, Twice}
use Rattle.dfdl_scope.specs.Table.{Row, row, Words, Missing, property_table, row_named}
use Rattle.dfdl_checks.proofs.Flawless.{flawless, HasNoFlaw, HasBuilt, value-built, given-built, among-words}
use Rattle.dfdl_checks.proofs.Kept.{IsKept, expressions-kept, given-kept, values-kept}
use Rattle.dfdl_checks.proofs.Once.{is_twice, told-once}
use Rattle.dfdl_checks.specs.Applying.{is_bearer}
use Rattle.dfdl_checks.specs.Flaws.{has_flaw}
use Rattle.dfdl_checks.specs.Judged.{Judged}
use Rattle.dfdl_checks.specs.Rules.{are_separators_unfit, is_base_unfit, is_later_component, is_prefix_type_missing, is_separator_other}
use Rattle.dfdl_checks.specs.Subjects.{is_word, told_at}
use Rattle.dfdl_checks.specs.Table.{Applicability, Built, applies, built_for, Words as BuiltWords, EveryValue, applicability_table}
use Rattle.dfdl_checks.specs.declared.applicability.Bearers.{Bearers}
use Rattle.dfdl_checks.specs.declared.flaw.Flaw.TheVariants as flaws
use Rattle.dfdl_checks.specs.declared.purpose.Purpose.{Purpose}
use Rattle.dfdl_checks.specs.declared.purpose.Purpose.TheVariants.{Parsing, Unparsing}

-- two tests that hold
pub all-hold : (a b : Bool) → a ≡ true → b ≡ true → (a && b) ≡ true
all-hold a b x y = grind (arith, x, y)

-- a property that applies to a component without a breach has no flaw
pub flawless-by : (s : Judged) → IsKept s → (i : ℕ) (a : Applicability) → slice_get applicability_table i ≡ Some a → is_bearer a.bearers s ≡ true
    → (r : Row) → row_named property_table a.name ≡ Some r → HasNoFlaw r (built_for s.purpose a) (told_at s a.name)
flawless-by s kept i a there bearer r named = record {
  unbuilt = flawless flaws.Unbuilt s (last (is_later_component s) (has_flaw flaws.Unbuilt s) kept.built) i a there bearer r named;
  missing = flawless flaws.Missing s (given-kept s kept) i a there bearer r named;
  not_carried = flawless flaws.NotCarried s carried i a there bearer r named;
  expression = flawless flaws.Expression s (expressions-kept s kept) i a there bearer r named;
}
  where
    last : (a b : Bool) → (a || b) ≡ false → b ≡ false
    last a b h = grind (arith, h)

    first : (a b c d e : Bool) → (a || b || c || d || e) ≡ false → a ≡ false
    first a b c d e h = grind (arith, h)

    carried : has_flaw flaws.NotCarried s ≡ false
    carried =
        first (has_flaw flaws.NotCarried s) (is_separator_other s) (are_separators_unfit s) (is_base_unfit s) (is_prefix_type_missing s) (values-kept s kept)

-- it is not given twice
pub once-at : (s : Judged) → IsKept s → (name : List ℕ) (r : Row) → row_named property_table name ≡ Some r → is_twice (told_at s name) ≡ false
once-at s kept name r named = told-once s.chain property_table name r named kept.once

-- where it has to be given, it has a value that is built
pub built-by : (s : Judged) → IsKept s → (i : ℕ) (a : Applicability) → slice_get applicability_table i ≡ Some a → is_bearer a.bearers s ≡ true
    → (r : Row) → row_named property_table a.name ≡ Some r → r.absent ≡ Missing → HasBuilt r (built_for s.purpose a) (told_at s a.name)
built-by s kept i a there bearer r named needed =
    given-built r (built_for s.purpose a) (told_at s a.name) needed (flawless-by s kept i a there bearer r named) (once-at s kept a.name r named)

-- the values that are built for both purposes are built for each
built-for : (purpose : Purpose) (name : List ℕ) (b : Bearers) (built : Built) → built_for purpose (applies name b built) ≡ built
built-for Parsing name b built = refl
built-for Unparsing name b built = refl

pub no-flaw : (s : Judged) → IsKept s → (i : ℕ) (name : List ℕ) (b : Bearers) (built : Built) → slice_get applicability_table i ≡ Some (applies name b built)
    → is_bearer b s ≡ true → (r : Row) → row_named property_table name ≡ Some r → HasNoFlaw r built (told_at s name)
no-flaw s kept i name b built there bearer r named =
    subst (λ built. HasNoFlaw r built (told_at s name)) (built-for s.purpose name b built) (flawless-by s kept i (applies name b built) there bearer r named)

pub built-at : (s : Judged) → IsKept s → (i : ℕ) (name : List ℕ) (b : Bearers) (built : Built) → slice_get applicability_table i ≡ Some (applies name b built)
    → is_bearer b s ≡ true → (r : Row) → row_named property_table name ≡ Some r → r.absent ≡ Missing → HasBuilt r built (told_at s name)
built-at s kept i name b built there bearer r named needed =
    subst (λ built. HasBuilt r built (told_at s name)) (built-for s.purpose name b built) (built-by s kept i (applies name b built) there bearer r named needed)

-- where one word alone is built, that is told
pub one-word : (x : List ℕ) (r : Row) (t : Told) → HasBuilt r (BuiltWords (x ∷ [])) t → is_word x t ≡ true
one-word x r t has = subst (λ t. is_word x t ≡ true) (sym has.is) (alone (bytes_eq (literal has.written) x) has.built_is)
  where
    alone : (b : Bool) → (b || false) ≡ true → b ≡ true
    alone b h = grind (arith, h)

-- of two words, one is told
pub either-word : (x y : List ℕ) (name : List ℕ) (t : Told) → HasBuilt (row name (Words (x ∷ y ∷ [])) Missing) EveryValue t → (is_word x t || is_word y t) ≡ true
either-word x y name t has =
    subst (λ t. (is_word x t || is_word y t) ≡ true) (sym has.is)
    (alone (bytes_eq (literal has.written) x) (bytes_eq (literal has.written) y) (among-words (x ∷ y ∷ []) has.written has.value))
  where
    alone : (a b : Bool) → (a || (b || false)) ≡ true → (a || b) ≡ true
    alone a b h = grind (arith, h)

-- where one word alone is built, another one is not told
pub no-other-word : (x y : List ℕ) → bytes_eq x y ≡ false → (r : Row) (t : Told) → HasNoFlaw r (BuiltWords (x ∷ [])) t → is_word y t ≡ false
no-other-word x y apart r (Value w) none =
    let same : literal w ≡ x = (bytes_decides (literal w) x).0 (one-word x r (Value w) (value-built r _ w none)) in
    ap (λ l. bytes_eq l y) same ∙ apart
no-other-word x y apart r Absent none = refl
no-other-word x y apart r (Twice place) none = refl

-- what stands for one word stands for no other
pub other-word : (x y : List ℕ) → bytes_eq x y ≡ false → (t : Told) → is_word x t ≡ true → is_word y t ≡ false
other-word x y apart (Value w) is = ap (λ l. bytes_eq l y) ((bytes_decides (literal w) x).0 is) ∙ apart
other-word x y apart Absent is = grind (arith, is)
other-word x y apart (Twice place) is = grind (arith, is)
