-- What is told of a property that has no flaw.
use Rattle.std.proofs.Common.{◌≡◌, refl, sym, ap, ◌∙◌, ℕ, zero, suc, List, ◌∷◌, [], Some, Bool, true, false, not, if◌then◌else◌, ◌||◌, ◌&&◌, slice_get, arith}
use Rattle.std.specs.List.{list_any}
use Rattle.std.specs.Option.{option_map_or}
use Rattle.dfdl_scope.specs.Expressions.{is_expression, literal}
use Rattle.dfdl_scope.specs.Scoping.{Told, Value, Absent, Twice}
use Rattle.dfdl_scope.specs.Table.{Row, Words, Missing, property_table, row_named}
use Rattle.dfdl_checks.proofs.Once.{is_twice}
use Rattle.dfdl_checks.specs.Applying.{is_bearer}
use Rattle.dfdl_checks.specs.Flaws.{has_flaw, is_flawed, is_flawed_at, is_absence_flawed}
use Rattle.dfdl_checks.specs.Subjects.{told_at}
use Rattle.dfdl_checks.specs.Table.{Applicability, Built, built_for, is_built, applicability_table}
use Rattle.dfdl_checks.specs.Values.{is_among, is_value, is_plain_value, takes_expressions}
use Rattle.dfdl_checks.specs.declared.flaw.Flaw.{Flaw}
use Rattle.dfdl_checks.specs.declared.flaw.Flaw.TheVariants as flaws
use Rattle.dfdl_checks.specs.Judged.{Judged}

-- a test that no element of a list passes is passed by none at a place
at-place : {X : Type 0} (test : X → Bool) (xs : List X) (i : ℕ) (x : X) → slice_get xs i ≡ Some x → list_any test xs ≡ false → test x ≡ false
at-place test [] i x there none = grind (arith, there)
at-place test (y ∷ ys) zero x there none = grind (arith, there, none)
at-place test (y ∷ ys) (suc i) x there none = at-place test ys i x there (rest (test y) (list_any test ys) none)
  where
    rest : (a b : Bool) → (a || b) ≡ false → b ≡ false
    rest a b h = grind (arith, h)

-- a component without a flaw has none at a property that applies to it
pub flawless : (flaw : Flaw) (s : Judged) → has_flaw flaw s ≡ false → (i : ℕ) (a : Applicability) → slice_get applicability_table i ≡ Some a
    → is_bearer a.bearers s ≡ true → (row : Row) → row_named property_table a.name ≡ Some row
    → is_flawed flaw row (built_for s.purpose a) (told_at s a.name) ≡ false
unfolding is_flawed_at
flawless flaw s none i a there bearer row named =
    both (is_bearer a.bearers s) _ bearer (sym (ap (λ o. option_map_or (λ r. is_flawed flaw r (built_for s.purpose a) (told_at s a.name)) o false) named))
    (at-place (is_flawed_at flaw s) applicability_table i a there none)
  where
    both : (b x : Bool) {y : Bool} → b ≡ true → x ≡ y → (b && y) ≡ false → x ≡ false
    both b x is same none = grind (arith, is, same, none)

-- a property has none of the four flaws
pub record HasNoFlaw (row : Row) (built : Built) (t : Told) : Type 0 where
  pub unbuilt : is_flawed flaws.Unbuilt row built t ≡ false
  pub missing : is_flawed flaws.Missing row built t ≡ false
  pub not_carried : is_flawed flaws.NotCarried row built t ≡ false
  pub expression : is_flawed flaws.Expression row built t ≡ false

-- a value is told, one of the profile that is built
pub record HasBuilt (row : Row) (built : Built) (t : Told) : Type 0 where
  pub written : List ℕ
  pub is : t ≡ Value written
  pub value : is_value row.values written ≡ true
  pub built_is : is_built built (literal written) ≡ true

-- a value that is told without a flaw is built
pub value-built : (row : Row) (built : Built) (w : List ℕ) → HasNoFlaw row built (Value w) → HasBuilt row built (Value w)
value-built row built w none = record {
  written = w;
  is = refl;
  value = value;
  built_is = second (is_value row.values w) _ value none.unbuilt;
}
  where
    carried : (e v t : Bool) → (e ≡ true → v ≡ t) → (not e && not v) ≡ false → (e && not t) ≡ false → v ≡ true
    carried true v t same a b = same refl ∙ grind (arith, b)
    carried false v t same a b = grind (arith, a)

    as-taken : (e : Bool) (t p : Bool) → e ≡ true → (if e then t else p) ≡ t
    as-taken true t p is = refl
    as-taken false t p is = grind (arith, is)

    value : is_value row.values w ≡ true
    value = carried (is_expression w) (is_value row.values w) (takes_expressions row.values)
        (as-taken (is_expression w) (takes_expressions row.values) (is_plain_value row.values (literal w))) none.not_carried none.expression

    second : (v b : Bool) → v ≡ true → (v && not b) ≡ false → b ≡ true
    second v b is kept = grind (arith, is, kept)

-- a property that has to be given has a value that is built, where it has no flaw and is not given twice
pub given-built : (row : Row) (built : Built) (t : Told) → row.absent ≡ Missing → HasNoFlaw row built t → is_twice t ≡ false → HasBuilt row built t
given-built row built (Value w) needed none once = value-built row built w none
given-built row built Absent needed none once =
    let broken : true ≡ false = sym (ap (is_absence_flawed flaws.Missing row built) needed) ∙ none.missing in grind (arith, broken)
given-built row built (Twice place) needed none once = grind (arith, once)

-- a value that is a word, and no expression
pub among-words : (words : List (List ℕ)) (w : List ℕ) → is_value (Words words) w ≡ true → is_among words (literal w) ≡ true
among-words words w is = by (is_expression w) is
  where
    by : (b : Bool) → (if b then false else is_among words (literal w)) ≡ true → is_among words (literal w) ≡ true
    by true h = grind (arith, h)
    by false h = h
