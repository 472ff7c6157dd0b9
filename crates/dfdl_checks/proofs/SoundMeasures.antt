-- The expressions that tell lengths and numbers of occurrences.
use Rattle.std.proofs.Common.{◌≡◌, refl, sym, ap, subst, ◌∙◌, List, ℕ, Option, Some, None, Bool, true, false, if◌then◌else◌, ◌&&◌, is_some, option_map, codes, IsTrue, IsSome, arith}
use Rattle.dfdl_scope.specs.Scoping.{Told, Value, Absent, Twice}
use Rattle.dfdl_scope.specs.Table.{Row, row, Formed, Missing, property_table}
use Rattle.dfdl_scope.specs.declared.row.Form.TheVariants as values
use Rattle.dfdl_terms.specs.declared.prefix.LengthUnit.{LengthUnit}
use Rattle.dfdl_checks.proofs.Built.{built-by}
use Rattle.dfdl_checks.proofs.Flawless.{HasBuilt}
use Rattle.dfdl_checks.proofs.Kept.{keeps-all}
use Rattle.dfdl_checks.specs.Calculations.{written_told}
use Rattle.dfdl_checks.specs.Judged.{Judged}
use Rattle.dfdl_checks.specs.Measures.{count_expression, count_expression_for, is_measured_element, length_expression, length_expression_for, measure_of, measure_with}
use Rattle.dfdl_checks.specs.Occurrences.{is_counted_by_expression}
use Rattle.dfdl_checks.specs.Prefixes.{unit_told}
use Rattle.dfdl_checks.specs.Rules.{first_breach, rules}
use Rattle.dfdl_checks.specs.Subjects.{is_element, is_explicit, is_expression_told, told_at}
use Rattle.dfdl_checks.specs.Table.{Applicability, Built, EveryValue, NoValue, applicability_table, applies_by}
use Rattle.dfdl_checks.specs.declared.applicability.Bearers.TheVariants as bearers
use Rattle.dfdl_checks.specs.declared.purpose.Purpose.TheVariants.{Parsing, Unparsing}

-- an expression that is told is written
some-written : (t : Told) → is_expression_told t ≡ true → is_some (written_told t) ≡ true
some-written (Value written) is = refl
some-written Absent is = grind (arith, is)
some-written (Twice place) is = grind (arith, is)

some-measure : (unit : LengthUnit) (o : Option (List ℕ)) → is_some o ≡ true → is_some (option_map (measure_with unit) o) ≡ true
some-measure unit (Some text) some = refl
some-measure unit None some = grind (arith, some)

-- an element whose length is by an expression has one that is built
pub has-measure : (s : Judged) → s.purpose ≡ Parsing → IsTrue (is_measured_element s) → IsSome (measure_of s)
has-measure s purpose measured =
    some-measure (unit_told (told_at s (codes "lengthUnits"))) (length_expression s)
    (ap (λ p. is_some (length_expression_for p s)) purpose
    ∙ (ap (λ b. is_some (if b then written_told (told_at s (codes "length")) else None)) measured
    ∙ some-written (told_at s (codes "length"))
    (last (is_element s.kind) (is_explicit s) (is_expression_told (told_at s (codes "length"))) measured)))
  where
    last : (a b c : Bool) → (a && (b && c)) ≡ true → c ≡ true
    last a b c h = grind (arith, h)

-- for unparsing there is none
pub no-measure : (s : Judged) → s.purpose ≡ Unparsing → measure_of s ≡ None
no-measure s purpose =
    ap (λ p. option_map (measure_with (unit_told (told_at s (codes "lengthUnits")))) (length_expression_for p s)) purpose

-- the number of occurrences
abbrev counts : Applicability
counts = applies_by (codes "occursCount") bearers.CountedByExpression EveryValue NoValue

abbrev count_row : Row
count_row = row (codes "occursCount") (Formed values.Expression) Missing

-- what is told is an expression
count-told : (built : Built) (t : Told) → HasBuilt count_row built t → is_expression_told t ≡ true
count-told built t has = subst (λ t. is_expression_told t ≡ true) (sym has.is) (plain _ has.value)
  where
    plain : (e : Bool) → (if e then true else false) ≡ true → e ≡ true
    plain e h = grind (arith, h)

-- an element without a breach that occurs by an expression has one
pub has-count : (s : Judged) → first_breach rules s ≡ None → s.purpose ≡ Parsing → IsTrue (is_counted_by_expression s) → IsSome (count_expression s)
unfolding applicability_table property_table
has-count s none purpose counted =
    ap (λ p. is_some (count_expression_for p s)) purpose
    ∙ (ap (λ b. is_some (if b then written_told (told_at s (codes "occursCount")) else None)) counted
    ∙ some-written (told_at s (codes "occursCount"))
    (count-told _ _ (built-by s (keeps-all s none) 40 counts refl counted count_row refl refl)))

-- for unparsing there is none
pub no-count : (s : Judged) → s.purpose ≡ Unparsing → count_expression s ≡ None
no-count s purpose = ap (λ p. count_expression_for p s) purpose
