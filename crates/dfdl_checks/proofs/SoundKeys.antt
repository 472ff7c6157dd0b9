-- The keys by which branches of choices are taken, of components without a breach.
use Rattle.std.proofs.Common.{◌≡◌, ◌∙◌, refl, sym, ap, subst, ℕ, ◌<◌, List, [], ◌∷◌, length, Bool, true, false, ◌&&◌, ◌||◌, None, if◌then◌else◌, IsTrue, IsSome, is_some, codes, arith}
use Rattle.dfdl_scope.specs.Scoping.{Told, Value, Absent, Twice}
use Rattle.dfdl_checks.proofs.Kept.{keeps-all}
use Rattle.dfdl_checks.specs.Calculations.{is_given, written_told}
use Rattle.dfdl_checks.specs.Judged.{Judged}
use Rattle.dfdl_checks.specs.Keys.{is_keyed, is_no_key, key_expression, key_expression_for, keys_of, keys_of_chain}
use Rattle.dfdl_checks.specs.Rules.{first_breach, rules}
use Rattle.dfdl_checks.specs.Subjects.{is_choice, told_at}
use Rattle.dfdl_checks.specs.declared.purpose.Purpose.TheVariants.{Parsing, Unparsing}

first : (a b : Bool) → (a && b) ≡ true → a ≡ true
first a b h = grind (arith, h)

second : (a b : Bool) → (a && b) ≡ true → b ≡ true
second a b h = grind (arith, h)

-- what is given is written
some-given : (t : Told) → is_given t ≡ true → is_some (written_told t) ≡ true
some-given (Value written) given = refl
some-given Absent given = grind (arith, given)
some-given (Twice place) given = grind (arith, given)

-- a choice by a key has an expression of it
pub has-key : (s : Judged) → s.purpose ≡ Parsing → IsTrue (is_keyed s) → IsSome (key_expression s)
has-key s purpose keyed =
    ap (λ p. is_some (key_expression_for p s)) purpose
    ∙ (ap (λ b. is_some (if b then written_told (told_at s (codes "choiceDispatchKey")) else None))
    (first (is_choice s.kind) (is_given (told_at s (codes "choiceDispatchKey"))) keyed)
    ∙ some-given (told_at s (codes "choiceDispatchKey")) (second (is_choice s.kind) (is_given (told_at s (codes "choiceDispatchKey"))) keyed))

-- for unparsing there is none
pub no-key : (s : Judged) → s.purpose ≡ Unparsing → key_expression s ≡ None
no-key s purpose = ap (λ p. key_expression_for p s) purpose

some-keys : (keys : List (List ℕ)) → is_no_key keys ≡ false → 0 < length keys
some-keys [] none = grind (arith, none)
some-keys (key ∷ keys) none = omega arith

neither : (a b c : Bool) → a ≡ true → (a && (b || c)) ≡ false → (b ≡ false) × (c ≡ false)
neither a b c h none = (grind (arith, h, none), grind (arith, h, none))

module _ (s : Judged) (none : first_breach rules s ≡ None) (needs : IsTrue s.standing.needs_key) where
  keyed : (is_no_key (keys_of_chain s.chain) ≡ false) × (s.standing.repeats_key ≡ false)
  keyed = neither s.standing.needs_key (is_no_key (keys_of_chain s.chain)) s.standing.repeats_key needs (keeps-all s none).keyed

  -- a branch of such a choice has a key
  pub has-keys : 0 < length (keys_of s)
  has-keys =
      subst (λ (b : Bool). 0 < length (if b then keys_of_chain s.chain else [])) (sym needs) (some-keys (keys_of_chain s.chain) keyed.0)

  -- and none again
  pub has-none-again : s.standing.repeats_key ≡ false
  has-none-again = keyed.1
