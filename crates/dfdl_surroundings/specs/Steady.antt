-- Mirror for the prover: reading a variable changes no answer.
use Rattle.std.specs.Prelude.{◌≡◌, ℕ, zero, suc, ◌+◌, ◌-◌, nat_lt, Bool, true, false, if◌then◌else◌, List, [], ◌∷◌, ◌++◌, length, Option, Some, None, refl}
use Rattle.std.specs.List.{slice_get}
use Rattle.std.proofs.Common.{◌∙◌, ap, sym}
use Rattle.dfdl_value.specs.declared.value.Value.{Value}
use Rattle.dfdl_expression_eval.specs.Asks.{Query, Item, Count, Length, Variable, OccursIndex}
use Rattle.dfdl_vars.specs.declared.instances.Change.{Change}
use Rattle.dfdl_vars.specs.declared.instances.Change.TheVariants.{Read}
use Rattle.dfdl_vars.specs.declared.instances.Instance.{Instance}
use Rattle.dfdl_vars.specs.Instances.{at_place, has, is_read, read_as}
use Rattle.dfdl_vars.specs.Kept.{Kept, either, innermost, is_of, place_now, start_of, value_in, value_of, with_read}
use Rattle.dfdl_surroundings.specs.Around.{Seen}
use Rattle.dfdl_surroundings.specs.Answers.{answer_in, around, told_or, variable_read, variable_value}

-- instances of which one is read
abbrev read_at : ℕ → List Instance → List Instance
read_at place instances = at_place (read_as true) place instances

as_many : (place : ℕ) (instances : List Instance) → length (read_at place instances) ≡ length instances
as_many place [] = refl
as_many zero (i ∷ is) = refl
as_many (suc place) (i ∷ is) = ap suc (as_many place is)

same_variable : (var place at : ℕ) (instances : List Instance) → has (is_of var) (read_at place instances) at ≡ has (is_of var) instances at
same_variable var place at [] = refl
same_variable var zero zero (i ∷ is) = refl
same_variable var zero (suc at) (i ∷ is) = refl
same_variable var (suc place) zero (i ∷ is) = refl
same_variable var (suc place) (suc at) (i ∷ is) = same_variable var place at is

same_innermost : (globals var place count : ℕ) (instances : List Instance)
    → innermost (read_at place instances) globals var count ≡ innermost instances globals var count
same_innermost globals var place zero instances = refl
same_innermost globals var place (suc count) instances =
    ap (λ (b : Bool). if b then globals + count else innermost (read_at place instances) globals var count)
    (same_variable var place (globals + count) instances)
    ∙ ap (λ (n : ℕ). if has (is_of var) instances (globals + count) then globals + count else n) (same_innermost globals var place count instances)

-- the value of an instance, where each variable's first instance begins with these
abbrev value_by : (ℕ → Option Value) → Option Instance → Option Value
value_by first None = None
value_by first (Some instance) = either instance.setting (either instance.start (first instance.var))

by_first : (instances : List Instance) (instance : Option Instance)
    → value_in instances instance ≡ value_by (λ var. start_of (slice_get instances var)) instance
by_first instances None = refl
by_first instances (Some instance) = refl

same_by : (f g : ℕ → Option Value) (instance : Option Instance) → ((var : ℕ) → f var ≡ g var) → value_by f instance ≡ value_by g instance
same_by f g None each = refl
same_by f g (Some instance) each = ap (λ (v : Option Value). either instance.setting (either instance.start v)) (each instance.var)

same_start : (place at : ℕ) (instances : List Instance) → start_of (slice_get (read_at place instances) at) ≡ start_of (slice_get instances at)
same_start place at [] = refl
same_start zero zero (i ∷ is) = refl
same_start zero (suc at) (i ∷ is) = refl
same_start (suc place) zero (i ∷ is) = refl
same_start (suc place) (suc at) (i ∷ is) = same_start place at is

same_value : (f : ℕ → Option Value) (place at : ℕ) (instances : List Instance)
    → value_by f (slice_get (read_at place instances) at) ≡ value_by f (slice_get instances at)
same_value f place at [] = refl
same_value f zero zero (i ∷ is) = refl
same_value f zero (suc at) (i ∷ is) = refl
same_value f (suc place) zero (i ∷ is) = refl
same_value f (suc place) (suc at) (i ∷ is) = same_value f place at is

same_in : (place at : ℕ) (instances : List Instance)
    → value_in (read_at place instances) (slice_get (read_at place instances) at) ≡ value_in instances (slice_get instances at)
same_in place at instances =
    by_first (read_at place instances) (slice_get (read_at place instances) at)
    ∙ same_by (λ var. start_of (slice_get (read_at place instances) var)) (λ var. start_of (slice_get instances var))
    (slice_get (read_at place instances) at) (λ var. same_start place var instances)
    ∙ same_value (λ var. start_of (slice_get instances var)) place at instances
    ∙ sym (by_first instances (slice_get instances at))

-- the place of the instance that a variable stands for
same_place : (globals var place : ℕ) (instances : List Instance)
    → innermost (read_at place instances) globals var (length (read_at place instances) - globals) ≡ innermost instances globals var (length instances - globals)
same_place globals var place instances =
    ap (λ (n : ℕ). innermost (read_at place instances) globals var (n - globals)) (as_many place instances)
    ∙ same_innermost globals var place (length instances - globals) instances

same_now : (kept : Kept) (changes : List Change) (place var : ℕ)
    → value_of (record kept { instances = read_at place kept.instances; changes = changes }) var ≡ value_of kept var
same_now kept changes place var =
    ap (λ (n : ℕ). value_in (read_at place kept.instances) (slice_get (read_at place kept.instances) n)) (same_place kept.globals var place kept.instances)
    ∙ same_in place (place_now kept var) kept.instances

-- what holds of each of two
one_of : (P : Kept → Type 0) (b : Bool) (x y : Kept) → P x → P y → P (if b then x else y)
one_of P true x y p q = p
one_of P false x y p q = q

-- what is kept when the instance at a place was read first now
abbrev first_read : Kept → ℕ → Kept
first_read kept place = record kept { instances = read_at place kept.instances; changes = kept.changes ++ Read place ∷ [] }

read_stays : (kept : Kept) (place var : ℕ) → variable_value (with_read kept place) var ≡ variable_value kept var
read_stays kept place var =
    one_of (λ k. variable_value k var ≡ variable_value kept var) (has is_read kept.instances place) kept (first_read kept place) refl
    (ap (λ (v : Option Value). if nat_lt var kept.globals then v else None) (same_now kept (kept.changes ++ Read place ∷ []) place var))

value_stays : (kept : Kept) (number var : ℕ) → variable_value (variable_read kept number) var ≡ variable_value kept var
value_stays kept number var =
    one_of (λ k. variable_value k var ≡ variable_value kept var) (nat_lt number kept.globals) (with_read kept (place_now kept number)) kept
    (read_stays kept (place_now kept number) var) refl

by_query : (seen : Seen) (kept : Kept) (number : ℕ) (query : Query)
    → answer_in (around seen (variable_read kept number)) query ≡ answer_in (around seen kept) query
by_query seen kept number (Item path places) = refl
by_query seen kept number (Count path places) = refl
by_query seen kept number (Length path places extent) = refl
by_query seen kept number (Variable var) = ap (told_or 7) (value_stays kept number var)
by_query seen kept number OccursIndex = refl

-- the answers stay the same when a variable is read
pub same_answers : (seen : Seen) (kept : Kept) (number : ℕ) → answer_in (around seen (variable_read kept number)) ≡ answer_in (around seen kept)
same_answers seen kept number = λ i query. by_query seen kept number query i
