-- One instance of a list, and lists of changes that grow and shrink.
use Rattle.std.specs.Prelude.{◌≡◌, ℕ, zero, suc, ◌==◌, ◌+◌, ◌-◌, ◌<◌, ◌≤◌, nat_lt, Bool, true, false, not, List, [], ◌∷◌, ◌++◌, length, take, drop, slice_set, slice_index_or, if◌then◌else◌, refl}
use Rattle.std.specs.List.{filter}
use Rattle.std.proofs.Common.{sym, ◌∙◌, ap, arith}
use Rattle.std.proofs.lemmas.List.{drop-append-le}
use Rattle.dfdl_vars.specs.declared.instances.Change.{Change}
use Rattle.dfdl_vars.specs.declared.instances.Instance.{Instance}
use Rattle.dfdl_vars.specs.Instances.{at_place, has, place_of, clear, cleared}
use Rattle.dfdl_vars.specs.Kept.{elsewhere, innermost, is_of}
use Rattle.dfdl_vars.specs.Marks.{of_first}
use Rattle.dfdl_vars.proofs.Backs.{cleared-append}

pub set_place : (f : Instance → Instance) (instances : List Instance) (place : ℕ) (i : Instance) → i ≡ slice_index_or instances place i
    → slice_set instances place (f i) ≡ at_place f place instances
set_place f [] place i is = refl
set_place f (first ∷ rest) zero i is = ap (λ (n : Instance). f n ∷ rest) is
set_place f (first ∷ rest) (suc place) i is = ap (λ (l : List Instance). first ∷ l) (set_place f rest place i is)

pub has_place : (test : Instance → Bool) (instances : List Instance) (place : ℕ) (d : Instance) → place < length instances
    → test (slice_index_or instances place d) ≡ has test instances place
has_place test [] place d few = absurd (omega (arith, few))
has_place test (i ∷ is) zero d few = refl
has_place test (i ∷ is) (suc place) d few = has_place test is place d (omega (arith, few))

pub filter_elsewhere : (place : ℕ) (changes : List Change) → filter (λ c. not (place_of c == place)) changes ≡ elsewhere place changes
filter_elsewhere place [] = refl
filter_elsewhere place (c ∷ cs) = by (place_of c == place) (filter_elsewhere place cs)
  where
    by : (b : Bool) → filter (λ c. not (place_of c == place)) cs ≡ elsewhere place cs
        → (if not b then c ∷ filter (λ c. not (place_of c == place)) cs else filter (λ c. not (place_of c == place)) cs) ≡ (if b then elsewhere place cs else c ∷ elsewhere place cs)
    by true e = e
    by false e = ap (λ (l : List Change). c ∷ l) e

pub filter_first : (count : ℕ) (changes : List Change) → filter (λ c. nat_lt (place_of c) count) changes ≡ of_first count changes
filter_first count [] = refl
filter_first count (c ∷ cs) = by (nat_lt (place_of c) count) (filter_first count cs)
  where
    by : (b : Bool) → filter (λ c. nat_lt (place_of c) count) cs ≡ of_first count cs
        → (if b then c ∷ filter (λ c. nat_lt (place_of c) count) cs else filter (λ c. nat_lt (place_of c) count) cs)
        ≡ (if b then c ∷ of_first count cs else of_first count cs)
    by true e = ap (λ (l : List Change). c ∷ l) e
    by false e = e

-- the last change, taken back
pub back_one : (count : ℕ) (rest : List Change) (c : Change) (instances : List Instance) → count ≤ length rest
    → cleared (drop count (rest ++ c ∷ [])) instances ≡ cleared (drop count rest) (clear c instances)
back_one count rest c instances few =
    ap (λ (l : List Change). cleared l instances) (drop-append-le count rest (c ∷ []) few) ∙ cleared-append (drop count rest) (c ∷ []) instances

pub none_left : (count : ℕ) (changes : List Change) (instances : List Instance) → length changes ≤ count → cleared (drop count changes) instances ≡ instances
none_left zero [] instances few = refl
none_left zero (c ∷ cs) instances few = absurd (omega (arith, few))
none_left (suc count) [] instances few = refl
none_left (suc count) (c ∷ cs) instances few = none_left count cs instances (omega (arith, few))

pub all_taken : (count : ℕ) (changes : List Change) → length changes ≤ count → take count changes ≡ changes
all_taken zero [] few = refl
all_taken zero (c ∷ cs) few = absurd (omega (arith, few))
all_taken (suc count) [] few = refl
all_taken (suc count) (c ∷ cs) few = ap (λ (l : List Change). c ∷ l) (all_taken count cs (omega (arith, few)))

-- an instance that isn't one of the variable
seek_one : (instances : List Instance) (globals var count : ℕ) → has (is_of var) instances (globals + count) ≡ false
    → innermost instances globals var (suc count) ≡ innermost instances globals var count
seek_one instances globals var count e = ap (λ (b : Bool). if b then globals + count else innermost instances globals var count) e

pub seek_on : (instances : List Instance) (globals var place : ℕ) → globals < place → has (is_of var) instances (place - 1) ≡ false
    → innermost instances globals var (place - 1 - globals) ≡ innermost instances globals var (place - globals)
seek_on instances globals var place more e =
    let count = place - 1 - globals in
    let at : place - 1 ≡ globals + count = omega (arith, more) in
    let next : suc count ≡ place - globals = omega (arith, more) in
    sym (seek_one instances globals var count (ap (has (is_of var) instances) (sym at) ∙ e)) ∙ ap (innermost instances globals var) next
