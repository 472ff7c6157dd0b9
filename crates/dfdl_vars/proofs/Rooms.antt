-- Room for changes, and how lists that are equal share what holds of them.
use Rattle.std.specs.Prelude.{◌≡◌, ℕ, zero, suc, ◌+◌, ◌*◌, ◌<◌, ◌≤◌, Bool, false, Option, Some, List, [], ◌∷◌, ◌++◌, length, take, drop, if◌then◌else◌, refl}
use Rattle.std.proofs.Common.{sym, ◌∙◌, ap, subst, arith}
use Rattle.std.specs.List.{slice_get}
use Rattle.std.proofs.lemmas.List.{length-append}
use Rattle.dfdl_value.specs.declared.value.Value.{Value}
use Rattle.dfdl_vars.specs.declared.instances.Change.{Change}
use Rattle.dfdl_vars.specs.declared.instances.Change.TheVariants.{Set, Read}
use Rattle.dfdl_vars.specs.declared.instances.Instance.{Instance}
use Rattle.dfdl_vars.specs.declared.values.VarDef.{VarDef}
use Rattle.dfdl_vars.specs.Instances.{at_place, has, is_set, is_read, made, cleared}
use Rattle.dfdl_vars.specs.Kept.{Kept, IsSound, start_as, all_defined, all_given, fresh, times}
use Rattle.dfdl_vars.specs.Marks.{LeadsBack}
use Rattle.dfdl_vars.specs.VarsShown.{kept_as}
use Rattle.dfdl_vars.proofs.Backs.{length-at}
use Rattle.dfdl_vars.proofs.Sound.{few_changes, has_kept}

pub room_more : (old new : List Instance) (changes : List Change) (c : Change) (room : ℕ) → length new ≡ length old → IsSound new (changes ++ c ∷ [])
    → 2 * length old ≤ room → length changes < room
room_more old new changes c room same sound few =
    let most : length (changes ++ c ∷ []) ≤ 2 * length old = few_changes (length old) new (changes ++ c ∷ []) sound (omega (arith, same)) in
    let one : length (changes ++ c ∷ []) ≡ length changes + 1 = length-append changes (c ∷ []) in
    omega (arith, most, one, few)

pub carried : (is others : List Instance) (cs changes : List Change) → others ≡ is → changes ≡ cs → IsSound is cs → IsSound others changes
carried is others cs changes e f sound =
    subst (λ (l : List Instance). IsSound l changes) (sym e) (subst (λ (l : List Change). IsSound is l) (sym f) sound)

drop_front : (xs ys : List Change) → drop (length xs) (xs ++ ys) ≡ ys
drop_front [] ys = refl
drop_front (x ∷ xs) ys = drop_front xs ys

take_front : (xs ys : List Change) → take (length xs) (xs ++ ys) ≡ xs
take_front [] ys = refl
take_front (x ∷ xs) ys = ap (λ (l : List Change). x ∷ l) (take_front xs ys)

-- what is left of the instances and the changes behind the mark
pub instances_back : (base now : Kept) → LeadsBack base now
    → cleared (drop (length base.changes) now.changes) (take (length base.instances) now.instances) ≡ base.instances
instances_back base now way =
    ap (λ (l : List Change). cleared l (take (length base.instances) now.instances))
    (ap (drop (length base.changes)) way.split ∙ drop_front base.changes way.newer)
    ∙ way.back

pub changes_back : (base now : Kept) → LeadsBack base now → take (length base.changes) now.changes ≡ base.changes
changes_back base now way = ap (take (length base.changes)) way.split ∙ take_front base.changes way.newer

pub kept_same : (i j : List Instance) (c d : List Change) (g h m n : ℕ) → i ≡ j → c ≡ d → g ≡ h → m ≡ n → kept_as i c g m ≡ kept_as j d h n
kept_same i j c d g h m n e f k l =
    ap (λ (x : List Instance). kept_as x c g m) e ∙ (ap (λ (x : List Change). kept_as j x g m) f
    ∙ (ap (λ (x : ℕ). kept_as j d x m) k ∙ ap (λ (x : ℕ). kept_as j d h x) l))

-- instances of definitions are neither set nor read
has_defined : (test : Instance → Bool) → ((var : ℕ) (start : Option Value) → test (fresh var start) ≡ false) → (var : ℕ) (definitions : List VarDef) (place : ℕ)
    → has test (all_defined var definitions) place ≡ false
has_defined test fails var [] place = refl
has_defined test fails var (d ∷ ds) zero = fails var d.start
has_defined test fails var (d ∷ ds) (suc place) = has_defined test fails (suc var) ds place

has_given : (test : Instance → Bool) → ((start : Option Value) (i : Instance) → test (start_as start i) ≡ test i) → (given : List (ℕ × Value)) (instances : List Instance) (place : ℕ)
    → has test (all_given given instances) place ≡ has test instances place
has_given test same_test [] instances place = refl
has_given test same_test (g ∷ gs) instances place =
    has_given test same_test gs (at_place (start_as (Some g.1)) g.0 instances) place
    ∙ has_kept test (start_as (Some g.1)) (same_test (Some g.1)) instances g.0 place

pub sound_opened : (definitions : List VarDef) (given : List (ℕ × Value)) → IsSound (all_given given (all_defined zero definitions)) []
sound_opened definitions given = record { each = λ c. each c }
  where
    each : (c : Change) → times c [] ≡ (if made (all_given given (all_defined zero definitions)) c then 1 else 0)
    each (Set k) = sym (ap (λ (b : Bool). if b then 1 else 0)
        (has_given is_set (λ start i. refl) given (all_defined zero definitions) k ∙ has_defined is_set (λ var start. refl) zero definitions k))
    each (Read k) = sym (ap (λ (b : Bool). if b then 1 else 0)
        (has_given is_read (λ start i. refl) given (all_defined zero definitions) k ∙ has_defined is_read (λ var start. refl) zero definitions k))

length_defined : (var : ℕ) (definitions : List VarDef) → length (all_defined var definitions) ≡ length definitions
length_defined var [] = refl
length_defined var (d ∷ ds) = ap suc (length_defined (suc var) ds)

length_given : (given : List (ℕ × Value)) (instances : List Instance) → length (all_given given instances) ≡ length instances
length_given [] instances = refl
length_given (g ∷ gs) instances = length_given gs (at_place (start_as (Some g.1)) g.0 instances) ∙ length-at (start_as (Some g.1)) g.0 instances

pub length_opened : (definitions : List VarDef) (given : List (ℕ × Value)) → length (all_given given (all_defined zero definitions)) ≡ length definitions
length_opened definitions given = length_given given (all_defined zero definitions) ∙ length_defined zero definitions

-- one given value after another
pub given_more : (given : List (ℕ × Value)) (at : ℕ) (one : ℕ × Value) (instances : List Instance) → slice_get given at ≡ Some one
    → all_given (drop (at + 1) given) (at_place (start_as (Some one.1)) one.0 instances) ≡ all_given (drop at given) instances
given_more [] at one instances e = absurd (cc)
given_more (g ∷ gs) zero one instances e =
    let is : g ≡ one = cc in ap (λ (p : ℕ × Value). all_given gs (at_place (start_as (Some p.1)) p.0 instances)) (sym is)
given_more (g ∷ gs) (suc at) one instances e =
    let next : suc at + 1 ≡ suc (at + 1) = omega arith in
    ap (λ (n : ℕ). all_given (drop n (g ∷ gs)) (at_place (start_as (Some one.1)) one.0 instances)) next ∙ given_more gs at one instances e
