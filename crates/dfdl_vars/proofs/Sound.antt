-- Changes are kept once each, as long as variables are set, read, entered and left; so there are at most two for each instance.
use Rattle.std.specs.Prelude.{◌≡◌, ℕ, zero, suc, ◌==◌, ◌+◌, ◌*◌, ◌<◌, ◌≤◌, Bool, true, false, Option, Some, List, [], ◌∷◌, ◌++◌, length, take, if◌then◌else◌, refl}
use Rattle.std.proofs.Common.{sym, ◌∙◌, ap, subst, arith, eqb-true, eq-eqb}
use Rattle.dfdl_value.specs.declared.value.Value.{Value}
use Rattle.dfdl_vars.specs.declared.instances.Change.{Change}
use Rattle.dfdl_vars.specs.declared.instances.Change.TheVariants.{Set, Read}
use Rattle.dfdl_vars.specs.declared.instances.Instance.{Instance}
use Rattle.dfdl_vars.specs.Instances.{at_place, set_to, read_as, has, is_set, is_read, place_of, same, made}
use Rattle.dfdl_vars.specs.Kept.{IsSound, elsewhere, times, fresh}
use Rattle.dfdl_vars.proofs.Backs.{has_beyond, same_self}

abbrev one_if : Bool → ℕ
one_if b = if b then 1 else 0

-- the test at each place, after a change that leaves it as it was
pub has_kept : (test : Instance → Bool) (f : Instance → Instance) → ((i : Instance) → test (f i) ≡ test i)
    → (instances : List Instance) (place k : ℕ) → has test (at_place f place instances) k ≡ has test instances k
has_kept test f same_test [] place k = refl
has_kept test f same_test (i ∷ is) zero zero = same_test i
has_kept test f same_test (i ∷ is) zero (suc k) = refl
has_kept test f same_test (i ∷ is) (suc place) zero = refl
has_kept test f same_test (i ∷ is) (suc place) (suc k) = has_kept test f same_test is place k

-- at its own place
has_there : (test : Instance → Bool) (f : Instance → Instance) → ((i : Instance) → test (f i) ≡ true)
    → (instances : List Instance) (place : ℕ) → place < length instances → has test (at_place f place instances) place ≡ true
has_there test f is_true [] place few = absurd (omega (arith, few))
has_there test f is_true (i ∷ is) zero few = is_true i
has_there test f is_true (i ∷ is) (suc place) few = has_there test f is_true is place (omega (arith, few))

-- at another place
pub has_apart : (test : Instance → Bool) (f : Instance → Instance) (instances : List Instance) (place k : ℕ) → (k ≡ place → ⊥)
    → has test (at_place f place instances) k ≡ has test instances k
has_apart test f [] place k apart = refl
has_apart test f (i ∷ is) zero zero apart = absurd (apart refl)
has_apart test f (i ∷ is) zero (suc k) apart = refl
has_apart test f (i ∷ is) (suc place) zero apart = refl
has_apart test f (i ∷ is) (suc place) (suc k) apart = has_apart test f is place k (λ e. apart (ap suc e))

pub times-more : (change other : Change) (changes : List Change) → times change (changes ++ other ∷ []) ≡ times change changes + one_if (same change other)
times-more change other [] = by (same change other)
  where
    by : (b : Bool) → (if b then suc zero else zero) ≡ zero + one_if b
    by true = refl
    by false = refl
times-more change other (c ∷ cs) = by (same change c) (one_if (same change other)) (times-more change other cs)
  where
    by : (b : Bool) (n : ℕ) → times change (cs ++ other ∷ []) ≡ times change cs + n
        → (if b then suc (times change (cs ++ other ∷ [])) else times change (cs ++ other ∷ [])) ≡ (if b then suc (times change cs) else times change cs) + n
    by true n e = omega (arith, e)
    by false n e = e

-- changes of which one more is made, and kept
sound_more : (old new : List Instance) (changes : List Change) (change : Change) → IsSound old changes → made old change ≡ false → made new change ≡ true
    → ((other : Change) → same other change ≡ false → made new other ≡ made old other)
    → ((other : Change) → same other change ≡ true → other ≡ change) → IsSound new (changes ++ change ∷ [])
sound_more old new changes change sound before after others one = record { each = λ other. by other (same other change) refl }
  where
    by : (other : Change) (b : Bool) → same other change ≡ b → times other (changes ++ change ∷ []) ≡ one_if (made new other)
    by other true e =
        let is = one other e in
        let old_times : times other changes ≡ 0 = sound.each other ∙ ap one_if (ap (made old) is ∙ before) in
        let new_made : one_if (made new other) ≡ 1 = ap one_if (ap (made new) is ∙ after) in
        times-more other change changes ∙ (ap (λ (b : Bool). times other changes + one_if b) e ∙ omega (arith, old_times, new_made))
    by other false e =
        times-more other change changes ∙ (ap (λ (b : Bool). times other changes + one_if b) e
        ∙ (add-zero-here (times other changes) ∙ (sound.each other ∙ ap one_if (sym (others other e)))))
      where
        add-zero-here : (n : ℕ) → n + 0 ≡ n
        add-zero-here n = omega arith

pub same_one : (other change : Change) → same other change ≡ true → other ≡ change
same_one (Set a) (Set b) e = ap Set (eqb-true a b e)
same_one (Set a) (Read b) e = let never : false ≡ true = e in absurd (cc)
same_one (Read a) (Set b) e = let never : false ≡ true = e in absurd (cc)
same_one (Read a) (Read b) e = ap Read (eqb-true a b e)

pub other_place : (a b : ℕ) → (a == b) ≡ false → a ≡ b → ⊥
other_place a b e same_place = let never : true ≡ false = sym (eq-eqb a b same_place) ∙ e in cc

pub sound_set : (instances : List Instance) (changes : List Change) (place : ℕ) (value : Value) → IsSound instances changes
    → has is_set instances place ≡ false → place < length instances
    → IsSound (at_place (set_to (Some value)) place instances) (changes ++ Set place ∷ [])
sound_set instances changes place value sound free few =
    sound_more instances _ changes (Set place) sound free (has_there is_set (set_to (Some value)) (λ i. refl) instances place few) others (λ other e. same_one other (Set place) e)
  where
    others : (other : Change) → same other (Set place) ≡ false → made (at_place (set_to (Some value)) place instances) other ≡ made instances other
    others (Set k) e = has_apart is_set (set_to (Some value)) instances place k (other_place k place e)
    others (Read k) e = has_kept is_read (set_to (Some value)) (λ i. refl) instances place k

pub sound_read : (instances : List Instance) (changes : List Change) (place : ℕ) → IsSound instances changes
    → has is_read instances place ≡ false → place < length instances
    → IsSound (at_place (read_as true) place instances) (changes ++ Read place ∷ [])
sound_read instances changes place sound free few =
    sound_more instances _ changes (Read place) sound free (has_there is_read (read_as true) (λ i. refl) instances place few) others (λ other e. same_one other (Read place) e)
  where
    others : (other : Change) → same other (Read place) ≡ false → made (at_place (read_as true) place instances) other ≡ made instances other
    others (Set k) e = has_kept is_set (read_as true) (λ i. refl) instances place k
    others (Read k) e = has_apart is_read (read_as true) instances place k (other_place k place e)

-- an instance more, of which the test says no
has_longer : (test : Instance → Bool) (instances : List Instance) (i : Instance) (k : ℕ) → test i ≡ false → has test (instances ++ i ∷ []) k ≡ has test instances k
has_longer test [] i zero no_more = no_more
has_longer test [] i (suc k) no_more = refl
has_longer test (x ∷ xs) i zero no_more = refl
has_longer test (x ∷ xs) i (suc k) no_more = has_longer test xs i k no_more

pub sound_entered : (instances : List Instance) (changes : List Change) (var : ℕ) (start : Option Value) → IsSound instances changes
    → IsSound (instances ++ fresh var start ∷ []) changes
sound_entered instances changes var start sound = record { each = λ c. sound.each c ∙ ap one_if (sym (shows c)) }
  where
    shows : (c : Change) → made (instances ++ fresh var start ∷ []) c ≡ made instances c
    shows (Set k) = has_longer is_set instances (fresh var start) k refl
    shows (Read k) = has_longer is_read instances (fresh var start) k refl

has_fewer : (test : Instance → Bool) (instances : List Instance) (n k : ℕ) → length instances ≤ suc n → (k ≡ n → ⊥) → has test (take n instances) k ≡ has test instances k
has_fewer test [] zero k few apart = refl
has_fewer test [] (suc n) k few apart = refl
has_fewer test (i ∷ is) zero zero few apart = absurd (apart refl)
has_fewer test (i ∷ is) zero (suc k) few apart = sym (has_beyond test is k (omega (arith, few)))
has_fewer test (i ∷ is) (suc n) zero few apart = refl
has_fewer test (i ∷ is) (suc n) (suc k) few apart = has_fewer test is n k (omega (arith, few)) (λ e. apart (ap suc e))

has_last : (test : Instance → Bool) (instances : List Instance) (n : ℕ) → has test (take n instances) n ≡ false
has_last test is zero = refl
has_last test [] (suc n) = refl
has_last test (i ∷ is) (suc n) = has_last test is n

made_fewer : (instances : List Instance) (n : ℕ) (c : Change) → length instances ≤ suc n → (place_of c ≡ n → ⊥) → made (take n instances) c ≡ made instances c
made_fewer instances n (Set k) few apart = has_fewer is_set instances n k few apart
made_fewer instances n (Read k) few apart = has_fewer is_read instances n k few apart

made_last : (instances : List Instance) (n : ℕ) (c : Change) → place_of c ≡ n → made (take n instances) c ≡ false
made_last instances n (Set k) at = subst (λ (m : ℕ). has is_set (take n instances) m ≡ false) (sym at) (has_last is_set instances n)
made_last instances n (Read k) at = subst (λ (m : ℕ). has is_read (take n instances) m ≡ false) (sym at) (has_last is_read instances n)

-- changes elsewhere are kept as often, and no other ones
times_there : (c : Change) (place : ℕ) (changes : List Change) → place_of c ≡ place → times c (elsewhere place changes) ≡ 0
times_there c place [] at = refl
times_there c place (d ∷ ds) at = by (place_of d == place) refl (same c d) refl (times_there c place ds at)
  where
    by : (b : Bool) → (place_of d == place) ≡ b → (s : Bool) → same c d ≡ s → times c (elsewhere place ds) ≡ 0
        → times c (if b then elsewhere place ds else d ∷ elsewhere place ds) ≡ 0
    by true e s f rest = rest
    by false e true f rest =
        let never : true ≡ false = sym (eq-eqb (place_of d) place (ap place_of (sym (same_one c d f)) ∙ at)) ∙ e in absurd (cc)
    by false e false f rest = ap (λ (b : Bool). if b then suc (times c (elsewhere place ds)) else times c (elsewhere place ds)) f ∙ rest

times_elsewhere : (c : Change) (place : ℕ) (changes : List Change) → (place_of c ≡ place → ⊥) → times c (elsewhere place changes) ≡ times c changes
times_elsewhere c place [] apart = refl
times_elsewhere c place (d ∷ ds) apart = by (place_of d == place) refl (same c d) refl (times_elsewhere c place ds apart)
  where
    by : (b : Bool) → (place_of d == place) ≡ b → (s : Bool) → same c d ≡ s → times c (elsewhere place ds) ≡ times c ds
        → times c (if b then elsewhere place ds else d ∷ elsewhere place ds) ≡ (if s then suc (times c ds) else times c ds)
    by true e true f rest = absurd (apart (ap place_of (same_one c d f) ∙ eqb-true (place_of d) place e))
    by true e false f rest = rest
    by false e s f rest = ap (λ (b : Bool). if b then suc (times c (elsewhere place ds)) else times c (elsewhere place ds)) f
        ∙ ap (λ (n : ℕ). if s then suc n else n) rest

pub sound_left : (instances : List Instance) (changes : List Change) (n : ℕ) → IsSound instances changes → length instances ≤ suc n
    → IsSound (take n instances) (elsewhere n changes)
sound_left instances changes n sound few = record { each = λ c. by c (place_of c == n) refl }
  where
    by : (c : Change) (b : Bool) → (place_of c == n) ≡ b → times c (elsewhere n changes) ≡ one_if (made (take n instances) c)
    by c true e = let at = eqb-true (place_of c) n e in times_there c n changes at ∙ ap one_if (sym (made_last instances n c at))
    by c false e = let apart = other_place (place_of c) n e in
        times_elsewhere c n changes apart ∙ (sound.each c ∙ ap one_if (sym (made_fewer instances n c few apart)))

-- Two for each instance, at most: the changes of the last one are as many as they are counted, and the others by recursion.
turned : (k n : ℕ) (b : Bool) → (k == n) ≡ b → (n == k) ≡ b
turned k n true e = eq-eqb n k (sym (eqb-true k n e))
turned k n false e = by (n == k) refl
  where
    by : (b : Bool) → (n == k) ≡ b → b ≡ false
    by true f = absurd (other_place k n e (sym (eqb-true n k f)))
    by false f = refl

parts : (n : ℕ) (changes : List Change) → length changes ≡ length (elsewhere n changes) + (times (Set n) changes + times (Read n) changes)
parts n [] = refl
parts n (Set k ∷ cs) = by (k == n) (n == k) (turned k n (k == n) refl) (parts n cs)
  where
    by : (b c : Bool) → c ≡ b → length cs ≡ length (elsewhere n cs) + (times (Set n) cs + times (Read n) cs)
        → suc (length cs) ≡ length (if b then elsewhere n cs else Set k ∷ elsewhere n cs) + ((if c then suc (times (Set n) cs) else times (Set n) cs) + times (Read n) cs)
    by true true e rest = omega (arith, rest)
    by true false e rest = absurd (cc)
    by false true e rest = absurd (cc)
    by false false e rest = omega (arith, rest)
parts n (Read k ∷ cs) = by (k == n) (n == k) (turned k n (k == n) refl) (parts n cs)
  where
    by : (b c : Bool) → c ≡ b → length cs ≡ length (elsewhere n cs) + (times (Set n) cs + times (Read n) cs)
        → suc (length cs) ≡ length (if b then elsewhere n cs else Read k ∷ elsewhere n cs) + (times (Set n) cs + (if c then suc (times (Read n) cs) else times (Read n) cs))
    by true true e rest = omega (arith, rest)
    by true false e rest = absurd (cc)
    by false true e rest = absurd (cc)
    by false false e rest = omega (arith, rest)

at_most : (b : Bool) (n : ℕ) → n ≡ one_if b → n ≤ 1
at_most true n e = omega (arith, e)
at_most false n e = omega (arith, e)

pub few_changes : (n : ℕ) (instances : List Instance) (changes : List Change) → IsSound instances changes → length instances ≤ n → length changes ≤ 2 * n
few_changes zero [] changes sound few = none changes (λ c. sound.each c ∙ ap one_if (nothing c))
  where
    nothing : (c : Change) → made [] c ≡ false
    nothing (Set k) = refl
    nothing (Read k) = refl

    none : (changes : List Change) → ((c : Change) → times c changes ≡ 0) → length changes ≤ 0
    none [] no_times = omega arith
    none (c ∷ cs) no_times =
        let never : suc (times c cs) ≡ 0 = sym (ap (λ (b : Bool). if b then suc (times c cs) else times c cs) (same_self c)) ∙ no_times c in absurd (omega (arith, never))
few_changes zero (i ∷ is) changes sound few = absurd (omega (arith, few))
few_changes (suc n) instances changes sound few =
    let rest : length (elsewhere n changes) ≤ 2 * n = few_changes n (take n instances) (elsewhere n changes) (sound_left instances changes n sound few) (taken n instances) in
    let set : times (Set n) changes ≤ 1 = at_most (made instances (Set n)) _ (sound.each (Set n)) in
    let read : times (Read n) changes ≤ 1 = at_most (made instances (Read n)) _ (sound.each (Read n)) in
    let all = parts n changes in
    omega (arith, rest, set, read, all)
  where
    taken : (n : ℕ) (instances : List Instance) → length (take n instances) ≤ n
    taken zero is = omega arith
    taken (suc n) [] = omega arith
    taken (suc n) (i ∷ is) = let less : length (take n is) ≤ n = taken n is in omega (arith, less)
