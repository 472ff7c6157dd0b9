-- Behind going back to any mark each change that the instances show is kept once, and no other one.
use Rattle.std.specs.Prelude.{◌≡◌, ℕ, zero, suc, ◌+◌, ◌<◌, ◌≤◌, nat_lt, max, Bool, true, false, None, List, [], ◌∷◌, ◌++◌, length, take, drop, if◌then◌else◌, refl}
use Rattle.std.proofs.Common.{sym, ◌∙◌, ap, subst, arith, append_assoc}
use Rattle.std.proofs.lemmas.Bool.Decides.{nat_tests}
use Rattle.std.proofs.lemmas.List.{take-append-drop, length-take}
use Rattle.dfdl_vars.specs.declared.instances.Change.{Change}
use Rattle.dfdl_vars.specs.declared.instances.Change.TheVariants.{Set, Read}
use Rattle.dfdl_vars.specs.declared.instances.Instance.{Instance}
use Rattle.dfdl_vars.specs.declared.instances.VarMark.{VarMark}
use Rattle.dfdl_vars.specs.Instances.{at_place, set_to, read_as, has, is_set, is_read, place_of, same, made, clear, cleared}
use Rattle.dfdl_vars.specs.Kept.{Kept, IsSound, times}
use Rattle.dfdl_vars.specs.Marks.{LeadsBack, gone_back, left_open, mark_of, of_first}
use Rattle.dfdl_vars.proofs.Backs.{clear_beyond, length-cleared, length_taken, here, has_beyond, made_beyond, same_self}
use Rattle.dfdl_vars.proofs.Rooms.{instances_back, changes_back, kept_same}
use Rattle.dfdl_vars.proofs.Sound.{has_apart, has_kept, other_place, same_one, times-more}

abbrev one_if : Bool → ℕ
one_if b = if b then 1 else 0

below : (a n : ℕ) → nat_lt a n ≡ true → a < n
below a n e = grind (arith, nat_tests, e)

not_below : (a n : ℕ) → nat_lt a n ≡ false → n ≤ a
not_below a n e = grind (arith, nat_tests, e)

-- the test at a place where the change was taken back
has_none : (test : Instance → Bool) (f : Instance → Instance) → ((i : Instance) → test (f i) ≡ false)
    → (instances : List Instance) (place : ℕ) → has test (at_place f place instances) place ≡ false
has_none test f is_false [] place = refl
has_none test f is_false (i ∷ is) zero = is_false i
has_none test f is_false (i ∷ is) (suc place) = has_none test f is_false is place

made_none : (change : Change) (instances : List Instance) → made (clear change instances) change ≡ false
made_none (Set place) instances = has_none is_set (set_to None) (λ i. refl) instances place
made_none (Read place) instances = has_none is_read (read_as false) (λ i. refl) instances place

-- at all others
made_others : (change other : Change) (instances : List Instance) → same other change ≡ false → made (clear change instances) other ≡ made instances other
made_others (Set place) (Set k) instances e = has_apart is_set (set_to None) instances place k (other_place k place e)
made_others (Set place) (Read k) instances e = has_kept is_read (set_to None) (λ i. refl) instances place k
made_others (Read place) (Set k) instances e = has_kept is_set (read_as false) (λ i. refl) instances place k
made_others (Read place) (Read k) instances e = has_apart is_read (read_as false) instances place k (other_place k place e)

-- the last change is taken back
sound_one_back : (instances : List Instance) (changes : List Change) (change : Change) → IsSound instances (changes ++ change ∷ [])
    → IsSound (clear change instances) changes
sound_one_back instances changes change sound = record { each = λ other. by other (same other change) refl }
  where
    one : (b : Bool) (n : ℕ) → n + 1 ≡ one_if b → n ≡ 0
    one true n e = omega (arith, e)
    one false n e = omega (arith, e)

    none : (n : ℕ) (b : Bool) → n + 0 ≡ one_if b → n ≡ one_if b
    none n true e = omega (arith, e)
    none n false e = omega (arith, e)

    by : (other : Change) (b : Bool) → same other change ≡ b → times other changes ≡ one_if (made (clear change instances) other)
    by other true e =
        let all : times other changes + 1 ≡ one_if (made instances other) =
        ap (λ (b : Bool). times other changes + one_if b) (sym e) ∙ (sym (times-more other change changes) ∙ sound.each other) in
        let gone : made (clear change instances) other ≡ false =
        ap (made (clear change instances)) (same_one other change e) ∙ made_none change instances in
        one (made instances other) (times other changes) all ∙ ap one_if (sym gone)
    by other false e =
        let all : times other changes + 0 ≡ one_if (made instances other) =
        ap (λ (b : Bool). times other changes + one_if b) (sym e) ∙ (sym (times-more other change changes) ∙ sound.each other) in
        none (times other changes) (made instances other) all ∙ ap one_if (sym (made_others change other instances e))

-- the last changes are taken back
sound_all_back : (instances : List Instance) (changes newer : List Change) → IsSound instances (changes ++ newer) → IsSound (cleared newer instances) changes
sound_all_back instances changes [] sound = subst (λ (l : List Change). IsSound instances l) (nothing changes) sound
  where
    nothing : (xs : List Change) → xs ++ [] ≡ xs
    nothing [] = refl
    nothing (x ∷ xs) = ap (λ (l : List Change). x ∷ l) (nothing xs)
sound_all_back instances changes (c ∷ cs) sound =
    sound_one_back (cleared cs instances) changes c
    (sound_all_back instances (changes ++ c ∷ []) cs (subst (λ (l : List Change). IsSound instances l) (sym (append_assoc changes (c ∷ []) cs)) sound))

-- the first instances, and what changed in them
has_first : (test : Instance → Bool) (count : ℕ) (instances : List Instance) (place : ℕ)
    → has test (take count instances) place ≡ (if nat_lt place count then has test instances place else false)
has_first test count instances place = by (nat_lt place count) refl
  where
    there : (count : ℕ) (instances : List Instance) (place : ℕ) → place < count → has test (take count instances) place ≡ has test instances place
    there zero instances place less = absurd (omega (arith, less))
    there (suc count) [] place less = refl
    there (suc count) (i ∷ is) zero less = refl
    there (suc count) (i ∷ is) (suc place) less = there count is place (omega (arith, less))

    beyond : length (take count instances) ≤ count → count ≤ place → length (take count instances) ≤ place
    beyond few more = omega (arith, few, more)

    by : (b : Bool) → nat_lt place count ≡ b → has test (take count instances) place ≡ (if b then has test instances place else false)
    by true e = there count instances place (below place count e)
    by false e = has_beyond test (take count instances) place (beyond (length_taken count instances) (not_below place count e))

made_first : (count : ℕ) (instances : List Instance) (c : Change)
    → made (take count instances) c ≡ (if nat_lt (place_of c) count then made instances c else false)
made_first count instances (Set place) = has_first is_set count instances place
made_first count instances (Read place) = has_first is_read count instances place

times_first : (count : ℕ) (c : Change) (changes : List Change) → times c (of_first count changes) ≡ (if nat_lt (place_of c) count then times c changes else zero)
times_first count c [] = by (nat_lt (place_of c) count)
  where
    by : (b : Bool) → zero ≡ (if b then zero else zero)
    by true = refl
    by false = refl
times_first count c (d ∷ ds) = by (same c d) refl (nat_lt (place_of d) count) refl (times_first count c ds)
  where
    by : (s : Bool) → same c d ≡ s → (b : Bool) → nat_lt (place_of d) count ≡ b
        → times c (of_first count ds) ≡ (if nat_lt (place_of c) count then times c ds else zero)
        → times c (if b then d ∷ of_first count ds else of_first count ds) ≡ (if nat_lt (place_of c) count then (if s then suc (times c ds) else times c ds) else zero)
    by s f true e rest =
        ap (λ (b : Bool). if b then suc (times c (of_first count ds)) else times c (of_first count ds)) f
        ∙ there s (nat_lt (place_of c) count) refl f
      where
        there : (s : Bool) (b : Bool) → nat_lt (place_of c) count ≡ b → same c d ≡ s
            → (if s then suc (times c (of_first count ds)) else times c (of_first count ds)) ≡ (if b then (if s then suc (times c ds) else times c ds) else zero)
        there true true g h = ap suc (rest ∙ ap (λ (b : Bool). if b then times c ds else zero) g)
        there true false g h =
            let at : nat_lt (place_of c) count ≡ true = ap (λ (x : Change). nat_lt (place_of x) count) (same_one c d h) ∙ e in
            let never : true ≡ false = sym at ∙ g in absurd (cc)
        there false true g h = rest ∙ ap (λ (b : Bool). if b then times c ds else zero) g
        there false false g h = rest ∙ ap (λ (b : Bool). if b then times c ds else zero) g
    by s f false e rest = rest ∙ beyond s (nat_lt (place_of c) count) refl f
      where
        beyond : (s : Bool) (b : Bool) → nat_lt (place_of c) count ≡ b → same c d ≡ s
            → (if nat_lt (place_of c) count then times c ds else zero) ≡ (if nat_lt (place_of c) count then (if s then suc (times c ds) else times c ds) else zero)
        beyond true b g h =
            let at : nat_lt (place_of c) count ≡ false = ap (λ (x : Change). nat_lt (place_of x) count) (same_one c d h) ∙ e in
            ap (λ (b : Bool). if b then times c ds else zero) at ∙ sym (ap (λ (b : Bool). if b then suc (times c ds) else zero) at)
        beyond false b g h = refl

sound_first : (count : ℕ) (instances : List Instance) (changes : List Change) → IsSound instances changes → IsSound (take count instances) (of_first count changes)
sound_first count instances changes sound = record { each = λ c. times_first count c changes ∙ (by c (nat_lt (place_of c) count) ∙ ap one_if (sym (made_first count instances c))) }
  where
    by : (c : Change) (b : Bool) → (if b then times c changes else zero) ≡ one_if (if b then made instances c else false)
    by c true = sound.each c
    by c false = refl

first-append : (count : ℕ) (xs ys : List Change) → of_first count (xs ++ ys) ≡ of_first count xs ++ of_first count ys
first-append count [] ys = refl
first-append count (x ∷ xs) ys = by (nat_lt (place_of x) count) (first-append count xs ys)
  where
    by : (b : Bool) → of_first count (xs ++ ys) ≡ of_first count xs ++ of_first count ys
        → (if b then x ∷ of_first count (xs ++ ys) else of_first count (xs ++ ys)) ≡ (if b then x ∷ of_first count xs else of_first count xs) ++ of_first count ys
    by true e = ap (λ (l : List Change). x ∷ l) e
    by false e = e

-- what changed in others doesn't change the first
cleared_first : (count : ℕ) (changes : List Change) (instances : List Instance) → length instances ≤ count
    → cleared (of_first count changes) instances ≡ cleared changes instances
cleared_first count [] instances few = refl
cleared_first count (c ∷ cs) instances few = by (nat_lt (place_of c) count) refl (cleared_first count cs instances few)
  where
    by : (b : Bool) → nat_lt (place_of c) count ≡ b → cleared (of_first count cs) instances ≡ cleared cs instances
        → cleared (if b then c ∷ of_first count cs else of_first count cs) instances ≡ clear c (cleared cs instances)
    by true e rest = ap (clear c) rest
    by false e rest =
        let many : length (cleared cs instances) ≡ length instances = length-cleared cs instances in
        let more : count ≤ place_of c = not_below (place_of c) count e in
        let beyond : length (cleared cs instances) ≤ place_of c = omega (arith, many, few, more) in
        rest ∙ sym (clear_beyond c (cleared cs instances) beyond)

pub sound_back : (count changed : ℕ) (instances : List Instance) (changes : List Change) → IsSound instances changes
    → IsSound (cleared (drop changed changes) (take count instances)) (of_first count (take changed changes))
sound_back count changed instances changes sound =
    let split : of_first count changes ≡ of_first count (take changed changes) ++ of_first count (drop changed changes) =
    ap (of_first count) (sym (take-append-drop changed changes)) ∙ first-append count (take changed changes) (drop changed changes) in
    let cut : IsSound (take count instances) (of_first count (take changed changes) ++ of_first count (drop changed changes)) =
    subst (λ (l : List Change). IsSound (take count instances) l) split (sound_first count instances changes sound) in
    subst (λ (l : List Instance). IsSound l (of_first count (take changed changes)))
    (cleared_first count (drop changed changes) (take count instances) (length_taken count instances))
    (sound_all_back (take count instances) (of_first count (take changed changes)) (of_first count (drop changed changes)) cut)

more : (b : Bool) (n : ℕ) → 0 < n → 0 < (if b then suc n else n)
more true n some = omega arith
more false n some = some

-- changes that instances show are changes of these
all_first : (count : ℕ) (instances : List Instance) (changes : List Change)
    → ((change : Change) → 0 < times change changes → made instances change ≡ true) → length instances ≤ count → of_first count changes ≡ changes
all_first count instances [] shows few = refl
all_first count instances (c ∷ cs) shows few =
    by (nat_lt (place_of c) count) refl (all_first count instances cs (λ d some. shows d (more (same d c) (times d cs) some)) few)
  where
    one : (b : Bool) (n : ℕ) → b ≡ true → 0 < (if b then suc n else n)
    one true n e = omega arith
    one false n e = let never : false ≡ true = e in absurd (cc)

    by : (b : Bool) → nat_lt (place_of c) count ≡ b → of_first count cs ≡ cs → (if b then c ∷ of_first count cs else of_first count cs) ≡ c ∷ cs
    by true e rest = ap (λ (l : List Change). c ∷ l) rest
    by false e rest =
        let over : count ≤ place_of c = not_below (place_of c) count e in
        let beyond : length instances ≤ place_of c = omega (arith, over, few) in
        let never : true ≡ false = sym (shows c (one (same c c) (times c cs) (same_self c))) ∙ made_beyond instances c beyond in
        absurd (cc)

-- all changes are those of instances that are there
pub sound_within : (count : ℕ) (instances : List Instance) (changes : List Change) → IsSound instances changes → length instances ≤ count
    → of_first count changes ≡ changes
sound_within count instances changes sound few =
    all_first count instances changes (λ c some. shown (made instances c) (times c changes) (sound.each c) some) few
  where
    shown : (made : Bool) (n : ℕ) → n ≡ (if made then 1 else 0) → 0 < n → made ≡ true
    shown true n e some = refl
    shown false n e some = absurd (omega (arith, e, some))

-- the first changes, where none of the instances went
pub sound_kept : (count changed : ℕ) (instances : List Instance) (changes : List Change) → IsSound instances changes → length instances ≤ count
    → of_first count (take changed changes) ≡ take changed changes
sound_kept count changed instances changes sound few =
    let many : length (cleared (drop changed changes) instances) ≡ length instances = length-cleared (drop changed changes) instances in
    sound_within count (cleared (drop changed changes) instances) (take changed changes)
    (sound_all_back instances (take changed changes) (drop changed changes)
    (subst (λ (l : List Change). IsSound instances l) (sym (take-append-drop changed changes)) sound))
    (omega (arith, many, few))

pub length_gone : (count changed : ℕ) (instances : List Instance) (changes : List Change) (globals : ℕ) → globals ≤ length instances → globals ≤ count
    → (globals ≤ length (cleared (drop changed changes) (take count instances))) × (length (cleared (drop changed changes) (take count instances)) ≤ length instances)
length_gone count changed instances changes globals whole over =
    let many : length (cleared (drop changed changes) (take count instances)) ≡ length (take count instances) =
    length-cleared (drop changed changes) (take count instances) in
    let taken = length-take count instances in
    (omega (arith, many, taken, whole, over), omega (arith, many, taken))

-- behind going back to any mark there is a way back to what is kept then
pub gone : (mark : VarMark) (now : Kept) → LeadsBack now now → LeadsBack (gone_back mark now) (gone_back mark now)
gone mark now way =
    here (gone_back mark now) (sound_back (left_open mark now) mark.changes now.instances now.changes way.sound)
    (length_gone (left_open mark now) mark.changes now.instances now.changes now.globals way.whole (omega arith)).0

pub marks_lead_back : (base now : Kept) → LeadsBack base now → gone_back (mark_of base) now ≡ base
marks_lead_back base now way =
    let globals = way.globals in
    let same : max now.globals (length base.instances) ≡ length base.instances = omega (arith, way.whole, globals) in
    kept_same _ _ _ _ _ _ _ _
    (ap (λ (n : ℕ). cleared (drop (length base.changes) now.changes) (take n now.instances)) same ∙ instances_back base now way)
    (ap (of_first (max now.globals (length base.instances))) (changes_back base now way)
    ∙ sound_within (max now.globals (length base.instances)) base.instances base.changes way.sound (omega arith))
    (sym way.globals) (sym way.deep)
