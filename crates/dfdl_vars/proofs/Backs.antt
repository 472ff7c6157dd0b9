-- Ways back to what was kept.
use Rattle.std.specs.Prelude.{◌≡◌, ℕ, zero, suc, ◌==◌, ◌-◌, ◌<◌, ◌≤◌, Bool, true, false, Option, Some, None, is_some, List, [], ◌∷◌, ◌++◌, length, take, if◌then◌else◌, refl}
use Rattle.std.proofs.Common.{sym, ◌∙◌, ap, subst, arith, append_assoc, eqb-true, eq-eqb}
use Rattle.std.proofs.lemmas.List.{take-append-le, length-append}
use Rattle.dfdl_value.specs.declared.value.Value.{Value}
use Rattle.dfdl_vars.specs.declared.instances.Change.{Change}
use Rattle.dfdl_vars.specs.declared.instances.Change.TheVariants.{Set, Read}
use Rattle.dfdl_vars.specs.declared.instances.Instance.{Instance}
use Rattle.dfdl_vars.specs.Instances.{at_place, set_to, read_as, has, is_set, is_read, place_of, same, made, clear, cleared}
use Rattle.dfdl_vars.specs.Kept.{Kept, IsSound, with_setting, with_read, entered, left, elsewhere, times, fresh}
use Rattle.dfdl_vars.specs.Marks.{LeadsBack}

pub cleared-append : (xs ys : List Change) (instances : List Instance) → cleared (xs ++ ys) instances ≡ cleared xs (cleared ys instances)
cleared-append [] ys instances = refl
cleared-append (x ∷ xs) ys instances = ap (clear x) (cleared-append xs ys instances)

pub length-at : (f : Instance → Instance) (place : ℕ) (instances : List Instance) → length (at_place f place instances) ≡ length instances
length-at f place [] = refl
length-at f zero (i ∷ is) = refl
length-at f (suc place) (i ∷ is) = ap suc (length-at f place is)

length-clear : (change : Change) (instances : List Instance) → length (clear change instances) ≡ length instances
length-clear (Set place) instances = length-at (set_to None) place instances
length-clear (Read place) instances = length-at (read_as false) place instances

pub length-cleared : (changes : List Change) (instances : List Instance) → length (cleared changes instances) ≡ length instances
length-cleared [] instances = refl
length-cleared (c ∷ cs) instances = length-clear c (cleared cs instances) ∙ length-cleared cs instances

take_at : (n : ℕ) (f : Instance → Instance) (place : ℕ) (instances : List Instance) → take n (at_place f place instances) ≡ at_place f place (take n instances)
take_at zero f place instances = refl
take_at (suc n) f place [] = refl
take_at (suc n) f zero (i ∷ is) = refl
take_at (suc n) f (suc place) (i ∷ is) = ap (λ (l : List Instance). i ∷ l) (take_at n f place is)

pub take_clear : (n : ℕ) (change : Change) (instances : List Instance) → take n (clear change instances) ≡ clear change (take n instances)
take_clear n (Set place) instances = take_at n (set_to None) place instances
take_clear n (Read place) instances = take_at n (read_as false) place instances

none_of : {A : Type 0} (o : Option A) → is_some o ≡ false → None ≡ o
none_of None e = refl
none_of (Some x) e = let never : true ≡ false = e in absurd (cc)

clear_set : (place : ℕ) (value : Value) (instances : List Instance) → has is_set instances place ≡ false
    → clear (Set place) (at_place (set_to (Some value)) place instances) ≡ instances
clear_set place value [] free = refl
clear_set zero value (i ∷ is) free = ap (λ (o : Option Value). set_to o i ∷ is) (none_of i.setting free)
clear_set (suc place) value (i ∷ is) free = ap (λ (l : List Instance). i ∷ l) (clear_set place value is free)

clear_read : (place : ℕ) (instances : List Instance) → has is_read instances place ≡ false
    → clear (Read place) (at_place (read_as true) place instances) ≡ instances
clear_read place [] free = refl
clear_read zero (i ∷ is) free = ap (λ (b : Bool). read_as b i ∷ is) (sym free)
clear_read (suc place) (i ∷ is) free = ap (λ (l : List Instance). i ∷ l) (clear_read place is free)

pub at_beyond : (f : Instance → Instance) (place : ℕ) (instances : List Instance) → length instances ≤ place → at_place f place instances ≡ instances
at_beyond f place [] few = refl
at_beyond f zero (i ∷ is) few = absurd (omega arith)
at_beyond f (suc place) (i ∷ is) few = let less : length is ≤ place = omega arith in ap (λ (l : List Instance). i ∷ l) (at_beyond f place is less)

pub clear_beyond : (change : Change) (instances : List Instance) → length instances ≤ place_of change → clear change instances ≡ instances
clear_beyond (Set place) instances few = at_beyond (set_to None) place instances few
clear_beyond (Read place) instances few = at_beyond (read_as false) place instances few

pub here : (now : Kept) → IsSound now.instances now.changes → now.globals ≤ length now.instances → LeadsBack now now
here now sound whole = record {
  within = omega arith;
  newer = [];
  split = sym (append-nil now.changes);
  back = take-all now.instances;
  sound = sound;
  whole = whole;
  globals = refl;
  deep = refl;
}
  where
    append-nil : (xs : List Change) → xs ++ [] ≡ xs
    append-nil [] = refl
    append-nil (x ∷ xs) = ap (λ (l : List Change). x ∷ l) (append-nil xs)

    take-all : (xs : List Instance) → take (length xs) xs ≡ xs
    take-all [] = refl
    take-all (x ∷ xs) = ap (λ (l : List Instance). x ∷ l) (take-all xs)

-- one change more, which gives what was there when it is taken back
changed : (base now : Kept) (change : Change) (instances : List Instance) → LeadsBack base now
    → length instances ≡ length now.instances → clear change instances ≡ now.instances
    → LeadsBack base (record now { instances = instances; changes = now.changes ++ change ∷ [] })
changed base now change instances way many clears = record {
  within = subst (λ (n : ℕ). length base.instances ≤ n) (sym many) way.within;
  newer = way.newer ++ change ∷ [];
  split = ap (λ (l : List Change). l ++ change ∷ []) way.split ∙ append_assoc base.changes way.newer (change ∷ []);
  back = cleared-append way.newer (change ∷ []) (take (length base.instances) instances)
      ∙ (ap (cleared way.newer) (sym (take_clear (length base.instances) change instances) ∙ ap (take (length base.instances)) clears)
      ∙ way.back);
  sound = way.sound;
  whole = way.whole;
  globals = way.globals;
  deep = way.deep;
}

pub back_set : (base now : Kept) (place : ℕ) (value : Value) → LeadsBack base now → has is_set now.instances place ≡ false
    → LeadsBack base (with_setting now place value)
back_set base now place value way free =
    changed base now (Set place) (at_place (set_to (Some value)) place now.instances) way (length-at (set_to (Some value)) place now.instances) (clear_set place value now.instances free)

pub back_read : (base now : Kept) (place : ℕ) → LeadsBack base now → LeadsBack base (with_read now place)
back_read base now place way = by (has is_read now.instances place) refl
  where
    by : (b : Bool) → has is_read now.instances place ≡ b → LeadsBack base (if b then now else record now { instances = at_place (read_as true) place now.instances; changes = now.changes ++ Read place ∷ [] })
    by true e = way
    by false e = changed base now (Read place) (at_place (read_as true) place now.instances) way (length-at (read_as true) place now.instances) (clear_read place now.instances e)

pub back_entered : (base now : Kept) (var : ℕ) (start : Option Value) → LeadsBack base now → LeadsBack base (entered now var start)
back_entered base now var start way = record {
  within = longer base.instances now.instances (fresh var start) way.within;
  newer = way.newer;
  split = way.split;
  back = ap (cleared way.newer) (take-append-le (length base.instances) now.instances (fresh var start ∷ []) way.within) ∙ way.back;
  sound = way.sound;
  whole = way.whole;
  globals = way.globals;
  deep = way.deep;
}
  where
    longer : (xs ys : List Instance) (i : Instance) → length xs ≤ length ys → length xs ≤ length (ys ++ i ∷ [])
    longer xs ys i few = rw (length-append ys (i ∷ [])) (omega arith)

pub has_beyond : (test : Instance → Bool) (instances : List Instance) (place : ℕ) → length instances ≤ place → has test instances place ≡ false
has_beyond test [] place few = refl
has_beyond test (i ∷ is) zero few = absurd (omega arith)
has_beyond test (i ∷ is) (suc place) few = let less : length is ≤ place = omega arith in has_beyond test is place less

pub made_beyond : (instances : List Instance) (change : Change) → length instances ≤ place_of change → made instances change ≡ false
made_beyond instances (Set place) few = has_beyond is_set instances place few
made_beyond instances (Read place) few = has_beyond is_read instances place few

pub same_self : (change : Change) → same change change ≡ true
same_self (Set place) = eq-eqb place place refl
same_self (Read place) = eq-eqb place place refl

more : (b : Bool) (n : ℕ) → 0 < n → 0 < (if b then suc n else n)
more true n some = omega arith
more false n some = some

-- changes that the instances show are none behind them
all_elsewhere : (instances : List Instance) (changes : List Change) (place : ℕ)
    → ((change : Change) → 0 < times change changes → made instances change ≡ true) → length instances ≤ place
    → elsewhere place changes ≡ changes
all_elsewhere instances [] place shows few = refl
all_elsewhere instances (c ∷ cs) place shows few =
    by (place_of c == place) refl (all_elsewhere instances cs place (λ d some. shows d (more (same d c) (times d cs) some)) few)
  where
    one : (b : Bool) (n : ℕ) → b ≡ true → 0 < (if b then suc n else n)
    one true n e = omega arith
    one false n e = let never : false ≡ true = e in absurd (cc)

    by : (b : Bool) → (place_of c == place) ≡ b → elsewhere place cs ≡ cs → (if b then elsewhere place cs else c ∷ elsewhere place cs) ≡ c ∷ cs
    by true e rest =
        let at : place_of c ≡ place = eqb-true (place_of c) place e in
        let beyond : length instances ≤ place_of c = subst (λ (n : ℕ). length instances ≤ n) (sym at) few in
        let never : true ≡ false = sym (shows c (one (same c c) (times c cs) (same_self c))) ∙ made_beyond instances c beyond in
        absurd (cc)
    by false e rest = ap (λ (l : List Change). c ∷ l) rest

elsewhere-append : (place : ℕ) (xs ys : List Change) → elsewhere place (xs ++ ys) ≡ elsewhere place xs ++ elsewhere place ys
elsewhere-append place [] ys = refl
elsewhere-append place (x ∷ xs) ys = by (place_of x == place) (elsewhere-append place xs ys)
  where
    by : (b : Bool) → elsewhere place (xs ++ ys) ≡ elsewhere place xs ++ elsewhere place ys
        → (if b then elsewhere place (xs ++ ys) else x ∷ elsewhere place (xs ++ ys)) ≡ (if b then elsewhere place xs else x ∷ elsewhere place xs) ++ elsewhere place ys
    by true e = e
    by false e = ap (λ (l : List Change). x ∷ l) e

-- what changed in an instance that isn't there is no change of the others
cleared_elsewhere : (place : ℕ) (changes : List Change) (instances : List Instance) → length instances ≤ place
    → cleared (elsewhere place changes) instances ≡ cleared changes instances
cleared_elsewhere place [] instances few = refl
cleared_elsewhere place (c ∷ cs) instances few = by (place_of c == place) refl (cleared_elsewhere place cs instances few)
  where
    by : (b : Bool) → (place_of c == place) ≡ b → cleared (elsewhere place cs) instances ≡ cleared cs instances
        → cleared (if b then elsewhere place cs else c ∷ elsewhere place cs) instances ≡ clear c (cleared cs instances)
    by true e rest =
        let at : place_of c ≡ place = eqb-true (place_of c) place e in
        let many : length (cleared cs instances) ≡ length instances = length-cleared cs instances in
        let beyond : length (cleared cs instances) ≤ place_of c = omega (arith, at, many, few) in
        rest ∙ sym (clear_beyond c (cleared cs instances) beyond)
    by false e rest = ap (clear c) rest

take_take : (n m : ℕ) (instances : List Instance) → n ≤ m → take n (take m instances) ≡ take n instances
take_take zero m is few = refl
take_take (suc n) zero is few = absurd (omega arith)
take_take (suc n) (suc m) [] few = refl
take_take (suc n) (suc m) (i ∷ is) few = let less : n ≤ m = omega arith in ap (λ (l : List Instance). i ∷ l) (take_take n m is less)

pub length_taken : (n : ℕ) (instances : List Instance) → length (take n instances) ≤ n
length_taken zero is = omega arith
length_taken (suc n) [] = omega arith
length_taken (suc n) (i ∷ is) = let less : length (take n is) ≤ n = length_taken n is in omega (arith, less)

pub length_take_le : (n : ℕ) (instances : List Instance) → n ≤ length instances → length (take n instances) ≡ n
length_take_le zero is few = refl
length_take_le (suc n) [] few = absurd (omega arith)
length_take_le (suc n) (i ∷ is) few = let less : n ≤ length is = omega arith in ap suc (length_take_le n is less)

le_trans : (a b c : ℕ) → a ≤ b → b ≤ c → a ≤ c
le_trans a b c e f = omega (arith, e, f)

shown : (made : Bool) (n : ℕ) → n ≡ (if made then 1 else 0) → 0 < n → made ≡ true
shown true n e some = refl
shown false n e some = absurd (omega (arith, e, some))

pub back_left : (base now : Kept) → LeadsBack base now → length base.instances < length now.instances → LeadsBack base (left now)
back_left base now way outer =
    let last = length now.instances - 1 in
    let n = length base.instances in
    let before : n ≤ last = omega (arith, outer) in
    record {
      within = subst (λ (k : ℕ). n ≤ k) (sym (length_take_le last now.instances (omega arith))) before;
      newer = elsewhere last way.newer;
      split = ap (elsewhere last) way.split ∙ (elsewhere-append last base.changes way.newer
          ∙ ap (λ (l : List Change). l ++ elsewhere last way.newer)
          (all_elsewhere base.instances base.changes last
          (λ c some. shown (made base.instances c) (times c base.changes) (way.sound.each c) some) before));
      back = ap (cleared (elsewhere last way.newer)) (take_take n last now.instances before)
          ∙ (cleared_elsewhere last way.newer (take n now.instances) (le_trans _ _ _ (length_taken n now.instances) before)
          ∙ way.back);
      sound = way.sound;
      whole = way.whole;
      globals = way.globals;
      deep = way.deep;
    }

-- changes of the first instances alone
cleared_taken : (n : ℕ) (changes : List Change) (instances : List Instance) → take n (cleared changes instances) ≡ cleared changes (take n instances)
cleared_taken n [] instances = refl
cleared_taken n (c ∷ cs) instances = take_clear n c (cleared cs instances) ∙ ap (clear c) (cleared_taken n cs instances)

-- one way behind another
pub back_through : (base mid now : Kept) → LeadsBack base mid → LeadsBack mid now → LeadsBack base now
back_through base mid now first then_on =
    let n = length base.instances in
    record {
      within = le_trans _ _ _ first.within then_on.within;
      newer = first.newer ++ then_on.newer;
      split = then_on.split ∙ (ap (λ (l : List Change). l ++ then_on.newer) first.split ∙ append_assoc base.changes first.newer then_on.newer);
      back = cleared-append first.newer then_on.newer (take n now.instances)
          ∙ (ap (cleared first.newer)
          (ap (cleared then_on.newer) (sym (take_take n (length mid.instances) now.instances first.within))
          ∙ (sym (cleared_taken n then_on.newer (take (length mid.instances) now.instances)) ∙ ap (take n) then_on.back))
          ∙ first.back);
      sound = first.sound;
      whole = first.whole;
      globals = first.globals ∙ then_on.globals;
      deep = first.deep ∙ then_on.deep;
    }
