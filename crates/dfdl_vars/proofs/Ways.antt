-- Ways back, for proofs that go from state to state: each call keeps them, and behind each there is one to what is kept then.
use Rattle.std.specs.Prelude.{◌≡◌, ℕ, zero, suc, ◌-◌, ◌+◌, ◌<◌, ◌≤◌, Bool, true, false, Option, Some, None, List, [], ◌∷◌, ◌++◌, length, take, if◌then◌else◌, refl}
use Rattle.std.proofs.Common.{arith}
use Rattle.std.proofs.lemmas.List.{length-append}
use Rattle.dfdl_value.specs.declared.value.Value.{Value}
use Rattle.dfdl_vars.specs.declared.instances.Change.TheVariants.{Read}
use Rattle.dfdl_vars.specs.declared.instances.Instance.{Instance}
use Rattle.dfdl_vars.specs.declared.instances.VarFault.TheVariants.{SetTwice, SetAfterRead}
use Rattle.dfdl_vars.specs.declared.instances.VarMark.{VarMark}
use Rattle.dfdl_vars.specs.declared.values.VarDef.{VarDef}
use Rattle.dfdl_vars.specs.Instances.{at_place, set_to, read_as, has, is_set, is_read}
use Rattle.dfdl_vars.specs.Kept.{Kept, IsSound, with_setting, with_read, entered, left, place_now, innermost, is_of, fault_now, fresh, opened}
use Rattle.dfdl_vars.specs.Marks.{LeadsBack, gone_back, mark_of}
use Rattle.dfdl_vars.proofs.Backs as backs
use Rattle.dfdl_vars.proofs.Gone as gone
use Rattle.dfdl_vars.proofs.Rooms as rooms
use Rattle.dfdl_vars.proofs.Sound as sound

pub here : (now : Kept) → IsSound now.instances now.changes → now.globals ≤ length now.instances → LeadsBack now now
here = backs.here

pub back_set : (base now : Kept) (place : ℕ) (value : Value) → LeadsBack base now → has is_set now.instances place ≡ false
    → LeadsBack base (with_setting now place value)
back_set = backs.back_set

pub back_read : (base now : Kept) (place : ℕ) → LeadsBack base now → LeadsBack base (with_read now place)
back_read = backs.back_read

pub back_entered : (base now : Kept) (var : ℕ) (start : Option Value) → LeadsBack base now → LeadsBack base (entered now var start)
back_entered = backs.back_entered

pub back_left : (base now : Kept) → LeadsBack base now → length base.instances < length now.instances → LeadsBack base (left now)
back_left = backs.back_left

-- one way behind another
pub back_through : (base mid now : Kept) → LeadsBack base mid → LeadsBack mid now → LeadsBack base now
back_through = backs.back_through

pub marks_lead_back : (base now : Kept) → LeadsBack base now → gone_back (mark_of base) now ≡ base
marks_lead_back = gone.marks_lead_back

pub sound_gone : (mark : VarMark) (now : Kept) → LeadsBack now now → LeadsBack (gone_back mark now) (gone_back mark now)
sound_gone = gone.gone

-- what passes a test is there
within : (test : Instance → Bool) (instances : List Instance) (place : ℕ) → has test instances place ≡ true → place < length instances
within test [] place e = let never : false ≡ true = e in absurd (cc)
within test (i ∷ is) zero e = omega arith
within test (i ∷ is) (suc place) e = let less : place < length is = within test is place e in omega (arith, less)

innermost_within : (instances : List Instance) (globals var count : ℕ) → var < length instances → innermost instances globals var count < length instances
innermost_within instances globals var zero less = less
innermost_within instances globals var (suc count) less =
    by (has (is_of var) instances (globals + count)) refl (innermost_within instances globals var count less)
  where
    by : (b : Bool) → has (is_of var) instances (globals + count) ≡ b → innermost instances globals var count < length instances
        → (if b then globals + count else innermost instances globals var count) < length instances
    by true e rest = within (is_of var) instances (globals + count) e
    by false e rest = rest

-- the place of the instance that a variable stands for is there
pub place_within : (now : Kept) (var : ℕ) → LeadsBack now now → var < now.globals → place_now now var < length now.instances
place_within now var way less = innermost_within now.instances now.globals var (length now.instances - now.globals) (omega (arith, less, way.whole))

-- an instance without a fault wasn't set
pub not_set : (now : Kept) (var : ℕ) → fault_now now var ≡ None → has is_set now.instances (place_now now var) ≡ false
not_set now var e = by (has is_set now.instances (place_now now var)) (has is_read now.instances (place_now now var)) e
  where
    by : (s r : Bool) → (if s then Some SetTwice else if r then Some SetAfterRead else None) ≡ None → s ≡ false
    by true r e = let never : Some SetTwice ≡ None = e in absurd (cc)
    by false r e = refl

pub sound_set : (now : Kept) (var : ℕ) (value : Value) → LeadsBack now now → var < now.globals → fault_now now var ≡ None
    → LeadsBack (with_setting now (place_now now var) value) (with_setting now (place_now now var) value)
sound_set now var value way less free =
    let place = place_now now var in
    let many : length (at_place (set_to (Some value)) place now.instances) ≡ length now.instances =
    backs.length-at (set_to (Some value)) place now.instances in
    backs.here (with_setting now place value)
    (sound.sound_set now.instances now.changes place value way.sound (not_set now var free) (place_within now var way less))
    (omega (arith, many, way.whole))

pub sound_read : (now : Kept) (var : ℕ) → LeadsBack now now → var < now.globals
    → LeadsBack (with_read now (place_now now var)) (with_read now (place_now now var))
sound_read now var way less = by (has is_read now.instances (place_now now var)) refl
  where
    after : Kept
    after = record now { instances = at_place (read_as true) (place_now now var) now.instances; changes = now.changes ++ Read (place_now now var) ∷ [] }

    by : (b : Bool) → has is_read now.instances (place_now now var) ≡ b → LeadsBack (if b then now else after) (if b then now else after)
    by true e = way
    by false e =
        let many : length (at_place (read_as true) (place_now now var) now.instances) ≡ length now.instances =
        backs.length-at (read_as true) (place_now now var) now.instances in
        backs.here after (sound.sound_read now.instances now.changes (place_now now var) way.sound e (place_within now var way less))
        (omega (arith, many, way.whole))

pub sound_entered : (now : Kept) (var : ℕ) (start : Option Value) → LeadsBack now now → LeadsBack (entered now var start) (entered now var start)
sound_entered now var start way =
    let many : length (now.instances ++ fresh var start ∷ []) ≡ length now.instances + 1 = length-append now.instances (fresh var start ∷ []) in
    backs.here (entered now var start) (sound.sound_entered now.instances now.changes var start way.sound) (omega (arith, many, way.whole))

pub sound_left : (now : Kept) → LeadsBack now now → now.globals < length now.instances → LeadsBack (left now) (left now)
sound_left now way outer =
    let last : ℕ = length now.instances - 1 in
    let many : length (take last now.instances) ≡ last = backs.length_take_le last now.instances (omega arith) in
    backs.here (left now) (sound.sound_left now.instances now.changes last way.sound (omega (arith, outer))) (omega (arith, many, outer))

pub sound_opened : (definitions : List VarDef) (given : List (ℕ × Value)) (deep : ℕ) → LeadsBack (opened definitions given deep) (opened definitions given deep)
sound_opened definitions given deep =
    let many = rooms.length_opened definitions given in
    backs.here (opened definitions given deep) (rooms.sound_opened definitions given) (omega (arith, many))
