-- What is kept of the variables of a run. 'DFDL Expression Language', on variables: an instance is set at most once, and never after
-- it was read.
use Rattle.std.specs.Prelude.{◌≡◌, ℕ, zero, suc, ◌==◌, ◌+◌, ◌-◌, Bool, true, false, Option, Some, None, Result, Ok, Err, List, [], ◌∷◌, ◌++◌, length, nat_lt, take, if◌then◌else◌}
use Rattle.std.specs.List.{slice_get}
use Rattle.dfdl_value.specs.declared.value.Value.{Value}
use Rattle.dfdl_vars.specs.declared.instances.Change.{Change}
use Rattle.dfdl_vars.specs.declared.instances.Change.TheVariants.{Set, Read}
use Rattle.dfdl_vars.specs.declared.instances.Instance.{Instance}
use Rattle.dfdl_vars.specs.declared.values.VarDef.{VarDef}
use Rattle.dfdl_vars.specs.declared.instances.VarFault.{VarFault}
use Rattle.dfdl_vars.specs.declared.instances.VarFault.TheVariants.{SetTwice, SetAfterRead}
use Rattle.dfdl_vars.specs.Instances.{at_place, set_to, read_as, has, is_set, is_read, place_of, same, made}

-- The open instances, first one for each definition and then those that were entered, the innermost last; what changed in them, the last
-- change last; how many definitions there are, and how many instances may be entered at once.
pub record Kept : Type 0 where
  pub instances : List Instance
  pub changes : List Change
  pub globals : ℕ
  pub deep : ℕ

-- the instance at a place is one of this variable
abbrev pub is_of : ℕ → Instance → Bool
is_of var instance = instance.var == var

-- the innermost of the first so many entered instances that is one of the variable, else the one of its definition
abbrev pub innermost : List Instance → ℕ → ℕ → ℕ → ℕ
innermost instances globals var zero = var
innermost instances globals var (suc count) =
    if has (is_of var) instances (globals + count) then globals + count else innermost instances globals var count

-- the place of the instance that a variable stands for
abbrev pub place_now : Kept → ℕ → ℕ
place_now kept var = innermost kept.instances kept.globals var (length kept.instances - kept.globals)

-- the instance at a place gets a value
abbrev pub with_setting : Kept → ℕ → Value → Kept
with_setting kept place value = record kept { instances = at_place (set_to (Some value)) place kept.instances; changes = kept.changes ++ Set place ∷ [] }

-- the instance at a place is read
abbrev pub with_read : Kept → ℕ → Kept
with_read kept place =
    if has is_read kept.instances place then kept
    else record kept { instances = at_place (read_as true) place kept.instances; changes = kept.changes ++ Read place ∷ [] }

-- an instance that nobody has set or read
abbrev pub fresh : ℕ → Option Value → Instance
fresh var start = record { var = var; start = start; setting = None; was_read = false }

abbrev pub entered : Kept → ℕ → Option Value → Kept
entered kept var start = record kept { instances = kept.instances ++ fresh var start ∷ [] }

-- the changes elsewhere
abbrev pub elsewhere : ℕ → List Change → List Change
elsewhere place [] = []
elsewhere place (change ∷ changes) = if place_of change == place then elsewhere place changes else change ∷ elsewhere place changes

-- without the innermost instance, and what changed in it
abbrev pub left : Kept → Kept
left kept = record kept {
  instances = take (length kept.instances - 1) kept.instances;
  changes = elsewhere (length kept.instances - 1) kept.changes;
}

-- the same where an instance may not be entered; there is none to leave then
abbrev pub without_innermost : Kept → Kept
without_innermost kept = if nat_lt kept.globals (length kept.instances) then left kept else kept

-- how often a list has a change
abbrev pub times : Change → List Change → ℕ
times change [] = zero
times change (other ∷ changes) = if same change other then suc (times change changes) else times change changes

-- each change that the instances show is kept once, and no other one
pub record IsSound (instances : List Instance) (changes : List Change) : Type 0 where
  pub each : (change : Change) → times change changes ≡ (if made instances change then 1 else 0)

-- the instances of definitions from a number on, each with what its definition begins with
abbrev pub all_defined : ℕ → List VarDef → List Instance
all_defined var [] = []
all_defined var (definition ∷ more) = fresh var definition.start ∷ all_defined (suc var) more

abbrev pub start_as : Option Value → Instance → Instance
start_as start instance = record instance { start = start }

-- the values that are given take the place of these, the last one for each variable
abbrev pub all_given : List (ℕ × Value) → List Instance → List Instance
all_given [] instances = instances
all_given (given ∷ more) instances = all_given more (at_place (start_as (Some given.1)) given.0 instances)

-- the variables before data is parsed
abbrev pub opened : List VarDef → List (ℕ × Value) → ℕ → Kept
opened definitions given deep = record {
  instances = all_given given (all_defined zero definitions);
  changes = [];
  globals = length definitions;
  deep = deep;
}

-- what an instance begins with
abbrev pub start_of : Option Instance → Option Value
start_of None = None
start_of (Some instance) = instance.start

-- the first of two values that there is
abbrev pub either : Option Value → Option Value → Option Value
either (Some value) other = Some value
either None other = other

-- The value of an instance: the one that it was set to, else the one that it begins with, else the one that the variable's first instance
-- begins with.
abbrev pub value_in : List Instance → Option Instance → Option Value
value_in instances None = None
value_in instances (Some instance) = either instance.setting (either instance.start (start_of (slice_get instances instance.var)))

abbrev pub value_of : Kept → ℕ → Option Value
value_of kept var = value_in kept.instances (slice_get kept.instances (place_now kept var))

-- the instance that a variable stands for was set, or read
abbrev pub is_set_now : Kept → ℕ → Bool
is_set_now kept var = has is_set kept.instances (place_now kept var)

abbrev pub is_read_now : Kept → ℕ → Bool
is_read_now kept var = has is_read kept.instances (place_now kept var)

-- why the variable can't be set: its instance was set, else it was read
abbrev pub fault_now : Kept → ℕ → Option VarFault
fault_now kept var = if is_set_now kept var then Some SetTwice else if is_read_now kept var then Some SetAfterRead else None

-- the fault that was answered
abbrev pub fault_in : {A : Type 0} → Result A VarFault → Option VarFault
fault_in (Ok value) = None
fault_in (Err fault) = Some fault
