-- The instances of variables, and what changes in them. 'DFDL Expression Language', on variables.
use Rattle.std.specs.Prelude.{ℕ, zero, suc, ◌==◌, Bool, false, Option, None, is_some, List, [], ◌∷◌}
use Rattle.dfdl_value.specs.declared.value.Value.{Value}
use Rattle.dfdl_vars.specs.declared.instances.Change.{Change}
use Rattle.dfdl_vars.specs.declared.instances.Change.TheVariants.{Set, Read}
use Rattle.dfdl_vars.specs.declared.instances.Instance.{Instance}

-- instances of which the one at a place is another
abbrev pub at_place : (Instance → Instance) → ℕ → List Instance → List Instance
at_place f place [] = []
at_place f zero (instance ∷ rest) = f instance ∷ rest
at_place f (suc place) (instance ∷ rest) = instance ∷ at_place f place rest

abbrev pub set_to : Option Value → Instance → Instance
set_to setting instance = record instance { setting = setting }

abbrev pub read_as : Bool → Instance → Instance
read_as was_read instance = record instance { was_read = was_read }

-- there is an instance at the place, and the test holds of it
abbrev pub has : (Instance → Bool) → List Instance → ℕ → Bool
has test [] place = false
has test (instance ∷ rest) zero = test instance
has test (instance ∷ rest) (suc place) = has test rest place

abbrev pub is_set : Instance → Bool
is_set instance = is_some instance.setting

abbrev pub is_read : Instance → Bool
is_read instance = instance.was_read

-- the place of the instance that changed
abbrev pub place_of : Change → ℕ
place_of (Set place) = place
place_of (Read place) = place

abbrev pub same : Change → Change → Bool
same (Set a) (Set b) = a == b
same (Set a) (Read b) = false
same (Read a) (Set b) = false
same (Read a) (Read b) = a == b

-- the instances show the change
abbrev pub made : List Instance → Change → Bool
made instances (Set place) = has is_set instances place
made instances (Read place) = has is_read instances place

-- instances without a change
abbrev pub clear : Change → List Instance → List Instance
clear (Set place) instances = at_place (set_to None) place instances
clear (Read place) instances = at_place (read_as false) place instances

-- instances without changes, of which the last is taken back first
abbrev pub cleared : List Change → List Instance → List Instance
cleared [] instances = instances
cleared (change ∷ changes) instances = clear change (cleared changes instances)
