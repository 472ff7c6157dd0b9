-- Going back to a mark: everything is as it was there.
use Rattle.std.specs.Prelude.{◌≡◌, ℕ, ◌≤◌, max, nat_lt, List, [], ◌∷◌, ◌++◌, length, take, drop, if◌then◌else◌}
use Rattle.dfdl_vars.specs.declared.instances.Change.{Change}
use Rattle.dfdl_vars.specs.declared.instances.VarMark.{VarMark}
use Rattle.dfdl_vars.specs.Instances.{cleared, place_of}
use Rattle.dfdl_vars.specs.Kept.{Kept, IsSound}

-- the mark of what is kept
abbrev pub mark_of : Kept → VarMark
mark_of kept = record { instances = length kept.instances; changes = length kept.changes }

-- From now on there is a way back to what was kept: its instances are still open, and what changed since gives them when it is taken
-- back.
pub record LeadsBack (base now : Kept) : Type 0 where
  pub within : length base.instances ≤ length now.instances
  pub newer : List Change
  pub split : now.changes ≡ base.changes ++ newer
  pub back : cleared newer (take (length base.instances) now.instances) ≡ base.instances
  pub sound : IsSound base.instances base.changes
  pub whole : base.globals ≤ length base.instances
  pub globals : base.globals ≡ now.globals
  pub deep : base.deep ≡ now.deep

-- how many instances stay open behind going back to a mark: as many as were open there, and those of the definitions always
abbrev pub left_open : VarMark → Kept → ℕ
left_open mark now = max now.globals mark.instances

-- the changes of the first so many instances
abbrev pub of_first : ℕ → List Change → List Change
of_first count [] = []
of_first count (change ∷ changes) = if nat_lt (place_of change) count then change ∷ of_first count changes else of_first count changes

-- What is kept behind going back to a mark: as many instances as were open there, without the changes that came later, the last of which is
-- taken back first, and what changed in them before. To a mark to which there is a way back nothing else changed before.
abbrev pub gone_back : VarMark → Kept → Kept
gone_back mark now = record now {
  instances = cleared (drop mark.changes now.changes) (take (left_open mark now) now.instances);
  changes = of_first (left_open mark now) (take mark.changes now.changes);
}
