use Rattle.std.proofs.Common.{◌≡◌, ◌++◌, drop, map}
use Rattle.dfdl_written.specs.Noting.{noted_setting}
use Rattle.dfdl_written.proofs.noting.push_settings.Given as goal

-- those so far, and those that are left
abbrev pub invariant-loop-setter : goal.invariant-loop-setter
invariant-loop-setter l =
    l.noted.items ++ map (noted_setting l.schema l.place) (drop l.setter-index l.settings) ≡ l.fn.noted.items ++ map (noted_setting l.schema l.place) l.settings
