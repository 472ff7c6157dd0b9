use Rattle.std.proofs.Common.{◌≡◌, ℕ, List}
use Rattle.std.specs.Option.{option_or}
use Rattle.dfdl_scope.specs.Shown.{given}
use Rattle.dfdl_scope.proofs.Maps.{among}
use Rattle.dfdl_scope.proofs.properties.Properties.add_all_absent.Given as goal

-- what is joined, and what is left of the next format, give the same as both at the beginning
abbrev pub invariant-loop-name : goal.invariant-loop-name
invariant-loop-name l = (q : List ℕ)
    → option_or (given l.self q) (among l.name-iterator q)
    ≡ option_or (given l.fn.self q) (given l.others q)
