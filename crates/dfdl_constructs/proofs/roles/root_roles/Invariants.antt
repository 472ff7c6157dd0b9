use Rattle.std.proofs.Common.{◌≡◌, ◌<◌, length, get_or, ℕ}
use Rattle.dfdl_constructs.specs.declared.role.Role.TheVariants.{Skipped}
use Rattle.dfdl_constructs.specs.Roles.{root_role}
use Rattle.dfdl_constructs.proofs.roles.root_roles.Given as goal

abbrev pub invariant-loop-element : goal.invariant-loop-element
invariant-loop-element l =
    (length l.roles.items ≡ l.element)
    × ((e : ℕ) → e < l.element → get_or l.roles.items e Skipped ≡ root_role l.tree e)
