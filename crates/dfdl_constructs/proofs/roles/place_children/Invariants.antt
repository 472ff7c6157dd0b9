use Rattle.std.proofs.Common.{◌≡◌, ◌<◌, length, get_or, drop, ℕ}
use Rattle.dfdl_markup.specs.Trees.{node_at}
use Rattle.dfdl_constructs.specs.declared.role.Role.TheVariants.{Skipped}
use Rattle.dfdl_constructs.specs.Walking.{placed, parent_with}
use Rattle.dfdl_constructs.proofs.roles.place_children.Given as goal

-- the children that are left make of the roles so far what all make of those before
abbrev pub invariant-loop-child : goal.invariant-loop-child
invariant-loop-child l =
    let p = parent_with l.tree l.parent.element l.parent.role l.parent.single in
    let children = (node_at l.tree l.parent.element).children in
    (length l.roles.items ≡ length l.tree)
    × ((e : ℕ) → e < length l.tree
    → placed p (drop l.child-index children) e (get_or l.roles.items e Skipped)
    ≡ placed p children e (get_or l.fn.roles.items e Skipped))
