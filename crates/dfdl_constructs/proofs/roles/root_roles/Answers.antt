use Rattle.std.proofs.Common.{◌≡◌, ◌<◌, ◌+◌, ◌∙◌, sym, length, subst, arith, ℕ, get_or, List}
use Rattle.dfdl_constructs.specs.declared.role.Role.{Role}
use Rattle.dfdl_constructs.specs.declared.role.Role.TheVariants.{Skipped}
use Rattle.dfdl_constructs.specs.Roles.{root_role}
use Rattle.dfdl_constructs.proofs.Walking.{so_far_none, roots_more}
use Rattle.dfdl_constructs.proofs.roles.root_roles.Goals as goal

pub loop-element-preserved : goal.loop-element-preserved
loop-element-preserved c =
    subst (λ (xs : List Role). (length xs ≡ c.loop-element.element + 1)
    × ((e : ℕ) → e < c.loop-element.element + 1 → get_or xs e Skipped ≡ root_role c.args.tree.now e))
    (sym c.in_ok-push.ensures.items)
    (roots_more (root_role c.args.tree.now) c.loop-element.roles.items c.loop-element.element _ c.root_role.ensures c.loop-element.invariant)

pub returns : goal.returns
returns c =
    let all : c.loop-element.element ≡ length c.args.tree.now = omega (arith, c.loop-element-test.false, c.loop-element.auto.element-end, c.count-element-end.ensures) in
    so_far_none c.args.tree.now c.loop-element.roles.items (c.loop-element.invariant.0 ∙ all)
    (λ e within. c.loop-element.invariant.1 e (omega (arith, within, all)))
