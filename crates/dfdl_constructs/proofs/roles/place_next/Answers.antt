use Rattle.std.proofs.Common.{◌∙◌, subst, arith, Option, ℕ}
use Rattle.std.proofs.lemmas.List.{get_or_default}
use Rattle.dfdl_markup.specs.Trees.{node_at}
use Rattle.dfdl_constructs.specs.declared.role.Role.TheVariants.{Skipped}
use Rattle.dfdl_constructs.specs.Walking.{parent_with, ArePlaced}
use Rattle.dfdl_constructs.proofs.Walking.{so_far_more}
use Rattle.dfdl_constructs.proofs.roles.place_next.Goals as goal

pub returns : goal.returns
returns c =
    so_far_more c.args.element c.args.tree.now c.args.roles.now.items c.place_children.new.roles.items c.index-role.result.now c.requires.element
    (c.index-role.ensures ∙ get_or_default c.args.roles.now.items c.args.element _ Skipped (omega (arith, c.requires.element, c.requires.roles.count)))
    c.requires.roles
    (subst (λ (s : Option ℕ). ArePlaced (parent_with c.args.tree.now c.args.element c.index-role.result.now s) (node_at c.args.tree.now c.args.element).children c.args.roles.now.items c.place_children.new.roles.items)
    c.single_of-single.ensures c.place_children.ensures)
