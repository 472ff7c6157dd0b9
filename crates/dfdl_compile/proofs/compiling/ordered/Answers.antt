use Rattle.std.proofs.Common.{◌≡◌, ◌∙◌, List, sym, subst, refl, ap, arith, length, ℕ, Some, None}
use Rattle.dfdl_order.specs.Cycles.{IsFirstRecursive, IsFaultOf}
use Rattle.dfdl_components.specs.declared.site.Site.{Site}
use Rattle.dfdl_chains.proofs.Numbering.{length_all}
use Rattle.dfdl_compile.specs.Compiled.{first_recursive}
use Rattle.dfdl_compile.specs.Faults.{IsRecursionFault}
use Rattle.dfdl_compile.proofs.Fitting.{closed, are_of_one, length_uses, whole}
use Rattle.dfdl_compile.proofs.Searches.{none_recursive, is_recursive}
use Rattle.dfdl_compile.proofs.compiling.ordered.Goals as goal

pub order_of-requires : goal.order_of-requires
order_of-requires c = closed c.args.gathered.purpose c.requires.0 c.args.schema.now
    (λ purpose own content is. c.hidden_groups_are_within.ensures purpose c.args.schema.now own content is) c.args.gathered.uses c.requires.1.uses

pub new-requires-clause-of_one : goal.new-requires-clause-of_one
new-requires-clause-of_one c = are_of_one c.args.gathered.purpose c.requires.0 c.args.schema.now
    (λ own text is. c.calculated_elements_are_simple.ensures c.args.gathered.purpose c.requires.0 c.args.schema.now own text is) c.args.gathered.uses c.args.gathered.components.items c.args.gathered.refusals.items
    c.args.gathered.places.items c.requires.1.uses c.requires.1.components c.requires.1.refusals c.requires.1.places

pub returns-in-Ok-clause-components : goal.returns-in-Ok-clause-components
returns-in-Ok-clause-components c = λ refused are.
    c.new.ensures ∙ whole c.args.gathered.purpose refused c.args.schema.now c.args.gathered.uses c.args.gathered.components.items c.args.gathered.refusals.items c.args.gathered.places.items
    are.uses are.components are.refusals are.places

pub returns-in-Ok-clause-none : goal.returns-in-Ok-clause-none
returns-in-Ok-clause-none c = λ refused are.
    subst (λ (uses : List (List ℕ)). first_recursive uses ≡ None) are.uses
    (none_recursive c.args.gathered.uses (λ n less. c.nothing_in_an_order_reaches_itself.ensures c.args.gathered.uses c.in-Ok.order c.in-Ok.ensures.ordered n less))

pub recursive-requires-clause-within : goal.recursive-requires-clause-within
recursive-requires-clause-within c =
    let told : IsFirstRecursive c.args.gathered.uses c.in-Err-Recursive.component
    = subst (IsFaultOf c.args.gathered.uses) c.in-Err-Recursive.field-0-is c.in-Err-Recursive.ensures.fault in
    omega (
      arith,
      told.within,
      ap (λ (sites : List Site). length sites) (c.as_slice.ensures.value ∙ c.requires.1.sites),
      length_all c.args.schema.now,
      length_uses c.args.gathered.purpose c.requires.0 c.args.schema.now,
      ap (λ (uses : List (List ℕ)). length uses) c.requires.1.uses,
    )

pub returns-in-Err-Recursive-clause-fault : goal.returns-in-Err-Recursive-clause-fault
returns-in-Err-Recursive-clause-fault c = λ refused are.
    let told : IsFirstRecursive c.args.gathered.uses c.in-Err-Recursive.component
    = subst (IsFaultOf c.args.gathered.uses) c.in-Err-Recursive.field-0-is c.in-Err-Recursive.ensures.fault in
    subst (IsRecursionFault c.args.gathered.purpose refused c.args.schema.now) (sym c.recursive.ensures) (
      c.in-Err-Recursive.component,
      subst (λ (uses : List (List ℕ)). first_recursive uses ≡ Some c.in-Err-Recursive.component) are.uses
          (is_recursive c.args.gathered.uses c.in-Err-Recursive.component told),
      refl,
      refl,
    )
