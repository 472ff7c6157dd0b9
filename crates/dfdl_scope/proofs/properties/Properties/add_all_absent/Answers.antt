use Rattle.std.proofs.Common.{sym, ap, ◌∙◌}
use Rattle.std.specs.Option.{option_or}
use Rattle.dfdl_scope.specs.Shown.{given}
use Rattle.dfdl_scope.proofs.Maps.{among, among-first, or-or, or-None}
use Rattle.dfdl_scope.proofs.properties.Properties.add_all_absent.Goals as goal

pub loop-name-init : goal.loop-name-init
loop-name-init c = λ q.
    ap (λ es. option_or (given c.args.self.now q) (among es q)) (c.into_iter-name-iterator.ensures.into_iter_gives ∙ c.iter-name-items.ensures.rest)

pub loop-name-preserved : goal.loop-name-preserved
loop-name-preserved c = λ q.
    ap (λ o. option_or o (among c.next.new.self q)) (c.in_ok-add_absent.ensures q)
    ∙ or-or (given c.loop-name.self q) _ _
    ∙ ap (option_or (given c.loop-name.self q))
    (sym (among-first c.in-Some.name.now c.in-Some.value.now c.next.new.self q) ∙ ap (λ es. among es q) (sym c.in-Some.ensures.steps))
    ∙ c.loop-name.invariant q

pub returns : goal.returns
returns c = λ q.
    sym (or-None (given c.loop-name.self q))
    ∙ ap (λ es. option_or (given c.loop-name.self q) (among es q)) (sym c.in-None.ensures.steps.0)
    ∙ c.loop-name.invariant q
