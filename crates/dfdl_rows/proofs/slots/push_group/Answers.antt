use Rattle.std.proofs.Common.{◌≡◌, ◌∙◌, ◌+◌, ◌++◌, ◌∷◌, [], ℕ, List, Some, None, IfOk, length, sym, ap, subst, arith}
use Rattle.dfdl_terms.specs.declared.row.Row.{Row}
use Rattle.dfdl_rows.specs.Slots.{kind_of, laid_size, slots_size}
use Rattle.dfdl_rows.proofs.Grouped.{grouped_apart, size_apart}
use Rattle.dfdl_rows.proofs.Walks.{on_ok}
use Rattle.dfdl_rows.proofs.slots.push_group.Goals as goal

pub push_laid-requires : goal.push_laid-requires
push_laid-requires c =
    let same : laid_size c.args.group.separated c.args.slots.now ≡ slots_size c.args.group.separated c.args.slots.now
    = size_apart None c.args.group.separated c.args.slots.now (sym c.in-None.is ∙ c.apart.ensures) in
    omega (arith, c.requires, same)

pub returns-in_ok-row-in-Some-clause-rows : goal.returns-in_ok-row-in-Some-clause-rows
returns-in_ok-row-in-Some-clause-rows c =
    on_ok c.push_last.result _ _ c.push_last.ensures.rows
    (λ is.
    is
    ∙ ap (λ (own : List Row). c.args.rows.now.items ++ own)
    (ap (λ (row : Row). row ∷ []) c.in_ok-row-in-Some.ensures
    ∙ grouped_apart (Some c.in-Some.own) c.args.group.separated (kind_of c.args.group.kind c.args.dispatch.now) c.args.group.initiated c.args.slots.now c.args.parts.now
    (length c.args.rows.now.items) (sym c.in-Some.is ∙ c.apart.ensures)))

pub returns-in_ok-row-in-Some-clause-number : goal.returns-in_ok-row-in-Some-clause-number
returns-in_ok-row-in-Some-clause-number c =
    let none : 0 ≡ slots_size c.args.group.separated c.args.slots.now
    = size_apart (Some c.in-Some.own) c.args.group.separated c.args.slots.now (sym c.in-Some.is ∙ c.apart.ensures) in
    let same : length c.args.rows.now.items ≡ length c.args.rows.now.items + slots_size c.args.group.separated c.args.slots.now = omega (arith, none) in
    subst (λ (n : ℕ). IfOk c.push_last.result (λ number. number ≡ n)) same c.push_last.ensures.number

pub returns-in-None-clause-rows : goal.returns-in-None-clause-rows
returns-in-None-clause-rows c =
    on_ok c.push_laid.result _ _ c.push_laid.ensures.rows
    (λ is.
    is
    ∙ ap (λ (own : List Row). c.args.rows.now.items ++ own)
    (grouped_apart None c.args.group.separated (kind_of c.args.group.kind c.args.dispatch.now) c.args.group.initiated c.args.slots.now c.args.parts.now
    (length c.args.rows.now.items) (sym c.in-None.is ∙ c.apart.ensures)))

pub returns-in-None-clause-number : goal.returns-in-None-clause-number
returns-in-None-clause-number c =
    subst (λ (n : ℕ). IfOk c.push_laid.result (λ number. number ≡ length c.args.rows.now.items + n))
    (size_apart None c.args.group.separated c.args.slots.now (sym c.in-None.is ∙ c.apart.ensures)) c.push_laid.ensures.number
