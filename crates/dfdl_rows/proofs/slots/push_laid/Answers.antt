use Rattle.std.proofs.Common.{◌≡◌, ◌+◌, ℕ, length, IfOk, subst, arith}
use Rattle.dfdl_rows.specs.Slots.{laid_size}
use Rattle.dfdl_rows.proofs.Slotted.{after_laid}
use Rattle.dfdl_rows.proofs.slots.push_laid.Goals as goal

pub push_last-requires : goal.push_last-requires
push_last-requires c =
    let long : length c.append.new.self.items ≡ length c.args.rows.now.items + laid_size c.args.group.separated c.args.slots.now
    = after_laid c.args.group.initiated c.needed-way.result c.args.group.separated c.args.slots.now c.args.parts.now _ c.args.rows.now.items c.in_ok-laid.laid.rows.items c.append.new.self.items
    c.needed-way.ensures c.in_ok-laid.ensures.rows c.in_ok-append.ensures.items in
    omega (arith, long, c.requires)

pub returns-clause-number : goal.returns-clause-number
returns-clause-number c =
    subst (λ (n : ℕ). IfOk c.push_last.result (λ number. number ≡ n))
    (after_laid c.args.group.initiated c.needed-way.result c.args.group.separated c.args.slots.now c.args.parts.now _ c.args.rows.now.items c.in_ok-laid.laid.rows.items c.append.new.self.items
    c.needed-way.ensures c.in_ok-laid.ensures.rows c.in_ok-append.ensures.items)
    c.push_last.ensures.number
