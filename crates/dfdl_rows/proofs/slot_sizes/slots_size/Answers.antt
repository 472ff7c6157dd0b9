use Rattle.std.proofs.Common.{◌≡◌, ◌∙◌, Some, None, ap, sym, arith}
use Rattle.dfdl_rows.specs.Saturated.{saturated}
use Rattle.dfdl_rows.specs.Slots.{slots_size}
use Rattle.dfdl_rows.proofs.Grouped.{size_apart}
use Rattle.dfdl_rows.proofs.slot_sizes.slots_size.Goals as goal

pub returns-in-Some : goal.returns-in-Some
returns-in-Some c =
    let none : 0 ≡ slots_size c.args.separated c.args.slots.now
    = size_apart (Some c.in-Some.field-0) c.args.separated c.args.slots.now (sym c.in-Some.is ∙ c.apart.ensures) in
    omega (arith, none)

pub returns-in-None : goal.returns-in-None
returns-in-None c = c.laid_size.ensures ∙ ap saturated (size_apart None c.args.separated c.args.slots.now (sym c.in-None.is ∙ c.apart.ensures))
