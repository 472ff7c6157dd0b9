use Rattle.std.proofs.Common.{◌∷◌, sym, subst, ◌<◌, length, arith}
use Rattle.std.specs.List.Sorted.{IsPermutation}
use Rattle.std.proofs.lemmas.List.Sorted.{IsPermutation-swap_remove}
use Rattle.std.proofs.lemmas.Option.{slice_get_within}
use Rattle.dfdl_suspend.specs.declared.mark.Mark.TheVariants.{Ready}
use Rattle.dfdl_suspend.proofs.Readies.{left_ready, ready_at_is}
use Rattle.dfdl_suspend.proofs.queue.leave.Goals as goal

pub index_mut-requires : goal.index_mut-requires
index_mut-requires c =
    let stands = ready_at_is c.args.marks.now.items c.args.ready.now.items c.args.choice c.swap_remove-cell.result c.requires.readies c.requires.choice c.swap_remove-cell.ensures.value in
    let low : c.swap_remove-cell.result < length c.args.marks.now.items = slice_get_within c.args.marks.now.items c.swap_remove-cell.result Ready stands in
    omega arith

pub returns-clause-readies : goal.returns-clause-readies
returns-clause-readies c =
    left_ready c.args.marks.now.items c.args.ready.now.items c.requires.readies c.swap_remove-cell.result c.args.mark c.swap_remove-cell.new.self.items
    (ready_at_is c.args.marks.now.items c.args.ready.now.items c.args.choice c.swap_remove-cell.result c.requires.readies c.requires.choice c.swap_remove-cell.ensures.value)
    (subst (λ xs. IsPermutation c.args.ready.now.items (c.swap_remove-cell.result ∷ xs)) (sym c.swap_remove-cell.ensures.items)
    (IsPermutation-swap_remove c.args.ready.now.items c.args.choice c.swap_remove-cell.result c.requires.choice c.swap_remove-cell.ensures.value))
    c.requires.other
