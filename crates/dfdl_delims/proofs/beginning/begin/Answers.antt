use Rattle.std.proofs.Common.{◌++◌, ◌∙◌, ap}
use Rattle.dfdl_delims.specs.Standing.{begins_of}
use Rattle.dfdl_delims.proofs.Selected.{all_opened}
use Rattle.dfdl_delims.proofs.beginning.begin.Goals as goal

pub returns : goal.returns
returns c = λ opened opens.
    let flat = c.args.lists.markup.now.flat in
    let numbers = c.args.lists.numbers.now in
    all_opened flat opens.all numbers opened opens.holds.flat opens.named c.put_lists.new.live.items
    (c.in_ok-put_lists.ensures
    ∙ ap (λ l. l ++ begins_of c.marks.result.now c.starts.result.now 0 numbers) c.clear.ensures.items
    ∙ ap (λ m. begins_of m c.starts.result.now 0 numbers) c.marks.ensures
    ∙ ap (λ s. begins_of flat.marks s 0 numbers) c.starts.ensures)
