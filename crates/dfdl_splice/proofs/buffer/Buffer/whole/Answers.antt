use Rattle.std.proofs.Common.{sym, ◌∙◌, arith, ◌≡◌, ◌*◌, ◌/◌, take}
use Rattle.std.proofs.lemmas.List.{length-take-le}
use Rattle.dfdl_splice.proofs.Runs.{length-bits_from, bits_from-take, bits_from-front}
use Rattle.dfdl_splice.proofs.buffer.Buffer.whole.Goals as goal

pub returns-clause-bits : goal.returns-clause-bits
returns-clause-bits c =
    let b = c.self.inside in
    let front : c.part.result.now ≡ take (b.len / 8) b.bytes.items = rw c.deref.ensures.value at c.part.ensures.value in
    rw (← c.self.view_is, length-bits_from b.order b.bytes.items 0 b.len)
    (sym (bits_from-take b.order b.bytes.items 0 (8 * (b.len / 8)) b.len (omega arith)
    ∙ bits_from-front b.order c.part.result.now b.bytes.items (b.len / 8) (8 * (b.len / 8)) (sym front) (omega arith)))

pub returns-clause-len : goal.returns-clause-len
returns-clause-len c =
    let b = c.self.inside in
    let front : c.part.result.now ≡ take (b.len / 8) b.bytes.items = rw c.deref.ensures.value at c.part.ensures.value in
    rw (← c.self.view_is, length-bits_from b.order b.bytes.items 0 b.len, front)
    (length-take-le (b.len / 8) b.bytes.items (omega arith))
