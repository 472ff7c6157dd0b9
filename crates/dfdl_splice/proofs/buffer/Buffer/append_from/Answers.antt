use Rattle.std.proofs.Common.{ℕ, List, length, ap, arith, sym, ◌+◌, ◌≤◌, ◌++◌}
use Rattle.dfdl_splice.proofs.Runs.{length-bits_from, bits_from-part}
use Rattle.dfdl_splice.proofs.buffer.Buffer.append_from.Goals as goal

pub append-requires-clause-inside : goal.append-requires-clause-inside
append-requires-clause-inside c =
    let b = c.from.inside in
    let inside : c.args.begin + c.args.count ≤ length c.args.from.now.bits = c.requires.inside in
    let len : c.args.begin + c.args.count ≤ b.len = rw (← c.from.view_is, length-bits_from b.order b.bytes.items 0 b.len) at inside in
    rw c.deref.ensures.value (omega arith)

pub append-requires-clause-fits : goal.append-requires-clause-fits
append-requires-clause-fits c =
    let b = c.from.inside in
    let inside : c.args.begin + c.args.count ≤ length c.args.from.now.bits = c.requires.inside in
    let len : c.args.begin + c.args.count ≤ b.len = rw (← c.from.view_is, length-bits_from b.order b.bytes.items 0 b.len) at inside in
    omega arith

pub returns : goal.returns
returns c =
    let b = c.from.inside in
    let inside : c.args.begin + c.args.count ≤ length c.args.from.now.bits = c.requires.inside in
    let len : c.args.begin + c.args.count ≤ b.len = rw (← c.from.view_is, length-bits_from b.order b.bytes.items 0 b.len) at inside in
    rw (c.append.ensures, c.deref.ensures.value, ← c.requires.order, ← c.from.view_is)
    (ap (λ (bits : List ℕ). record { bits = c.args.self.now.bits ++ bits; order = b.order; room = c.args.self.now.room })
    (sym (bits_from-part b.order b.bytes.items c.args.begin c.args.count b.len len)))
