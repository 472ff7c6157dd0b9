use Rattle.std.proofs.Common.{ℕ, List, length, ap, arith, ◌+◌, ◌*◌, ◌≤◌}
use Rattle.dfdl_splice.proofs.Runs.{length-bits_from, appended}
use Rattle.dfdl_splice.proofs.buffer.Buffer.append.Goals as goal

pub grow-requires-clause-room : goal.grow-requires-clause-room
grow-requires-clause-room c =
    let b = c.self.inside in
    let room : length c.args.self.now.bits + c.args.count ≤ 8 * c.args.self.now.room = c.requires.room in
    let len : b.len + c.args.count ≤ 8 * b.room = rw (← c.self.view_is, length-bits_from b.order b.bytes.items 0 b.len) at room in
    omega arith

pub invariant_of-self : goal.invariant_of-self
invariant_of-self c =
    let b = c.self.inside in
    let room : length c.args.self.now.bits + c.args.count ≤ 8 * c.args.self.now.room = c.requires.room in
    let len : b.len + c.args.count ≤ 8 * b.room = rw (← c.self.view_is, length-bits_from b.order b.bytes.items 0 b.len) at room in
    (omega arith, omega arith, omega arith, omega arith, omega arith)

pub returns : goal.returns
returns c =
    let b = c.self.inside in
    rw (← c.self.view_is)
    (ap (λ (bits : List ℕ). record { bits = bits; order = b.order; room = b.room })
    (appended b.order b.bytes.items c.grow.new.bytes.items c.copy_into.new.bytes.items (length b.bytes.items) b.len c.args.from.now c.args.begin c.args.count
    c.grow.ensures.kept (omega arith) c.copy_into.ensures.copies))
