use Rattle.std.proofs.Common.{ℕ, ◌≡◌, ◌+◌, ◌-◌, ◌<◌, ◌∙◌, List, length, take, drop, get_or, ap, arith, refl}
use Rattle.std.proofs.lemmas.List.{take_rest}
use Rattle.dfdl_forms.specs.declared.order.BitOrder.{BitOrder}
use Rattle.dfdl_splice.specs.declared.entry.Entry.{Entry}
use Rattle.dfdl_splice.specs.declared.table.Table.{Table}
use Rattle.dfdl_splice.specs.Bits.{bits_from}
use Rattle.dfdl_splice.specs.Splicing.{Stretch, IsAwaited, filled}
use Rattle.dfdl_splice.specs.Entries.{piece_of}
use Rattle.dfdl_splice.specs.Tables.{Keeps, IsAwaitedAt, live, stretch_in}
use Rattle.dfdl_splice.proofs.Tables.{found}
use Rattle.dfdl_splice.proofs.table.Table.put.Goals as goal

-- where the piece is found in a table that stands for the same
found_here : (old table : Table) (items : List Entry) (piece count result : ℕ) → Keeps old table → IsAwaited piece count (stretch_in old).awaited → items ≡ table.entries.items
    → ((i : ℕ) (any : Entry) → i < length (take (length items - table.head) (drop table.head items)) → piece_of (get_or (take (length items - table.head) (drop table.head items)) i any) ≡ piece → result ≡ i)
    → (table.head + result < length table.entries.items) × IsAwaitedAt table (table.head + result) piece
found_here old table items piece count result keeps awaited is finds =
    let whole : take (length items - table.head) (drop table.head items) ≡ live table = take_rest items table.head ∙ ap (drop table.head) is in
    found table piece count result (rw keeps.stretch awaited) (λ i any. rw whole at (finds i any))

pub overflow_add-at : goal.overflow_add-at
overflow_add-at c =
    let f = found_here c.args.self.now c.make_room.new.self c.deref.result.now c.args.piece c.args.count c.find.result c.make_room.ensures.keeps c.requires.awaited c.deref.ensures.value c.find.ensures in
    omega (arith, f.0, c.deref.type_inv.0, ap length c.deref.ensures.value)

pub fill-requires-clause-within : goal.fill-requires-clause-within
fill-requires-clause-within c =
    (found_here c.args.self.now c.make_room.new.self c.deref.result.now c.args.piece c.args.count c.find.result c.make_room.ensures.keeps c.requires.awaited c.deref.ensures.value c.find.ensures).0

pub fill-requires-clause-awaited : goal.fill-requires-clause-awaited
fill-requires-clause-awaited c =
    let f = found_here c.args.self.now c.make_room.new.self c.deref.result.now c.args.piece c.args.count c.find.result c.make_room.ensures.keeps c.requires.awaited c.deref.ensures.value c.find.ensures in
    (c.args.piece, f.1)

filled_same : (s t : Stretch) (o p : BitOrder) (bytes : List ℕ) (piece count : ℕ) → s ≡ t → o ≡ p
    → filled piece (bits_from o bytes 0 count) s.known s.awaited ≡ filled piece (bits_from p bytes 0 count) t.known t.awaited
filled_same s t o p bytes piece count e f = rw (e, f) refl

pub returns-clause-stretch : goal.returns-clause-stretch
returns-clause-stretch c =
    let k = c.make_room.ensures.keeps in
    let f = found_here c.args.self.now c.make_room.new.self c.deref.result.now c.args.piece c.args.count c.find.result c.make_room.ensures.keeps c.requires.awaited c.deref.ensures.value c.find.ensures in
    c.fill.ensures.stretch c.args.piece f.1
    ∙ filled_same _ _ _ _ c.args.bytes.now c.args.piece c.args.count k.stretch k.order
