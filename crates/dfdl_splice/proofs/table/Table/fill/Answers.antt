use Rattle.std.proofs.Common.{◌≡◌, ℕ, ◌+◌, ◌-◌, List, length, ap, refl, ◌∙◌, arith}
use Rattle.std.specs.Vec.{with_item}
use Rattle.std.proofs.lemmas.List.{length-set}
use Rattle.dfdl_splice.specs.declared.entry.Entry.TheVariants.{Known}
use Rattle.dfdl_splice.specs.Bits.{bits_from}
use Rattle.dfdl_splice.specs.Entries.{bits_in}
use Rattle.dfdl_splice.specs.Tables.{stretch_in}
use Rattle.dfdl_splice.proofs.Runs.{length-bits_from}
use Rattle.dfdl_splice.proofs.Filling.{front, back, ends_are, begins_are, joins_fit, joins_few, old_live, new_live, piece_told}
use Rattle.dfdl_splice.proofs.Tables.{fill_stretch, fill_bits, fill_sound}
use Rattle.dfdl_splice.proofs.table.Table.fill.Goals as goal

pub overflow_add-joins : goal.overflow_add-joins
overflow_add-joins c =
    let t = c.args.self.now in
    omega (arith, joins_fit t.entries.items c.deref.result.now c.deref-2.result.now t.head c.args.at c.ends_known.result c.begins_known.result t.arena.bits c.deref.ensures.value c.deref-2.ensures.value c.ends_known.ensures c.begins_known.ensures)

pub overflow_sub-self : goal.overflow_sub-self
overflow_sub-self c =
    let t = c.args.self.now in
    let bits : List ℕ = bits_from t.arena.order c.args.bytes.now 0 c.args.count in
    let size : length bits ≡ c.args.count = length-bits_from t.arena.order c.args.bytes.now 0 c.args.count in
    let told : c.piece-piece.result ≡ c.requires.awaited.0 = piece_told t c.args.at c.requires.awaited.0 c.requires.sound c.requires.awaited.1 c.requires.within c.piece-piece.result c.index.result.now c.piece-piece.ensures c.index.ensures in
    let ends = ends_are t.entries.items c.deref.result.now c.deref-2.result.now t.head c.args.at c.ends_known.result c.begins_known.result t.arena.bits c.deref.ensures.value c.deref-2.ensures.value c.ends_known.ensures c.begins_known.ensures in
    let begins = begins_are t.entries.items c.deref.result.now c.deref-2.result.now t.head c.args.at c.ends_known.result c.begins_known.result t.arena.bits c.deref.ensures.value c.deref-2.ensures.value c.ends_known.ensures c.begins_known.ensures in
    let few = joins_few t c.args.at c.requires.awaited.0 c.requires.sound c.requires.awaited.1 c.requires.within in
    omega (arith, ends, begins, few)

pub returns-clause-sound : goal.returns-clause-sound
returns-clause-sound c =
    let t = c.args.self.now in
    let bits : List ℕ = bits_from t.arena.order c.args.bytes.now 0 c.args.count in
    let size : length bits ≡ c.args.count = length-bits_from t.arena.order c.args.bytes.now 0 c.args.count in
    let told : c.piece-piece.result ≡ c.requires.awaited.0 = piece_told t c.args.at c.requires.awaited.0 c.requires.sound c.requires.awaited.1 c.requires.within c.piece-piece.result c.index.result.now c.piece-piece.ensures c.index.ensures in
    let ends = ends_are t.entries.items c.deref.result.now c.deref-2.result.now t.head c.args.at c.ends_known.result c.begins_known.result t.arena.bits c.deref.ensures.value c.deref-2.ensures.value c.ends_known.ensures c.begins_known.ensures in
    let begins = begins_are t.entries.items c.deref.result.now c.deref-2.result.now t.head c.args.at c.ends_known.result c.begins_known.result t.arena.bits c.deref.ensures.value c.deref-2.ensures.value c.ends_known.ensures c.begins_known.ensures in
    let few = joins_few t c.args.at c.requires.awaited.0 c.requires.sound c.requires.awaited.1 c.requires.within in
    fill_sound t _ (front t c.args.at c.requires.awaited.0 c.requires.sound c.requires.awaited.1 c.requires.within) (back t c.args.at c.requires.awaited.0 c.requires.sound c.requires.awaited.1 c.requires.within) c.requires.awaited.0 c.requires.awaited.1.1 bits c.requires.sound
    (old_live t c.args.at c.requires.awaited.0 c.requires.sound c.requires.awaited.1 c.requires.within)
    (new_live t c.args.at c.requires.awaited.0 c.requires.sound c.requires.awaited.1 c.requires.within c.piece-piece.result c.len-begin.result c.args.count bits told c.len-begin.ensures.len size)
    c.append.ensures refl refl (rw (length-set t.entries.items c.args.at (Known c.piece-piece.result c.len-begin.result c.args.count)) c.requires.sound.head) (omega (arith, size, c.requires.room)) (omega (arith, ends, begins, few))

pub returns-clause-stretch : goal.returns-clause-stretch
returns-clause-stretch c = λ piece there.
    let t = c.args.self.now in
    let bits : List ℕ = bits_from t.arena.order c.args.bytes.now 0 c.args.count in
    let size : length bits ≡ c.args.count = length-bits_from t.arena.order c.args.bytes.now 0 c.args.count in
    let told : c.piece-piece.result ≡ piece = piece_told t c.args.at piece c.requires.sound there c.requires.within c.piece-piece.result c.index.result.now c.piece-piece.ensures c.index.ensures in
    let ends = ends_are t.entries.items c.deref.result.now c.deref-2.result.now t.head c.args.at c.ends_known.result c.begins_known.result t.arena.bits c.deref.ensures.value c.deref-2.ensures.value c.ends_known.ensures c.begins_known.ensures in
    let begins = begins_are t.entries.items c.deref.result.now c.deref-2.result.now t.head c.args.at c.ends_known.result c.begins_known.result t.arena.bits c.deref.ensures.value c.deref-2.ensures.value c.ends_known.ensures c.begins_known.ensures in
    let few = joins_few t c.args.at piece c.requires.sound there c.requires.within in
    fill_stretch t (record { entries = with_item t.entries c.args.at (Known c.piece-piece.result c.len-begin.result c.args.count); head = t.head; arena = c.append.new.self; spare = t.spare; next = t.next; runs = t.runs - (c.ends_known.result + c.begins_known.result) }) (front t c.args.at piece c.requires.sound there c.requires.within) (back t c.args.at piece c.requires.sound there c.requires.within) piece there.1 bits c.requires.sound
    (old_live t c.args.at piece c.requires.sound there c.requires.within)
    (new_live t c.args.at piece c.requires.sound there c.requires.within c.piece-piece.result c.len-begin.result c.args.count bits told c.len-begin.ensures.len size)
    c.append.ensures refl refl (rw (length-set t.entries.items c.args.at (Known c.piece-piece.result c.len-begin.result c.args.count)) c.requires.sound.head) (omega (arith, size, c.requires.room)) (omega (arith, ends, begins, few))

pub returns-clause-bits : goal.returns-clause-bits
returns-clause-bits c =
    let t = c.args.self.now in
    let bits : List ℕ = bits_from t.arena.order c.args.bytes.now 0 c.args.count in
    let size : length bits ≡ c.args.count = length-bits_from t.arena.order c.args.bytes.now 0 c.args.count in
    let told : c.piece-piece.result ≡ c.requires.awaited.0 = piece_told t c.args.at c.requires.awaited.0 c.requires.sound c.requires.awaited.1 c.requires.within c.piece-piece.result c.index.result.now c.piece-piece.ensures c.index.ensures in
    let ends = ends_are t.entries.items c.deref.result.now c.deref-2.result.now t.head c.args.at c.ends_known.result c.begins_known.result t.arena.bits c.deref.ensures.value c.deref-2.ensures.value c.ends_known.ensures c.begins_known.ensures in
    let begins = begins_are t.entries.items c.deref.result.now c.deref-2.result.now t.head c.args.at c.ends_known.result c.begins_known.result t.arena.bits c.deref.ensures.value c.deref-2.ensures.value c.ends_known.ensures c.begins_known.ensures in
    let few = joins_few t c.args.at c.requires.awaited.0 c.requires.sound c.requires.awaited.1 c.requires.within in
    fill_bits t (record { entries = with_item t.entries c.args.at (Known c.piece-piece.result c.len-begin.result c.args.count); head = t.head; arena = c.append.new.self; spare = t.spare; next = t.next; runs = t.runs - (c.ends_known.result + c.begins_known.result) }) (front t c.args.at c.requires.awaited.0 c.requires.sound c.requires.awaited.1 c.requires.within) (back t c.args.at c.requires.awaited.0 c.requires.sound c.requires.awaited.1 c.requires.within) c.requires.awaited.0 c.requires.awaited.1.1 bits c.requires.sound
    (old_live t c.args.at c.requires.awaited.0 c.requires.sound c.requires.awaited.1 c.requires.within)
    (new_live t c.args.at c.requires.awaited.0 c.requires.sound c.requires.awaited.1 c.requires.within c.piece-piece.result c.len-begin.result c.args.count bits told c.len-begin.ensures.len size)
    c.append.ensures refl refl (rw (length-set t.entries.items c.args.at (Known c.piece-piece.result c.len-begin.result c.args.count)) c.requires.sound.head) (omega (arith, size, c.requires.room)) (omega (arith, ends, begins, few)) ∙ ap (λ (n : ℕ). bits_in (stretch_in t) + n) size
