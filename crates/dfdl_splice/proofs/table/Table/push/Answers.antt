use Rattle.std.proofs.Common.{ℕ, ◌≡◌, ◌+◌, ◌∙◌, Option, None, [], ◌∷◌, ◌++◌, arith, refl, length-append}
use Rattle.std.proofs.lemmas.List.{drop-append-le}
use Rattle.dfdl_splice.specs.declared.entry.Entry.TheVariants.{Awaits}
use Rattle.dfdl_splice.specs.Splicing.{Stretch}
use Rattle.dfdl_splice.proofs.Tables.{push_stretch, push_sound}
use Rattle.dfdl_splice.proofs.table.Table.push.Goals as goal

pub returns-clause-sound : goal.returns-clause-sound
returns-clause-sound c =
    let k = c.make_place.ensures.keeps in
    let t = c.make_place.new.self in
    push_sound t _ c.args.bits k.sound
    (rw c.push_entry.ensures.items (drop-append-le t.head t.entries.items (Awaits t.next c.args.bits ∷ []) k.sound.head))
    refl refl refl
    (rw c.push_entry.ensures.items (omega (arith, k.sound.head, length-append t.entries.items (Awaits t.next c.args.bits ∷ [])))) refl

more_same : (s t : Stretch) (m n : ℕ) (want : Option ℕ) → s ≡ t → m ≡ n
    → record s { awaited = s.awaited ++ record { piece = m; bits = want; behind = None } ∷ [] } ≡ record t { awaited = t.awaited ++ record { piece = n; bits = want; behind = None } ∷ [] }
more_same s t m n want e f = rw (e, f) refl

pub returns-clause-stretch : goal.returns-clause-stretch
returns-clause-stretch c =
    let k = c.make_place.ensures.keeps in
    let t = c.make_place.new.self in
    push_stretch t (record { entries = c.push_entry.new.entries; head = t.head; arena = t.arena; spare = t.spare; next = t.next + 1; runs = t.runs + 1 }) c.args.bits k.sound
    (rw c.push_entry.ensures.items (drop-append-le t.head t.entries.items (Awaits t.next c.args.bits ∷ []) k.sound.head))
    refl refl refl
    (rw c.push_entry.ensures.items (omega (arith, k.sound.head, length-append t.entries.items (Awaits t.next c.args.bits ∷ [])))) refl
    ∙ more_same _ _ _ _ c.args.bits k.stretch k.next
