use Rattle.std.proofs.Common.{◌≡◌, ◌∙◌, ◌-◌, List, length, take, drop, ap, arith, refl}
use Rattle.std.proofs.lemmas.List.{take_rest}
use Rattle.dfdl_splice.specs.declared.entry.Entry.{Entry}
use Rattle.dfdl_splice.specs.Entries.{slots, begins_has}
use Rattle.dfdl_splice.specs.Tables.{live}
use Rattle.dfdl_splice.proofs.Leads.{lead_sound, lead_count}
use Rattle.dfdl_splice.proofs.table.Table.take_lead.Goals as goal

pub returns-clause-sound : goal.returns-clause-sound
returns-clause-sound c =
    let t = c.args.self.now in
    let m = c.move_lead-self.ensures in
    let whole : take (length c.deref.result.now - t.head) (drop t.head c.deref.result.now) ≡ live t =
    take_rest c.deref.result.now t.head ∙ ap (drop t.head) c.deref.ensures.value in
    let begins : c.begins_known.result ≡ begins_has (slots t.arena.bits (live t)) =
    c.begins_known.ensures t.arena.bits ∙ ap (λ (all : List Entry). begins_has (slots t.arena.bits all)) whole in
    lead_sound t (record { entries = t.entries; head = c.move_lead-self.result; arena = t.arena; spare = t.spare; next = t.next; runs = t.runs - c.begins_known.result })
    c.requires.sound m.behind (omega (arith, m.inside, ap length c.deref-2.ensures.value)) refl (rw c.deref-2.ensures.value at m.stretch) refl refl refl
    (omega (arith, begins, c.requires.sound.runs, lead_count (slots t.arena.bits (live t))))
