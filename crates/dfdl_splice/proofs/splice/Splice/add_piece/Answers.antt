use Rattle.std.proofs.Common.{◌∙◌, ap, arith}
use Rattle.dfdl_splice.specs.Splicing.{Stretch}
use Rattle.dfdl_splice.specs.Tables.{stretch_in}
use Rattle.dfdl_splice.proofs.Leads.{behind-push}
use Rattle.dfdl_splice.proofs.splice.Splice.add_piece.Goals as goal

pub invariant_of-self : goal.invariant_of-self
invariant_of-self c =
    let s = c.self.invariant in
    let t = c.self.inside.table in
    let p = c.push.ensures in
    record {
      sound = p.sound;
      known = ap (λ (st : Stretch). st.known) p.stretch ∙ s.known;
      order = p.order ∙ s.order;
      front_room = s.front_room;
      room = omega (arith, p.room, s.room);
      entries = omega (arith, p.capacity, s.entries);
      count = rw p.stretch (omega (arith, s.count, behind-push (stretch_in t).awaited t.next c.args.bits));
      few = s.few;
    }
