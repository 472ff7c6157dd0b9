use Rattle.std.proofs.Common.{◌≡◌, ◌∙◌, ap}
use Rattle.dfdl_forms.specs.declared.order.BitOrder.{BitOrder}
use Rattle.dfdl_splice.specs.Copying.{Buffered}
use Rattle.dfdl_splice.specs.Splicing.{filled}
use Rattle.dfdl_splice.specs.Bits.{bits_from}
use Rattle.dfdl_splice.specs.Tables.{stretch_in}
use Rattle.dfdl_splice.proofs.Leads.{put_view}
use Rattle.dfdl_splice.proofs.splice.Splice.put.Goals as goal

pub returns-clause-put : goal.returns-clause-put
returns-clause-put c =
    let s = c.self.inside in
    let i = c.self.invariant in
    let front = c.take_lead.ensures.front in
    let st = stretch_in s.table in
    let is_put : stretch_in c.put.new.self ≡ filled c.args.piece (bits_from s.front.order c.args.bytes.now 0 c.args.bits) st.known st.awaited =
    c.put.ensures.stretch ∙ ap (λ (o : BitOrder). filled c.args.piece (bits_from o c.args.bytes.now 0 c.args.bits) st.known st.awaited) i.order in
    rw (← c.self.view_is)
    (put_view c.args.piece (bits_from s.front.order c.args.bytes.now 0 c.args.bits) s.front.bits c.take_lead.new.front.bits st (stretch_in c.put.new.self) (stretch_in c.take_lead.new.self)
    s.most_pieces s.most_bytes c.take_lead.new.front.order s.front.order c.take_lead.new.self.next s.table.next
    i.known is_put c.take_lead.ensures.stretch (ap (λ (b : Buffered). b.bits) front) (ap (λ (b : Buffered). b.order) front) (c.take_lead.ensures.next ∙ c.put.ensures.next))
