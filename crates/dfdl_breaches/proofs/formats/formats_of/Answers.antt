use Rattle.std.proofs.Common.{sym, ap, ◌∙◌, length}
use Rattle.std.proofs.lemmas.List.{length-map}
use Rattle.dfdl_chains.specs.Everywhere.{all_sites}
use Rattle.dfdl_breaches.proofs.Joining.{all-joined, both-ok}
use Rattle.dfdl_breaches.proofs.Ordered.{formats_ordered}
use Rattle.dfdl_breaches.specs.Tabled.{number_after}
use Rattle.dfdl_breaches.proofs.formats.formats_of.Goals as goal

pub formats-requires-clause-count : goal.formats-requires-clause-count
formats-requires-clause-count c =
    ap length c.as_slice.ensures.value
    ∙ (c.in_ok-own.ensures.count
    ∙ (ap length c.requires.sites.all
    ∙ sym (ap length c.as_slice-2.ensures.value ∙ (ap length c.in_ok-after.ensures ∙ length-map (all_sites c.args.schema.now) (number_after c.args.schema.now)))))

pub formats-requires-clause-order : goal.formats-requires-clause-order
formats-requires-clause-order c =
    formats_ordered c.args.schema.now c.in_ok-order.order c.as_slice-2.result.now c.in_ok-order.ensures (c.as_slice-2.ensures.value ∙ c.in_ok-after.ensures)

pub returns : goal.returns
returns c =
    both-ok _ _ _ c.formats.result
    (λ made count each.
    all-joined c.args.schema.now c.args.sites.now.all.items c.in_ok-own.own.items c.as_slice.result.now c.as_slice-2.result.now made.items c.requires.sites.all c.in_ok-own.ensures
    c.as_slice.ensures.value (c.as_slice-2.ensures.value ∙ c.in_ok-after.ensures) count each)
    c.formats.ensures.count c.formats.ensures.each
