use Rattle.std.proofs.Common.{refl, ap, ◌∙◌, get_or, length}
use Rattle.std.proofs.lemmas.List.{length-replicate}
use Rattle.dfdl_checks.specs.Places.{nowhere}
use Rattle.dfdl_breaches.proofs.Numbering.{length-sites}
use Rattle.dfdl_breaches.proofs.Standings.{first_noted, next_group}
use Rattle.dfdl_breaches.proofs.standing.standings_of.Goals as goal

pub loop-site-init : goal.loop-site-init
loop-site-init c = record {
  many =
      ap length (c.in_ok-standings.ensures.items_if_clones_equal (λ y same. same))
      ∙ (length-replicate c.len.result c.nowhere.result
      ∙ (c.len.ensures ∙ (c.args.kept.now.sites.now.all.ok.0 ∙ (ap length c.requires.sites.all ∙ length-sites c.args.schema.now))));
  noted = λ e.
      first_noted c.args.schema.now c.as_slice-site-items.result.now c.in_ok-standings.standings.items c.len.result e c.nowhere.result
      (c.in_ok-standings.ensures.items_if_clones_equal (λ y same. same)) c.nowhere.ensures;
}

pub loop-site-preserved : goal.loop-site-preserved
loop-site-preserved c = record {
  many = c.in_ok-note_group.ensures.many ∙ c.loop-site.invariant.many;
  noted = λ e.
      next_group c.args.schema.now c.as_slice-site-items.result.now (get_or c.loop-site.standings.items e nowhere)
      (get_or c.note_group.new.standings.items e nowhere) c.loop-site.site-index e (record { document = 0; element = 0 })
      (get_or c.as_slice-site-items.result.now c.loop-site.site-index (record { document = 0; element = 0 })) c.loop-site-test.true refl
      (c.loop-site.invariant.noted e) (c.in_ok-note_group.ensures.noted e);
}
