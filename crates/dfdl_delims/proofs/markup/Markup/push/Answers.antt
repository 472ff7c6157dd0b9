use Rattle.std.proofs.Common.{ap, sym, subst, ◌∙◌}
use Rattle.dfdl_delims.specs.Firsts.{AreFirsts}
use Rattle.dfdl_delims.specs.Registers.{Register}
use Rattle.dfdl_delims.proofs.Fills.{pushed}
use Rattle.dfdl_delims.proofs.Kept.{firsts_pushed}
use Rattle.dfdl_delims.proofs.markup.Markup.push.Goals as goal

pub returns-in-Ok-clause-pushed : goal.returns-in-Ok-clause-pushed
returns-in-Ok-clause-pushed c = λ lists holds. record {
  flat = pushed (record { marks = c.self.inside.marks.items; starts = c.self.inside.starts.items; pieces = c.self.inside.pieces.items })
      (record { marks = c.push.new.self.items; starts = c.put_list.new.starts.items; pieces = c.put_list.new.pieces.items }) lists
      (record { encoding = c.args.encoding; fold = c.args.fold; literals = c.args.literals.now }) c.len-place.result c.len-starts.result c.len-pieces.result
      (ap (λ (r : Register). r.flat) c.self.view_is ∙ holds.flat) (c.len-place.ensures ∙ c.self.inside.marks.ok.0) (c.len-starts.ensures ∙ c.self.inside.starts.ok.0)
      (c.len-pieces.ensures ∙ c.self.inside.pieces.ok.0) c.in_ok-push.ensures.items c.in-Ok.ensures.starts c.in-Ok.ensures.pieces;
  firsts = firsts_pushed lists (record { encoding = c.args.encoding; fold = c.args.fold; literals = c.args.literals.now }) c.self.inside.firsts.items
      c.put_list.new.firsts.items (subst (AreFirsts lists) (sym (ap (λ (r : Register). r.firsts) c.self.view_is)) holds.firsts) c.in-Ok.ensures.firsts;
}
